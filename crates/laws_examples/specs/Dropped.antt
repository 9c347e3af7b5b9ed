-- A sample: an impure call whose answer nothing takes. It is the one of `Impure`, but for what the rule gives.
--   (decl im (u8) u8)
--   (extern constructor im im_fn)
--   (decl f (u8) u8)
--   (rule (f x) (let ((y u8 (im x))) x))
use Rattle.std.specs.Prelude.{◌∷◌, [], ℕ, false, List}
use Rattle.model.specs.claims.Layers.{BindsBeforeUse}
use Rattle.model.specs.sites.Sites.{SiteSet}
use Rattle.model.specs.trees.Trees.{Tree, no_step}
use Rattle.laws_examples.specs.Impure.{call_on_argument, impure_set}
use Rattle.laws_examples.specs.SetForms.{returning}
use Rattle.laws_examples.specs.Stages.{TreeSample}

-- the call is made, and the argument is the result
abbrev pub dropped_set : SiteSet
dropped_set = record impure_set { rules = record call_on_argument { result = 0 } ∷ [] }

-- the tree that returns after it bound these sites
abbrev pub dropped_with : List ℕ → Tree
dropped_with binds = returning binds 3 0 no_step

abbrev pub dropped_sample : TreeSample
dropped_sample = record { multi = false; set = dropped_set; tree = dropped_with (1 ∷ []); near_trees = dropped_with [] ∷ [] }

-- the result alone is there without the call, which the rule uses though: it must be bound too
abbrev pub CallsAreBoundToo : Type 0
CallsAreBoundToo = BindsBeforeUse dropped_set false (dropped_with []) → ⊥
