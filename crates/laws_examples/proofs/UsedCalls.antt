-- Trees that use a call or its answer without binding it in time: the judge of binding refuses them.
use Rattle.std.proofs.Common.{◌≡◌, [], ◌∷◌, false, true, Bool, refl}
use Rattle.std.proofs.lemmas.Bool.Decides.{not_from_Decides}
use Rattle.model.specs.claims.Layers.{BindsBeforeUse}
use Rattle.model.specs.sites.Sites.{SiteSet}
use Rattle.model.specs.trees.Judge.{returns_apart}
use Rattle.model.specs.trees.Trees.{Tree}
use Rattle.laws_trees.specs.BestLaws.{binds_as_marked}
use Rattle.laws_trees.proofs.binding.BindingJudge.{binding_judge_is_exact_lem}
use Rattle.laws_examples.specs.Dropped.{CallsAreBoundToo, dropped_set, dropped_with}
use Rattle.laws_examples.specs.UsedCalls.{NearTreesDoNotBind, used_set, used_with}

pub does_not_bind : (set : SiteSet) (multi : Bool) (tree : Tree) → returns_apart set.rules ≡ true → binds_as_marked set multi tree ≡ false → BindsBeforeUse set multi tree → ⊥
does_not_bind set multi tree apart fails = not_from_Decides (binds_as_marked set multi tree) (binding_judge_is_exact_lem set multi tree apart) fails

pub near_trees_do_not_bind : NearTreesDoNotBind
near_trees_do_not_bind = (
  does_not_bind used_set false (used_with [] []) refl refl,
  does_not_bind used_set false (used_with (2 ∷ 1 ∷ []) []) refl refl,
  does_not_bind used_set false (used_with (1 ∷ []) (2 ∷ [])) refl refl,
  does_not_bind used_set false (used_with (1 ∷ []) (1 ∷ [])) refl refl,
)

pub calls_are_bound_too : CallsAreBoundToo
calls_are_bound_too = does_not_bind dropped_set false (dropped_with []) refl refl
