-- The code of the trees of accepted definitions.
use Rattle.std.specs.Prelude.{ℕ, Bool, List}
use Rattle.model.specs.lists.Syntax.{Definition}
use Rattle.model.specs.lists.Elaborated.{TypedRules}
use Rattle.model.specs.rules.Program.{Program}
use Rattle.model.specs.sites.RuleSets.{IsBuilt}
use Rattle.model.specs.trees.Best.{IsBestTree}
use Rattle.model.specs.claims.Layers.{own_program, IsAccepted, LoweredTerm}
use Rattle.model_code.specs.Code.{Block}
use Rattle.model_code.specs.TreeCode.{Passes, tree_code}
use Rattle.model_code.specs.Flat.{flat}

-- what holds of each best tree of a set that is built of accepted definitions
abbrev pub OfBestTrees : (Program → LoweredTerm → Type 0) → Type 0
OfBestTrees P =
    (defs : List Definition) (expand : Bool) (rules : TypedRules) (l : LoweredTerm)
    → IsAccepted defs expand rules → IsBuilt (own_program defs rules) l.term l.set → IsBestTree l.set l.tree
    → P (own_program defs rules) l

-- the code of a term, however its values are handed on, and at whatever depths its bodies get labels
abbrev pub EachCode : LoweredTerm → (Block → Type 0) → Type 0
EachCode l P = (passes : Passes) (deep : ℕ → Bool) (n : ℕ) → P (flat (tree_code l.tree l.set.sites passes) deep n)
