-- The dead returns of a block that stands behind a return, or behind none.
use Rattle.std.specs.Prelude.{◌≡◌, ℕ, List, [], ◌∷◌, ◌++◌, map, Option, Some, None}
use Rattle.core_syntax.specs.declared.syntax.Pos.{Pos}
use Rattle.core_syntax.specs.SyntaxViews.{position}
use Rattle.model.specs.lists.Syntax.{Position}
use Rattle.model.specs.trees.Trees.{Tree, step, Check, Arms}
use Rattle.laws_ways.specs.DeadReturns.{returns_among, behind, dead_returns, dead_among}
use Rattle.report_warnings.specs.Kinds.{kind_name}
use Rattle.report_warnings.specs.declared.kinds.Warning.TheVariants as W

abbrev pub place_pair : Pos × Pos → Position × Position
place_pair d = (position d.0, position d.1)

abbrev pub place_pairs : List (Pos × Pos) → List (Position × Position)
place_pairs ds = map place_pair ds

-- behind a return all returns are dead by that one
abbrev pub dead_from : Option Pos → Tree → List (Position × Position)
dead_from None tree = dead_returns tree
dead_from (Some first) tree = behind (position first) tree

abbrev pub dead_among_from : Option Pos → Arms → List (Position × Position)
dead_among_from None arms = dead_among arms
dead_among_from (Some first) arms = map (λ at. (at, position first)) (returns_among arms)

-- what is added, and what is dead in the rest of a block that stands behind the second return, is what is dead in the step and
-- that rest, which stand behind the first one
abbrev pub PassesStep : (first after : Option Pos) → Check → (before now : List (Pos × Pos)) → Type 0
PassesStep first after check before now =
    (binds : List ℕ) (rest : Tree) → place_pairs now ++ dead_from after rest ≡ place_pairs before ++ dead_from first (step binds check rest)

-- of a dead return and the one that it stands behind: that its rule never runs, and the places of both rules
abbrev pub told_of_dead : Position × Position → List ℕ × List Position
told_of_dead d = (kind_name W.NeverRun, d.0 ∷ d.1 ∷ [])
