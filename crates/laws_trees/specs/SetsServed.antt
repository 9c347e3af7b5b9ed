-- What does the set of a term mean where a meaning serves the term's rules?
use Rattle.std.specs.Prelude.{◌≡◌, Bool, true, false, List, All}
use Rattle.model.specs.lists.Syntax.{Definition}
use Rattle.model.specs.lists.Elaborated.{TypedRules}
use Rattle.model.specs.rules.Values.{Value}
use Rattle.model.specs.rules.Meaning.{Meaning}
use Rattle.model.specs.rules.Program.{Program, is_multi, rules_of}
use Rattle.model.specs.trees.Run.{World, run, world_of}
use Rattle.model.specs.trees.Best.{HasNoLoop}
use Rattle.model.specs.trees.Collects.{Collects, HasCollectedResults, set_bag}
use Rattle.model.specs.trees.SetRuns.{ChoosesFrom, HoldsOnce}
use Rattle.model.specs.claims.SetMeanings.{WhereServed, MeansItsRules}
use Rattle.model.specs.claims.Layers.{own_program, IsAccepted, LoweredTerm, IsLoweredTerm}

-- the world in which the tree of a term runs
abbrev pub world_of_term : Program → LoweredTerm → Meaning → List Value → World
world_of_term p l m args = world_of p l.term l.set.sites m args

-- on all well-typed arguments, and under every meaning that serves the term's rules and tells constants apart: in a term
-- that isn't multi the tree takes a rule of greatest priority among those whose demands hold, the only one of that priority;
-- in a multi term whose rules make no impure call and leave no multi call of an if-let unused it collects the bag of the
-- set. A rule's demands hold exactly where its typed rule matches, and taking it gives that rule's outcome. In a term that
-- isn't multi the tree has no loop
pub record MeansItsSetWhereServed (p : Program) (l : LoweredTerm) : Type 0 where
  pub chooses : is_multi p l.term ≡ false → WhereServed p l.term (λ m args. ChoosesFrom l.set (world_of_term p l m args) (run l.tree (world_of_term p l m args)))
  pub once : is_multi p l.term ≡ false → WhereServed p l.term (λ m args. HoldsOnce l.set.rules (world_of_term p l m args))
  pub collects : is_multi p l.term ≡ true → All (HasCollectedResults p) (rules_of p l.term)
      → WhereServed p l.term (λ m args. Collects (run l.tree (world_of_term p l m args)) (set_bag l.set (world_of_term p l m args)))
  pub straight : is_multi p l.term ≡ false → HasNoLoop l.tree
  pub rules : MeansItsRules p l.term l.set

-- what accepted definitions are lowered to does
abbrev pub LoweredSetsMeanTheirRules : Type 0
LoweredSetsMeanTheirRules =
    (defs : List Definition) (expand : Bool) (rules : TypedRules) (l : LoweredTerm)
    → IsAccepted defs expand rules → IsLoweredTerm (own_program defs rules) l → MeansItsSetWhereServed (own_program defs rules) l
