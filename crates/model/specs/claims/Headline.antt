-- The headline: a tree chooses as a test of every rule by priority would.
use Rattle.std.specs.Prelude.{◌≡◌, ℕ, false, List, IsTrue}
use Rattle.model.specs.rules.Values.{Value, args_well_typed}
use Rattle.model.specs.rules.Meaning.{Meaning}
use Rattle.model.specs.rules.Program.{Program, is_multi, arg_types, rules_of}
use Rattle.model.specs.rules.Choice.{choice, MatchesOnce}
use Rattle.model.specs.sites.Sites.{Site}
use Rattle.model.specs.sites.Serves.{Serves, TellsConstantsApart}
use Rattle.model.specs.trees.Run.{run, world_of}
use Rattle.model.specs.trees.Trees.{Tree}

-- in a term that isn't multi, on all well-typed arguments, and under every meaning that serves the term's rules and tells
-- constants apart, the tree's run has the outcome of the matching source rule of greatest priority, or no rule and no
-- impure calls; and no second rule of that priority matches
abbrev pub RunsAsChosen : Program → ℕ → List Site → Tree → Type 0
RunsAsChosen p t sites tree =
    is_multi p t ≡ false → (m : Meaning) (args : List Value)
    → IsTrue (args_well_typed p.types (arg_types p t) args) → Serves p m args (rules_of p t) → TellsConstantsApart p m (rules_of p t)
    → (run tree (world_of p t sites m args) ≡ choice p m (rules_of p t) args) × MatchesOnce p m (rules_of p t) args
