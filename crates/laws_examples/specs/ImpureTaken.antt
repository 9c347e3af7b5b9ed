-- The sample with an impure call, served on 1: taking its rule gives its right side's outcome.
use Rattle.std.specs.Prelude.{◌≡◌, ◌∷◌, [], pos, Some}
use Rattle.model.specs.claims.Layers.{own_program}
use Rattle.model.specs.claims.SetMeanings.{returning_once}
use Rattle.model.specs.rules.Matching.{Vars, matches}
use Rattle.model.specs.rules.Meaning.{Meaning, one, finite}
use Rattle.model.specs.rules.Outcome.{Outcome}
use Rattle.model.specs.rules.Program.{Program, rules_of}
use Rattle.model.specs.rules.RightSide.{right_side}
use Rattle.model.specs.sites.Serves.{Serves, TellsConstantsApart}
use Rattle.model.specs.trees.Run.{World, world_of}
use Rattle.model.specs.trees.SetRuns.{IsTaken, IsTestedSet, ServesTests}
use Rattle.laws_examples.specs.Impure.{after_call, call_on_argument, impure_defs, impure_rule, impure_rules, impure_set}
use Rattle.laws_examples.specs.MeaningForms.{given, v, no_entries}

abbrev pub impure_program : Program
impure_program = own_program impure_defs impure_rules

-- the first call of im answers 5
abbrev pub five_at_first : Meaning
five_at_first = finite (record no_entries { impure_calls = ((0, 0), one (v (pos 5))) ∷ [] })

abbrev pub impure_world : World
impure_world = world_of impure_program 1 impure_set.sites five_at_first (given (pos 1))

-- the meaning has what the rule asks, and tells constants apart; the set is tested, and the world has what its tests ask
abbrev pub ImpureIsServed : Type 0
ImpureIsServed =
    Serves impure_program five_at_first (given (pos 1)) (rules_of impure_program 1)
    × TellsConstantsApart impure_program five_at_first (rules_of impure_program 1)
    × IsTestedSet impure_set
    × ServesTests impure_set impure_world

-- the call is made, and answers 5
abbrev pub five_called : Outcome
five_called = after_call (v (pos 1)) (Some (one (v (pos 5))))

-- the rule is taken with this outcome, which is that of its right side
abbrev pub ImpureIsTaken : Type 0
ImpureIsTaken =
    IsTaken (returning_once impure_world) call_on_argument five_called
    × ((e : Vars) → matches impure_program five_at_first impure_rule (given (pos 1)) ≡ Some e → five_called ≡ right_side impure_program five_at_first impure_rule e)
