-- Two rules for different numbers: their set is served, and the demands of one alone hold.
use Rattle.std.proofs.Common.{pos, refl, arith}
use Rattle.std.proofs.lemmas.Grind.{common_steps}
use Rattle.model.specs.trees.SetRuns.{ServesTests}
use Rattle.model.specs.claims.Layers.{own_program}
use Rattle.laws_typing.proofs.WellTypedRules.{read_programs_are_well_typed}
use Rattle.laws_trees.proofs.taken.ServesRuns.{served_sets_serve_tests_lem}
use Rattle.laws_trees.proofs.runs.HoldsOnce.{rules_hold_once_lem}
use Rattle.laws_examples.proofs.SmallestInputs.{overlaps_may_hold_twice_lem}
use Rattle.laws_examples.proofs.SampleStages.{stages}
use Rattle.laws_examples.proofs.Served.{literals_apart, serves_without_calls}
use Rattle.laws_examples.specs.MeaningForms.{given}
use Rattle.laws_examples.specs.SmallestInputs.{one_or_two_world}
use Rattle.laws_examples.specs.TwoLiterals.{OneOrTwoHoldsOnce, OneOrTwoIsServed, one_or_two_defs, one_or_two_program, one_or_two_rules, one_or_two_sample, one_or_two_set}
use Rattle.laws_examples.specs.Stages.{HasStages}

pub one_or_two_stages : HasStages one_or_two_sample
one_or_two_stages = stages one_or_two_sample refl refl refl refl refl refl refl refl refl refl

pub one_or_two_is_served : OneOrTwoIsServed
one_or_two_is_served = grind (arith, common_steps, serves_without_calls one_or_two_program, literals_apart one_or_two_program, serves_without_calls, literals_apart)

tests : ServesTests one_or_two_set one_or_two_world
tests =
    served_sets_serve_tests_lem (own_program one_or_two_defs one_or_two_rules) 0 one_or_two_set (read_programs_are_well_typed one_or_two_stages.accepted.0.read) one_or_two_stages.built.0 one_or_two_world.meaning (given (pos 1)) refl
    one_or_two_is_served.0 one_or_two_is_served.1

pub one_or_two_holds_once : OneOrTwoHoldsOnce
one_or_two_holds_once = (tests, overlaps_may_hold_twice_lem.2, rules_hold_once_lem one_or_two_set one_or_two_world tests overlaps_may_hold_twice_lem.2)
