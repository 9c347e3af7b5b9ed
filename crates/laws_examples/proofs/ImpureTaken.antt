-- The sample with an impure call is served on 1, and taking its rule gives its right side's outcome.
use Rattle.std.proofs.Common.{[], pos, refl, arith}
use Rattle.std.proofs.lemmas.Grind.{common_steps}
use Rattle.model.specs.rules.Program.{rules_of}
use Rattle.model.specs.sites.Overlap.{built_rule}
use Rattle.model.specs.sites.Serves.{Serves, TellsConstantsApart}
use Rattle.model.specs.claims.Layers.{own_program}
use Rattle.laws_typing.proofs.WellTypedRules.{read_programs_are_well_typed}
use Rattle.laws_trees.proofs.outcomes.Outcomes.{taken_lem}
use Rattle.laws_trees.proofs.taken.ServesRuns.{served_sets_serve_tests_lem}
use Rattle.laws_examples.proofs.Impure.{impure_is_called}
use Rattle.laws_examples.proofs.SampleStages.{impure_stages}
use Rattle.laws_examples.proofs.Served.{literals_apart, pure_none, serves_from}
use Rattle.laws_examples.proofs.SetStages.{tested}
use Rattle.laws_examples.specs.Impure.{call_on_argument, impure_defs, impure_rule, impure_rules, impure_set}
use Rattle.laws_examples.specs.ImpureTaken.{ImpureIsServed, ImpureIsTaken, five_at_first, five_called, impure_program}
use Rattle.laws_examples.specs.MeaningForms.{given, v}

serves : Serves impure_program five_at_first (given (pos 1)) (rules_of impure_program 1)
serves = grind (arith, common_steps, serves_from, pure_none)

apart : TellsConstantsApart impure_program five_at_first (rules_of impure_program 1)
apart = literals_apart impure_program five_at_first (rules_of impure_program 1) refl refl

pub impure_is_served : ImpureIsServed
impure_is_served = grind (arith, common_steps, serves, apart, tested, served_sets_serve_tests_lem, read_programs_are_well_typed)

pub impure_is_taken : ImpureIsTaken
impure_is_taken =
    let taken = impure_is_called.can_be_taken five_at_first (v (pos 1)) in (
      taken,
      λ e matched.
          taken_lem (own_program impure_defs impure_rules) 1 impure_set (read_programs_are_well_typed impure_stages.accepted.0.read) impure_stages.built.0 five_at_first (given (pos 1)) refl serves apart
          (built_rule impure_program [] impure_rule) call_on_argument e five_called (record { place = 0; typed = refl; built = refl }) refl matched taken,
    )
