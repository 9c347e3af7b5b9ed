-- The premises of the law on texts hold of the sample with an extractor.
use Rattle.std.proofs.Common.{arith}
use Rattle.std.proofs.lemmas.Grind.{common_steps}
use Rattle.std.proofs.lemmas.Option.{none-some}
use Rattle.laws_trees.proofs.total.Total.{total_meanings_serve_lem}
use Rattle.laws_typing.proofs.WellTypedRules.{read_programs_are_well_typed}
use Rattle.laws_code.specs.CalledAlike.{PureFunctionsCallAlike}
use Rattle.laws_examples.specs.TextPremises.{TextPremisesHold}

-- 1. the meaning is well typed for what the rules use
-- 2. the one function from outside is an extractor's
pub text_premises_hold_lem : PureFunctionsCallAlike → TextPremisesHold
text_premises_hold_lem called = grind (arith, common_steps, total_meanings_serve_lem, read_programs_are_well_typed, none-some)
