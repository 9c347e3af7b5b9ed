use Rattle.std.proofs.Common.{◌≢◌, ◌∙◌, ap, arith}
use Rattle.model_questions.specs.Evaluated as E
use Rattle.spec_cases.specs.Namings.{operands_of}
use Rattle.spec_cases.proofs.AnsweringSteps.{sorted_later}
use Rattle.spec_cases.proofs.arena.Formulas.+answered_as_sorted.Goals as goal

pub returns-in_ok-answered_as_sorted-in-len1-up : goal.returns-in_ok-answered_as_sorted-in-len1-up
returns-in_ok-answered_as_sorted-in-len1-up t c = λ v names.
    let made = c.in_ok-answered_as_sorted-in-len1-up.ensures v names in
    let other : c.first-item.result.function ≢ c.args.function = omega arith in (
      made.0,
      made.1 ∙ ap (E.answered_as_sorted c.args.function (operands_of v c.args.operands.now))
          (sorted_later c.args.function c.args.functions.now c.first-item.result c.in-len1-up.len_at_least c.first-item.is other),
    )
