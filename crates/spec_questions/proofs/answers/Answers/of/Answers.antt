use Rattle.std.proofs.Common.{arith}
use Rattle.std.proofs.lemmas.List.{get_or_default}
use Rattle.std.proofs.lemmas.List.Folds.{list_any_more}
use Rattle.spec_questions.specs.Refuting.{says_sat, says_unsat}
use Rattle.spec_questions.proofs.answers.Answers.of.Goals as goal

pub loop-answer-preserved : goal.loop-answer-preserved
loop-answer-preserved c = λ text.
    let before = c.loop-answer.invariant text in
    let unsat = list_any_more (says_unsat text) c.args.list.items c.loop-answer.answer-index c.answer-item.result in
    let sat = list_any_more (says_sat text) c.args.list.items c.loop-answer.answer-index c.answer-item.result in (
      grind (arith, get_or_default, unsat, before.0, c.in_ok-add_if.ensures text, c.is_unsat.ensures, c.answer-item.is, c.loop-answer-test.true),
      grind (arith, get_or_default, sat, before.1, c.in_ok-add_if-2.ensures text, c.is_sat.ensures, c.answer-item.is, c.loop-answer-test.true),
    )
