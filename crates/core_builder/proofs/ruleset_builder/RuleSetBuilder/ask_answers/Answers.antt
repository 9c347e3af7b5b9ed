use Rattle.std.proofs.Common.{arith}
use Rattle.core_builder.proofs.BuilderFields.{goes_nowhere}
use Rattle.core_builder.proofs.AskedAnswers.{one_more_answer, all_answers}
use Rattle.core_builder.proofs.ruleset_builder.RuleSetBuilder.ask_answers.Goals as goal

pub loop-call-init : goal.loop-call-init
loop-call-init c before v h below = goes_nowhere before c.args.self.now v h

pub loop-call-preserved : goal.loop-call-preserved
loop-call-preserved c before v h below =
    one_more_answer before c.args.self.now c.loop-call.self c.ask.new.self v c.args.calls.now c.loop-call.call-index c.call-item.result c.loop-call-test.true c.call-item.is below
    (c.loop-call.invariant before v h below) (λ w g k. c.in_ok-ask.ensures.asked before w g k)

pub returns : goal.returns
returns c before v h below = all_answers before c.args.self.now c.loop-call.self v c.args.calls.now c.loop-call.call-index (omega arith) (c.loop-call.invariant before v h below)
