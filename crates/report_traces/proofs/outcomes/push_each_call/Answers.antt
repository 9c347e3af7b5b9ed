use Rattle.std.proofs.Common.{arith}
use Rattle.report_traces.specs.OutcomeTexts.{names_in}
use Rattle.report_traces.proofs.OutcomeSteps.{calls_spelled, no_more, one_more}
use Rattle.report_traces.proofs.outcomes.push_each_call.Goals as goal

pub loop-call-preserved : goal.loop-call-preserved
loop-call-preserved c =
    one_more _ _ (calls_spelled (names_in c.args.lowered.now)) c.args.calls.now c.loop-call.call-index c.call-item.result _ _ _ c.loop-call-test.true c.call-item.is c.in_ok-push_call.ensures c.loop-call.invariant

pub returns : goal.returns
returns c =
    no_more _ _ (calls_spelled (names_in c.args.lowered.now)) c.args.calls.now c.loop-call.call-index _ _ (omega (arith, c.loop-call-test.false)) c.loop-call.invariant
