use Rattle.std.proofs.Common.{arith}
use Rattle.report_traces.specs.OutcomeTexts.{names_in}
use Rattle.report_traces.proofs.OutcomeSteps.{names_spelled, no_more, one_more_at}
use Rattle.report_traces.proofs.echoed.push_each_name.Goals as goal

pub loop-term-preserved : goal.loop-term-preserved
loop-term-preserved c =
    one_more_at _ _ (names_spelled (names_in c.args.lowered.now)) c.args.terms.now c.loop-term.term-index _ _ _ _ c.loop-term-test.true c.in_ok-push_name.ensures c.loop-term.invariant

pub returns : goal.returns
returns c =
    no_more _ _ (names_spelled (names_in c.args.lowered.now)) c.args.terms.now c.loop-term.term-index _ _ (omega (arith, c.loop-term-test.false)) c.loop-term.invariant
