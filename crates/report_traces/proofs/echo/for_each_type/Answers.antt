use Rattle.std.proofs.Common.{rules}
use Rattle.run_terms.specs.ValueViews.{value_view}
use Rattle.report_traces.proofs.EchoSteps.{each_more, each_all}
use Rattle.report_traces.proofs.echo.for_each_type.Goals as goal

pub loop-preserved : goal.loop-preserved
loop-preserved c =
    each_more c.loop.out.items c.push.new.self.items c.in_ok-clone.field-0 (value_view c.args.value.now) c.args.types.now (record { 0 = 0 }) c.loop.index (search rules) c.in_ok-clone.ensures.cases c.in_ok-push.ensures.items c.loop.invariant

pub returns : goal.returns
returns c = each_all c.loop.out.items (value_view c.args.value.now) c.args.types.now c.loop.index (search rules) c.loop.invariant
