use Rattle.std.proofs.Common.{arith}
use Rattle.std.proofs.lemmas.Grind.{common_steps}
use Rattle.core_builder.proofs.refusals.report_conflicts.Goals as goal

pub loop-first-preserved : goal.loop-first-preserved
loop-first-preserved c = record {
  said = grind (arith, common_steps);
  single = λ h. c.in_ok-report_unreachable.ensures.single (c.loop-first.invariant.single h);
}
