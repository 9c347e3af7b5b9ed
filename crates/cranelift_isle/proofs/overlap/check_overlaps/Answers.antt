use Rattle.std.proofs.Common.{All}
use Rattle.std.proofs.lemmas.Result.{IfOk-weaker}
use Rattle.core_syntax.specs.Positions.{HasSingleSpans}
use Rattle.core_overlap.specs.ComparedRules.{HaveSingleSpans}
use Rattle.cranelift_isle.proofs.overlap.check_overlaps.Goals as goal

pub returns-clause-single : goal.returns-clause-single
returns-clause-single c =
    IfOk-weaker c.report.result (λ v. HaveSingleSpans c.loop-term.errors → All HasSingleSpans v.items) (λ v. All HasSingleSpans v.items) (λ v h. h c.loop-term.invariant.single) c.report.ensures.single
