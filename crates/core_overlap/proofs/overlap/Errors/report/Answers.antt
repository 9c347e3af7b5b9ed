use Rattle.std.proofs.Common.{All, sym, subst}
use Rattle.std.proofs.lemmas.Result.{IfOk-weaker}
use Rattle.std.proofs.lemmas.List.Elements.{All-append}
use Rattle.core_syntax.specs.Positions.{HasSingleSpans}
use Rattle.core_overlap.specs.ComparedRules.{HaveSingleSpans}
use Rattle.core_overlap.proofs.overlap.Errors.report.Goals as goal

pub returns-clause-single : goal.returns-clause-single
returns-clause-single c =
    IfOk-weaker c.by_place.result (λ v. All HasSingleSpans c.append.new.self.items → All HasSingleSpans v.items) (λ v. HaveSingleSpans c.args.self → All HasSingleSpans v.items)
    (λ v h s. h (subst (All HasSingleSpans) (sym c.in_ok-append.ensures.items) (All-append HasSingleSpans c.in_ok-errors.errors.items c.args.self.shadows.items c.in_ok-errors.ensures.single s)))
    c.by_place.ensures.single
