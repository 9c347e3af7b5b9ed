use Rattle.std.proofs.Common.{rules, ◌≡◌, ◌∷◌, [], ◌++◌, ◌∙◌, ap, map, subst, sym, take}
use Rattle.std.proofs.lemmas.List.{take_all}
use Rattle.std.proofs.lemmas.Simd.{map-map}
use Rattle.core_syntax.specs.declared.syntax.Pos.{Pos}
use Rattle.core_syntax.specs.SyntaxViews.{position}
use Rattle.report_warnings.specs.Added.{AddsTold}
use Rattle.report_warnings.specs.IdlePriorities.{told_of_idle}
use Rattle.report_warnings.proofs.Added.{told_one_more}
use Rattle.report_warnings.proofs.priorities.add_reports.Goals as goal

pub loop-place-preserved : goal.loop-place-preserved
loop-place-preserved c =
    let pushed : c.push.new.self.items ≡ c.loop-place.reports.items ++ (c.in_ok-idle_report.field-0 ∷ []) = search rules in
    told_one_more (λ (p : Pos). told_of_idle (position p)) c.args.idle.now c.loop-place.place-index _ c.in_ok-idle_report.field-0
    c.args.reports.now.items c.loop-place.reports.items c.push.new.self.items c.loop-place-test.true pushed c.in_ok-idle_report.ensures c.loop-place.invariant

pub returns : goal.returns
returns c =
    let idle = c.args.idle.now in
    let all : map (λ (p : Pos). told_of_idle (position p)) (take c.loop-place.place-index idle) ≡ map told_of_idle (map position idle)
    = ap (map (λ (p : Pos). told_of_idle (position p))) (take_all c.loop-place.place-index idle c.loop-place-test.false) ∙ sym (map-map told_of_idle position idle) in
    subst (λ told. AddsTold told c.args.reports.now.items c.loop-place.reports.items) all c.loop-place.invariant
