use Rattle.std.proofs.Common.{rules, ◌≡◌, ◌∷◌, [], ◌++◌, ◌∙◌, ap, map, subst, sym, take}
use Rattle.std.proofs.lemmas.List.{take_all}
use Rattle.std.proofs.lemmas.Simd.{map-map}
use Rattle.core_syntax.specs.declared.syntax.Pos.{Pos}
use Rattle.report_warnings.specs.Added.{AddsTold}
use Rattle.report_warnings.specs.DeadReturns.{place_pair, told_of_dead}
use Rattle.report_warnings.proofs.Added.{told_one_more}
use Rattle.report_warnings.proofs.returns.add_reports.Goals as goal

pub loop-places-preserved : goal.loop-places-preserved
loop-places-preserved c =
    let pushed : c.push.new.self.items ≡ c.loop-places.reports.items ++ (c.in_ok-dead_report.field-0 ∷ []) = search rules in
    told_one_more (λ (d : Pos × Pos). told_of_dead (place_pair d)) c.args.dead.now c.loop-places.places-index _ c.in_ok-dead_report.field-0
    c.args.reports.now.items c.loop-places.reports.items c.push.new.self.items c.loop-places-test.true pushed c.in_ok-dead_report.ensures c.loop-places.invariant

pub returns : goal.returns
returns c =
    let dead = c.args.dead.now in
    let all : map (λ (d : Pos × Pos). told_of_dead (place_pair d)) (take c.loop-places.places-index dead) ≡ map told_of_dead (map place_pair dead)
    = ap (map (λ (d : Pos × Pos). told_of_dead (place_pair d))) (take_all c.loop-places.places-index dead c.loop-places-test.false) ∙ sym (map-map told_of_dead place_pair dead) in
    subst (λ told. AddsTold told c.args.reports.now.items c.loop-places.reports.items) all c.loop-places.invariant
