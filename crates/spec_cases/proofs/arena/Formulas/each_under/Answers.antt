use Rattle.std.proofs.Common.{rules}
use Rattle.spec_cases.specs.Namings.{fact_of}
use Rattle.spec_cases.proofs.CaseSteps.{under_more, under_done}
use Rattle.spec_cases.proofs.arena.Formulas.each_under.Goals as goal

pub loop-case-preserved : goal.loop-case-preserved
loop-case-preserved g c = λ v n.
    let made = c.in_ok-both.ensures v n in
    let before = c.loop-case.invariant v made.0 in (
      before.0,
      under_more v (fact_of v c.args.guard) c.loop-case.out.items c.add_case.new.out.items c.args.cases.now (fact_of v c.in_ok-both.both) c.case-item.result c.loop-case.case-index (search rules) c.case-item.is
          (c.in_ok-add_case.ensures v) made.1 before.1,
    )

pub returns : goal.returns
returns g c = λ v n.
    let all = c.loop-case.invariant v n in
    (all.0, under_done v (fact_of v c.args.guard) c.loop-case.out.items c.args.cases.now c.loop-case.case-index (search rules) all.1)
