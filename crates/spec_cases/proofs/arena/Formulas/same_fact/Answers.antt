use Rattle.std.proofs.Common.{◌∙◌}
use Rattle.spec_cases.specs.CaseViews.{cases_of}
use Rattle.spec_cases.specs.Namings.{form_of}
use Rattle.spec_cases.proofs.AskingSteps.{same_by}
use Rattle.spec_cases.proofs.arena.Formulas.same_fact.Goals as goal

pub returns : goal.returns
returns c = λ v names apart.
    let last = c.in_ok-perhaps.ensures v names in
    let tests = c.in_ok-tests.ensures v last.0 apart in (
      tests.0,
      same_by v c.args.asking.now (form_of v c.args.first) (form_of v c.args.second) c.deref.result.now (cases_of v c.in_ok-tests.tests) _ (c.deref.ensures.value ∙ c.in_ok-widths.ensures) tests.1 last.1,
    )
