use Rattle.model_questions.specs.Forms as MF
use Rattle.spec_cases.specs.CaseViews.{list_cases_of}
use Rattle.spec_cases.proofs.CombiningSteps.{each_first}
use Rattle.spec_cases.proofs.arena.Formulas.+paired_each.Goals as goal

pub returns-in_ok-lists_from_first-in-len1-up : goal.returns-in_ok-lists_from_first-in-len1-up
returns-in_ok-lists_from_first-in-len1-up t c = λ v names.
    let last = c.in_ok-lists_from_first-in-len1-up.ensures v names in
    let more = c.in_ok-more-in-len1-up.ensures v last.0 in
    let here = c.in_ok-here-in-len1-up.ensures v more.0 in
    let pairs : MF.Form → MF.Cases MF.Forms = λ g. MF.then_cases (list_cases_of v c.args.later.now) (λ gs. MF.one_case (MF.form_and g gs)) in (
      here.0,
      each_first v c.args.cases.now _ pairs (list_cases_of v c.in_ok-here-in-len1-up.here) (list_cases_of v c.in_ok-more-in-len1-up.more) _ c.in-len1-up.len_at_least here.1 more.1 last.1,
    )
