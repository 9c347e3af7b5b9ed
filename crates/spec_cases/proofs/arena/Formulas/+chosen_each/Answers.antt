use Rattle.model_questions.specs.Evaluated as E
use Rattle.spec_cases.specs.CaseViews.{cases_of}
use Rattle.spec_cases.proofs.CombiningSteps.{each_first}
use Rattle.spec_cases.proofs.arena.Formulas.+chosen_each.Goals as goal

pub returns-in_ok-from_first-in-len1-up : goal.returns-in_ok-from_first-in-len1-up
returns-in_ok-from_first-in-len1-up t c = λ v names.
    let last = c.in_ok-from_first-in-len1-up.ensures v names in
    let later = c.in_ok-later-in-len1-up.ensures v last.0 in
    let here = c.in_ok-here-in-len1-up.ensures v later.0 in (
      here.0,
      each_first v c.args.cases.now _ (E.by_fact (cases_of v c.args.x.now) (cases_of v c.args.y.now)) (cases_of v c.in_ok-here-in-len1-up.here) (cases_of v c.in_ok-later-in-len1-up.later) _ c.in-len1-up.len_at_least
          here.1 later.1 last.1,
    )
