use Rattle.std.proofs.Common.{ap, ◌∙◌}
use Rattle.model_questions.specs.Forms as MF
use Rattle.model_questions.specs.Evaluated as E
use Rattle.spec_cases.specs.CaseViews.{cases_of}
use Rattle.spec_cases.specs.Namings.{forms_of, operator_view}
use Rattle.spec_cases.specs.Tables.{known_in, specs_in, types_in}
use Rattle.spec_cases.proofs.CombiningSteps.{lists_first}
use Rattle.spec_cases.proofs.arena.Formulas.+operated_each.Goals as goal

pub returns-in_ok-from_first-in-len1-up : goal.returns-in_ok-from_first-in-len1-up
returns-in_ok-from_first-in-len1-up t c = λ v names apart.
    let last = c.in_ok-from_first-in-len1-up.ensures v names in
    let later = c.in_ok-later-in-len1-up.ensures v last.0 apart in
    let here = c.in_ok-here-in-len1-up.ensures v later.0 apart in
    let list = c.in_ok-list-in-len1-up in
    let tables = c.args.tables.now in
    let come : MF.Forms → MF.Cases MF.Form = λ fs. MF.then_cases (E.opened_each (types_in tables) (specs_in tables) (known_in v tables) fs) (E.fitted c.args.widths.now (operator_view c.args.operator)) in (
      here.0,
      lists_first v c.args.cases.now _ list.list.items come (cases_of v c.in_ok-here-in-len1-up.here) (cases_of v c.in_ok-later-in-len1-up.later) _ c.in-len1-up.len_at_least
          (list.ensures v here.0) (here.1 ∙ ap (λ l. come (forms_of v l)) c.deref.ensures.value) later.1 last.1,
    )
