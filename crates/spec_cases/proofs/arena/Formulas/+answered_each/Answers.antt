use Rattle.std.proofs.Common.{ap, ◌∙◌}
use Rattle.std.specs.Bool.{◌==◌}
use Rattle.model.specs.rules.Meaning.{look}
use Rattle.model_questions.specs.Forms as MF
use Rattle.model_questions.specs.Evaluated as E
use Rattle.spec_cases.specs.CaseViews.{cases_of}
use Rattle.spec_cases.specs.Namings.{forms_of}
use Rattle.spec_cases.specs.Tables.{specs_in}
use Rattle.spec_cases.proofs.CombiningSteps.{lists_first}
use Rattle.spec_cases.proofs.arena.Formulas.+answered_each.Goals as goal

pub returns-in_ok-from_first-in-len1-up : goal.returns-in_ok-from_first-in-len1-up
returns-in_ok-from_first-in-len1-up t c = λ v names.
    let last = c.in_ok-from_first-in-len1-up.ensures v names in
    let later = c.in_ok-later-in-len1-up.ensures v last.0 in
    let here = c.in_ok-here-in-len1-up.ensures v later.0 in
    let list = c.in_ok-list-in-len1-up in
    let asked : MF.Forms → MF.Cases MF.Form = λ gs. E.answered_of c.args.function (look (λ n. n == c.args.function) (specs_in c.args.tables.now).unknown_sorts) (E.operands gs) in (
      here.0,
      lists_first v c.args.cases.now _ list.list.items asked (cases_of v c.in_ok-here-in-len1-up.here) (cases_of v c.in_ok-later-in-len1-up.later) _ c.in-len1-up.len_at_least
          (list.ensures v here.0) (here.1 ∙ ap (λ l. asked (forms_of v l)) c.deref.ensures.value) later.1 last.1,
    )
