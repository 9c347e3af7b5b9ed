use Rattle.std.proofs.Common.{◌∙◌, ap, refl}
use Rattle.model_questions.specs.Forms as MF
use Rattle.spec_cases.specs.CaseViews.{cases_of, form_cases, list_cases_of}
use Rattle.spec_cases.proofs.CombiningSteps.{then_seen}
use Rattle.spec_cases.proofs.arena.Formulas.paired.Goals as goal

pub returns : goal.returns
returns c = λ v names.
    let last = c.in_ok-lists_with_rest.ensures v names in
    let each = c.in_ok-each.ensures v last.0 in
    let pairs : MF.Form → MF.Cases MF.Forms = λ g. MF.then_cases (list_cases_of v c.args.later.now) (λ gs. MF.one_case (MF.form_and g gs)) in (
      each.0,
      then_seen (cases_of v c.args.first.now) (cases_of v c.args.first.now) (list_cases_of v c.in_ok-each.each) _ pairs refl (each.1 ∙ ap (λ l. MF.from_each (form_cases v l) pairs) c.deref.ensures.value) last.1,
    )
