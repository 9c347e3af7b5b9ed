use Rattle.std.proofs.Common.{◌++◌, ◌∙◌, ap}
use Rattle.model_questions.specs.Forms as MF
use Rattle.spec_cases.specs.CaseViews.{each_with}
use Rattle.spec_cases.specs.Combining.{forms_cases}
use Rattle.spec_cases.specs.Namings.{fact_of, form_of}
use Rattle.spec_cases.proofs.CombiningSteps.{prefixed_seen}
use Rattle.spec_cases.proofs.arena.Formulas.prefixed.Goals as goal

pub returns : goal.returns
returns c = λ v names.
    let made = c.in_ok-add_prefixed.ensures v names in
    let later = c.args.later.now in
    let before = each_with (MF.form_and (form_of v c.args.form)) in (
      made.0,
      prefixed_seen v (form_of v c.args.form) (fact_of v later.rest) later.cases.items c.add_prefixed.new.out.items
          (made.1 ∙ ap (λ l. forms_cases v l ++ before (forms_cases v c.deref.result.now)) c.new-cases.ensures.items ∙ ap (λ l. before (forms_cases v l)) c.deref.ensures.value),
    )
