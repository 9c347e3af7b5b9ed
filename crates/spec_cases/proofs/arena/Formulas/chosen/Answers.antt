use Rattle.std.proofs.Common.{◌∙◌, ap, refl}
use Rattle.model_questions.specs.Forms as MF
use Rattle.model_questions.specs.Evaluated as E
use Rattle.spec_cases.specs.CaseViews.{cases_of, form_cases}
use Rattle.spec_cases.proofs.CombiningSteps.{then_seen}
use Rattle.spec_cases.proofs.arena.Formulas.chosen.Goals as goal

pub returns : goal.returns
returns c = λ v names.
    let last = c.in_ok-with_rest.ensures v names in
    let each = c.in_ok-each.ensures v last.0 in
    let choice = E.by_fact (cases_of v c.args.x.now) (cases_of v c.args.y.now) in (
      each.0,
      then_seen (cases_of v c.args.tests.now) (cases_of v c.args.tests.now) (cases_of v c.in_ok-each.each) _ choice refl (each.1 ∙ ap (λ l. MF.from_each (form_cases v l) choice) c.deref.ensures.value) last.1,
    )
