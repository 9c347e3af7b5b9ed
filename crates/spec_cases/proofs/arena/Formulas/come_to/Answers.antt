use Rattle.std.proofs.Common.{◌∙◌, sym, ap}
use Rattle.model_questions.specs.Evaluated as E
use Rattle.model_questions.specs.Forms as MF
use Rattle.spec_cases.specs.CaseViews.{cases_of, form_cases}
use Rattle.spec_cases.specs.Namings.{forms_of}
use Rattle.spec_cases.specs.Tables.{known_in, specs_in, types_in}
use Rattle.spec_cases.proofs.AskingSteps.{come_to_by}
use Rattle.spec_cases.proofs.arena.Formulas.come_to.Goals as goal

pub returns : goal.returns
returns c = λ v w names apart all.
    let last = c.in_ok-with_rest.ensures v names in
    let each = c.in_ok-each.ensures v last.0 apart in
    let values = c.in_ok-values.ensures v w each.0 apart all in
    let tables = c.args.asking.now.tables.now in (
      values.0,
      come_to_by v w c.args.asking.now c.args.said c.deref.result.now (cases_of v c.in_ok-values.values) (cases_of v c.in_ok-each.each) _
          (c.in_ok-args.ensures v values.0 ∙ ap (forms_of v) (sym c.deref.ensures.value)) values.1
          (each.1 ∙ ap (λ l. MF.from_each (form_cases v l) (E.opened (types_in tables) (specs_in tables) (known_in v tables))) c.deref-2.ensures.value) last.1,
    )
