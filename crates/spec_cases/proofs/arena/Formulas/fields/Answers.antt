use Rattle.std.proofs.Common.{◌≡◌, Some, slice_get, sym, ap, ◌∙◌, subst}
use Rattle.std.proofs.lemmas.Option.{slice_get-get_or}
use Rattle.spec_cases.specs.Namings.{forms_of, IsNamed}
use Rattle.spec_cases.proofs.arena.Formulas.fields.Goals as goal

pub returns-in-Some-Fields : goal.returns-in-Some-Fields
returns-in-Some-Fields c = λ v names.
    let found = c.in-Some-Fields.ensures.lookup in
    let p = c.in-Some-Fields.field-0.now in
    let k = c.args.fields.0 in
    let at : slice_get c.args.self.now k ≡ Some p = ap (λ l. slice_get l k) (sym c.self.view_is ∙ sym c.deref.ensures.value) ∙ slice_get-get_or c.deref.result.now k p found.3.0 ∙ ap Some (sym found.1) in
    subst (IsNamed v k) c.in-Some-Fields.field-0-is (names.named k p at) ∙ ap (forms_of v) (sym c.deref-in-Some-Fields.ensures.value)
