use Rattle.std.proofs.Common.{◌≡◌, Some, slice_get, sym, ap, ◌∙◌, subst}
use Rattle.std.proofs.lemmas.Option.{slice_get-get_or}
use Rattle.spec_cases.specs.Namings.{IsNamed}
use Rattle.spec_cases.proofs.arena.Formulas.layer_at.Goals as goal

pub returns-in-Some-Place : goal.returns-in-Some-Place
returns-in-Some-Place c = λ v names.
    let found = c.in-Some-Place.ensures.lookup in
    let p = c.in-Some-Place.field-0.now in
    let k = c.args.place.0 in
    let at : slice_get c.args.self.now k ≡ Some p = ap (λ l. slice_get l k) (sym c.self.view_is ∙ sym c.deref.ensures.value) ∙ slice_get-get_or c.deref.result.now k p found.3.0 ∙ ap Some (sym found.1) in
    subst (IsNamed v k) c.in-Some-Place.field-0-is (names.named k p at)
