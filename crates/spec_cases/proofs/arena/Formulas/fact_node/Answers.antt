use Rattle.std.proofs.Common.{◌≡◌, Some, slice_get, sym, ap, ◌∙◌, subst}
use Rattle.std.proofs.lemmas.Option.{slice_get-get_or}
use Rattle.spec_cases.specs.Namings.{IsNamed}
use Rattle.spec_cases.proofs.arena.Formulas.fact_node.Goals as goal

pub returns-in-Some-Fact : goal.returns-in-Some-Fact
returns-in-Some-Fact c = λ v names.
    let found = c.in-Some-Fact.ensures.lookup in
    let p = c.in-Some-Fact.field-0.now in
    let k = c.args.fact.0 in
    let at : slice_get c.args.self.now k ≡ Some p = ap (λ l. slice_get l k) (sym c.self.view_is ∙ sym c.deref.ensures.value) ∙ slice_get-get_or c.deref.result.now k p found.3.0 ∙ ap Some (sym found.1) in
    subst (IsNamed v k) c.in-Some-Fact.field-0-is (names.named k p at)
