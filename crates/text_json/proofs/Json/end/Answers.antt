use Rattle.std.proofs.Common.{◌≡◌, ◌-◌, List, None, sym, ap, ◌∙◌, length, slice_get}
use Rattle.text_json.specs.declared.Place.{Place}
use Rattle.text_json.proofs.Writing.{whole_stays}
use Rattle.text_json.proofs.Json.end.Goals as goal

pub returns-in_default : goal.returns-in_default
returns-in_default c =
    let w = c.args.self.now in
    let none : slice_get w.outer.items (length w.outer.items - 1) ≡ None =
    ap (λ (ps : List Place). slice_get ps (length ps - 1)) (sym c.deref.ensures.value) ∙ sym c.last.ensures.value ∙ sym c.copied.ensures ∙ c.in_default.is in
    whole_stays w.out.tokens w.outer.items w.place w.nested none
