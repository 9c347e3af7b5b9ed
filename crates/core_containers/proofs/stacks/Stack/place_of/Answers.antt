use Rattle.std.proofs.Common.{◌≡◌, ◌∙◌, cond, Some, None, MatchOption, false, slice_get, sym, ap, subst}
use Rattle.std.proofs.lemmas.Option.{slice_get-get_or, slice_get_past}
use Rattle.core_containers.specs.Places.{is_at, is_in}
use Rattle.core_containers.proofs.Tables.{not_found, placed}
use Rattle.core_containers.proofs.stacks.Stack.place_of.Goals as goal

pub returns-in-Some : goal.returns-in-Some
returns-in-Some c =
    let list = c.self.inside.list.items in
    let n = c.args.number in
    let p = c.in-Some.place.now in
    let found = c.in-Some.ensures.lookup in
    let at : slice_get c.self.inside.places.items n ≡ Some p = ap (λ l. slice_get l n) (sym c.deref.ensures.value) ∙ slice_get-get_or c.deref.result.now n p found.3.0 ∙ ap Some (sym found.1) in
    let same = c.place_if.ensures ∙ ap (λ b. cond b (Some p) None) (c.stands_at.ensures ∙ ap (λ l. is_at l p n) c.deref-in-Some.ensures.value) in
    subst (λ l. MatchOption c.place_if.result (is_in n l ≡ false) (λ q. slice_get l q ≡ Some n)) c.self.view_is
    (subst (λ o. MatchOption o (is_in n list ≡ false) (λ q. slice_get list q ≡ Some n)) (sym same) (placed list c.self.inside.places.items n p c.self.invariant at))

pub returns-in-None : goal.returns-in-None
returns-in-None c =
    let n = c.args.number in
    let at : slice_get c.self.inside.places.items n ≡ None = ap (λ l. slice_get l n) (sym c.deref.ensures.value) ∙ slice_get_past c.deref.result.now n c.in-None.ensures.lookup.3 in
    ap (is_in n) (sym c.self.view_is) ∙ not_found c.self.inside.list.items c.self.inside.places.items n c.self.invariant at
