use Rattle.std.proofs.Common.{◌≡◌, ◌∙◌, false, length, Some, slice_get, sym, ap, subst, arith}
use Rattle.core_containers.specs.Places.{is_in, HasPlaces}
use Rattle.core_containers.proofs.Tables.{found_kept, found_more, found_others}
use Rattle.core_containers.proofs.stacks.Stack.push.Goals as goal

pub invariant_of-self : goal.invariant_of-self
invariant_of-self c = found_kept c.self.inside.list.items c.self.inside.places.items c.put_place.new.places.items c.self.invariant c.in_err-put_place.ensures.kept

pub invariant_of-self-in_err-push : goal.invariant_of-self-in_err-push
invariant_of-self-in_err-push c =
    let list = c.self.inside.list.items in
    let table = c.put_place.new.places.items in
    let out : is_in c.args.number list ≡ false = ap (is_in c.args.number) c.self.view_is ∙ c.requires in
    subst (λ l. HasPlaces l table) (sym c.in_err-push.ensures.items)
    (found_others list c.self.inside.places.items table c.args.number out c.self.invariant c.in_ok-put_place.ensures.others)

pub invariant_of-self-2 : goal.invariant_of-self-2
invariant_of-self-2 c =
    let list = c.self.inside.list.items in
    let table = c.put_place.new.places.items in
    let out : is_in c.args.number list ≡ false = ap (is_in c.args.number) c.self.view_is ∙ c.requires in
    let many : c.len-place.result ≡ length list = omega arith in
    let here : slice_get table c.args.number ≡ Some (length list) = c.in_ok-put_place.ensures.put ∙ ap Some many in
    subst (λ l. HasPlaces l table) (sym c.in_ok-push.ensures.items)
    (found_more list table c.args.number (found_others list c.self.inside.places.items table c.args.number out c.self.invariant c.in_ok-put_place.ensures.others) here)
