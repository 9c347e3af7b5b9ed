use Rattle.std.proofs.Common.{◌≡◌, ◌+◌, ◌-◌, Some, get_or, length, option_map, slice_get, take, refl, sym, ap, ◌∙◌, arith, rules}
use Rattle.std.proofs.Math.ListN.{set}
use Rattle.std.specs.Vec.{vec_len}
use Rattle.core_terms.specs.Templating.{callees_of}
use Rattle.core_terms.specs.declared.reading.recursion.Mark.TheVariants.{Ends}
use Rattle.core_terms.proofs.Marks.{not_some, last_counted, callee_in_range, count_is, goes_back, passes, comes_back, goes_deeper}
use Rattle.core_terms.proofs.reading.recursion.Search.step.Goals as goal

pub returns-in_default : goal.returns-in_default
returns-in_default c =
    let s = c.args.self.now in
    let size : vec_len s.path ≡ length s.path.items = search rules in
    goes_back c.args.callees.now c.args.root s c.requires.way c.args.last c.requires.last
    (not_some (λ u. u.0) c.next_callee.result _ c.in_default.not-Some c.next_callee.ensures.next) _
    (ap (λ k. set s.marks.items k Ends) c.index.ensures) refl (c.pop.ensures.rest ∙ ap (λ n. take (n - 1) s.path.items) size)

pub index-mark-requires : goal.index-mark-requires
index-mark-requires c =
    let s = c.args.self.now in
    let t = c.args.last in
    let cs = c.args.callees.now in
    let next : slice_get (callees_of cs t.0) (get_or s.ended.items t.0 0) ≡ Some c.in-Some.callee.0 = sym c.next_callee.ensures.next ∙ ap (option_map (λ u. u.0)) c.in-Some.is in
    let size : vec_len s.marks ≡ length s.marks.items = search rules in
    omega (arith, size, c.index-2.ensures, callee_in_range cs c.args.root s c.requires.way t c.requires.last c.in-Some.callee next c.requires.within)

pub index_mut-requires-then-ends : goal.index_mut-requires-then-ends
index_mut-requires-then-ends c =
    let s = c.args.self.now in
    let size : vec_len s.ended ≡ length s.ended.items = search rules in
    omega (arith, size, c.index-then-ends.ensures, last_counted c.args.callees.now c.args.root s c.requires.way c.args.last c.requires.last)

pub overflow_add-index_mut : goal.overflow_add-index_mut
overflow_add-index_mut c =
    let s = c.args.self.now in
    let t = c.args.last in
    let n = c.index_mut-then-ends.result.now in
    let same : n ≡ get_or s.ended.items t.0 0 = count_is c.args.callees.now c.args.root s c.requires.way t c.requires.last n (c.index_mut-then-ends.ensures.value ∙ ap (λ k. get_or s.ended.items k n) c.index-then-ends.ensures) in
    let countable = c.in-Some.ensures.countable in
    omega (arith, same, countable)

pub returns-then-ends : goal.returns-then-ends
returns-then-ends c =
    let s = c.args.self.now in
    let t = c.args.last in
    let cs = c.args.callees.now in
    let next : slice_get (callees_of cs t.0) (get_or s.ended.items t.0 0) ≡ Some c.in-Some.callee.0 = sym c.next_callee.ensures.next ∙ ap (option_map (λ u. u.0)) c.in-Some.is in
    let n = c.index_mut-then-ends.result.now in
    let mark = c.index-mark.result.now in
    passes cs c.args.root s c.requires.way t c.requires.last c.in-Some.callee next c.requires.within
    mark (c.index-mark.ensures ∙ ap (λ k. get_or s.marks.items k mark) c.index-2.ensures)
    (sym c.ends.ensures ∙ c.if-ends.true)
    n (c.index_mut-then-ends.ensures.value ∙ ap (λ k. get_or s.ended.items k n) c.index-then-ends.ensures)
    _ refl (ap (λ k. set s.ended.items k (n + 1)) c.index-then-ends.ensures) refl

pub returns-then-stands_on_path : goal.returns-then-stands_on_path
returns-then-stands_on_path c =
    let s = c.args.self.now in
    let t = c.args.last in
    let cs = c.args.callees.now in
    let next : slice_get (callees_of cs t.0) (get_or s.ended.items t.0 0) ≡ Some c.in-Some.callee.0 = sym c.next_callee.ensures.next ∙ ap (option_map (λ u. u.0)) c.in-Some.is in
    let mark = c.index-mark.result.now in
    comes_back cs c.args.root s c.requires.way t c.requires.last c.in-Some.callee next c.requires.within
    mark (c.index-mark.ensures ∙ ap (λ k. get_or s.marks.items k mark) c.index-2.ensures)
    (sym c.stands_on_path.ensures ∙ c.if-stands_on_path.true) _ refl refl c.in_ok-push.ensures.items

pub enter-requires : goal.enter-requires
enter-requires c =
    let s = c.args.self.now in
    let t = c.args.last in
    let cs = c.args.callees.now in
    let next : slice_get (callees_of cs t.0) (get_or s.ended.items t.0 0) ≡ Some c.in-Some.callee.0 = sym c.next_callee.ensures.next ∙ ap (option_map (λ u. u.0)) c.in-Some.is in
    callee_in_range cs c.args.root s c.requires.way t c.requires.last c.in-Some.callee next c.requires.within

pub returns : goal.returns
returns c =
    let s = c.args.self.now in
    let t = c.args.last in
    let cs = c.args.callees.now in
    let next : slice_get (callees_of cs t.0) (get_or s.ended.items t.0 0) ≡ Some c.in-Some.callee.0 = sym c.next_callee.ensures.next ∙ ap (option_map (λ u. u.0)) c.in-Some.is in
    let mark = c.index-mark.result.now in
    goes_deeper cs c.args.root s c.requires.way t c.requires.last c.in-Some.callee next c.requires.within
    mark (c.index-mark.ensures ∙ ap (λ k. get_or s.marks.items k mark) c.index-2.ensures)
    (sym c.stands_on_path.ensures ∙ c.if-stands_on_path.false) (sym c.ends.ensures ∙ c.if-ends.false) _ c.in_ok-enter.ensures
