use Rattle.std.proofs.Common.{◌≤◌, ◌-◌, subst, ap, ap₂, ◌∙◌, arith, chars, length, encode_utf8}
use Rattle.std.specs.Option.{SomeIff}
use Rattle.std.specs.Str.Iter.{chars_rest}
use Rattle.std.proofs.lemmas.Str.{IsUtf8-past_char}
use Rattle.text_documents.specs.Walks.{place_after}
use Rattle.text_documents.proofs.Walking.{walk_stop, walk_short, walk_on, walk_ended, walk_cut, enough, past_bounds, units_width}
use Rattle.text_documents.proofs.SizeLemmas.{width_pos}
use Rattle.text_documents.proofs.places.Walk.over.Goals as goal

pub returns-then-left-eq0 : goal.returns-then-left-eq0
returns-then-left-eq0 c =
    let v = c.loop-c.invariant in
    c.place_before.ensures ∙ walk_stop c.loop-c.walk.place c.loop-c.walk.after_return c.loop-c.left c.in-Some.c _ _ _ v.text c.in-Some.ensures.steps.0 v.found c.if-left-eq0.true

pub returns-in_err-left : goal.returns-in_err-left
returns-in_err-left c =
    let v = c.loop-c.invariant in
    let s = subst (λ r. SomeIff c.checked_sub.result (r ≤ c.loop-c.left) (c.loop-c.left - r)) c.len_utf8.ensures.len c.checked_sub.ensures in
    rw c.from_residual.ensures (walk_short c.loop-c.walk.place c.loop-c.walk.after_return c.loop-c.left c.in-Some.c c.checked_sub.result _ _ _ v.text c.in-Some.ensures.steps.0 v.found c.if-left-eq0.false s c.in_err-left.was)

pub loop-c-preserved : goal.loop-c-preserved
loop-c-preserved c =
    let v = c.loop-c.invariant in
    let p = c.loop-c.walk.place in let r = c.loop-c.walk.after_return in let x = c.in-Some.c in let m = c.in_ok-left.left in
    let s = subst (λ r. SomeIff c.checked_sub.result (r ≤ c.loop-c.left) (c.loop-c.left - r)) c.len_utf8.ensures.len c.checked_sub.ensures in
    let l = enough c.checked_sub.result (length (encode_utf8 x)) c.loop-c.left m s c.in_ok-left.was in
    let b = past_bounds p r x in
    let wide = width_pos x in let most = units_width x in
    let line = ap (λ q. q.line) c.past-walk.ensures.place in
    let character = ap (λ q. q.character) c.past-walk.ensures.place in
    record {
      text = IsUtf8-past_char _ _ x v.text c.in-Some.ensures.steps.0;
      found = ap₂ (λ q a. place_after q a m (chars (chars_rest c.next.new.self))) c.past-walk.ensures.place c.past-walk.ensures.after_return
          ∙ walk_on p r c.loop-c.left m x c.checked_sub.result _ _ _ v.text c.in-Some.ensures.steps.0 v.found c.if-left-eq0.false s c.in_ok-left.was;
      line = omega (arith, v.line, l.0, l.1, b.0, wide, line);
      character = omega (arith, v.character, l.0, l.1, b.1, most, character);
    }

pub returns-then-left-eq0-2 : goal.returns-then-left-eq0-2
returns-then-left-eq0-2 c =
    let v = c.loop-c.invariant in
    walk_ended c.loop-c.walk.place c.loop-c.walk.after_return c.loop-c.left _ _ c.in-None.ensures.steps.0.0 v.found c.if-left-eq0-2.true

pub returns-else-left-eq0-2 : goal.returns-else-left-eq0-2
returns-else-left-eq0-2 c =
    let v = c.loop-c.invariant in
    walk_cut c.loop-c.walk.place c.loop-c.walk.after_return c.loop-c.left _ _ c.in-None.ensures.steps.0.0 v.found c.if-left-eq0-2.false
