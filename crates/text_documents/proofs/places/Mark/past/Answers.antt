use Rattle.std.proofs.Common.{◌≡◌, ◌+◌, ◌≤◌, false, sym, ap, ap₂, ◌∙◌, arith, chars}
use Rattle.text_documents.specs.Walks.{place_after}
use Rattle.text_documents.proofs.PlaceLemmas.{at}
use Rattle.text_documents.proofs.SizeLemmas.{width_pos}
use Rattle.text_documents.proofs.TableLemmas.{goes_on_past}
use Rattle.text_documents.proofs.Walking.{past_bounds, units_width}
use Rattle.text_documents.proofs.places.Mark.past.Goals as goal

pub returns-clause-mark : goal.returns-clause-mark
returns-clause-mark c = λ text h e.
    let s = c.args.self in let x = c.args.c in let rest = c.args.rest.now in
    let p = s.walk.place in let r = s.walk.after_return in
    let bounds = past_bounds p r x in
    let wide = width_pos x in let most = units_width x in
    let len = c.len_utf8.ensures.len in
    let line = ap (λ q. q.line) c.past.ensures.place in
    let character = ap (λ q. q.character) c.past.ensures.place in
    record {
      goes_on = λ n. ap (λ w. place_after (at 0 0) false ((s.offset + w) + n) text) len
          ∙ goes_on_past text (chars rest) (chars s.rest.now) s.offset x p r e h.goes_on n
          ∙ sym (ap₂ (λ q a. place_after q a n (chars rest)) c.past.ensures.place c.past.ensures.after_return);
      line = omega (arith, h.line, bounds.0, wide, line, len);
      character = omega (arith, h.character, bounds.1, most, character, len);
    }
