use Rattle.std.proofs.Common.{◌≡◌, ◌+◌, ◌*◌, ◌/◌, ◌-◌, ◌<◌, ◌≤◌, ◌++◌, length, get_or, take, drop, sym, ap, subst, ◌∙◌}
use Rattle.std.proofs.lemmas.List.{take_min}
use Rattle.text_lines.specs.Marks.{IsBehind}
use Rattle.text_lines.proofs.MarkLemmas.{parts, whole_marks}
use Rattle.text_lines.proofs.LineTable.place.Goals as goal

-- the place behind the front of the text up to the offset
reached : (c : goal.After-past) → IsBehind (take c.args.offset c.args.self.now.text.now) c.past.result
reached c =
    let s = c.args.self.now in let k = c.args.offset / 256 in
    let found = c.in-Some.ensures.lookup in
    let marks : c.deref.result.now ≡ s.marks.items = c.deref.ensures.value in
    let few : k < length s.marks.items = subst (λ l. k < length l) marks found.3.0 in
    let is : c.in-Some.mark.now ≡ get_or s.marks.items k c.in-Some.mark.now = found.1 ∙ ap (λ l. get_or l k c.in-Some.mark.now) marks in
    let text : c.as_bytes-bytes.result.now ≡ s.text.now = c.as_bytes-bytes.ensures.value in
    let here : IsBehind (take (k * 256) s.text.now) c.in-Some.mark.now = subst (IsBehind (take (k * 256) s.text.now)) (sym is) (s.marked.mark k c.in-Some.mark.now few) in
    let least : k * 256 ≤ c.min.result = subst (λ n. k * 256 ≤ n) (sym c.min.ensures) (whole_marks c.args.offset (length c.as_bytes-bytes.result.now) (length s.marks.items) few
    (subst (λ t. length s.marks.items * 256 < length t + 256) (sym text) s.marked.needed)) in
    let bs = c.as_bytes-bytes.result.now in
    let whole : IsBehind (take (k * 256) bs ++ take (c.min.result - k * 256) (drop (k * 256) bs)) c.past.result = c.past.ensures (take (k * 256) bs) (subst (λ t. IsBehind (take (k * 256) t) c.in-Some.mark.now) (sym text) here) in
    subst (λ t. IsBehind (take c.args.offset t) c.past.result) text
    (subst (λ x. IsBehind x c.past.result) (parts bs (k * 256) c.min.result least ∙ ap (λ n. take n bs) c.min.ensures ∙ take_min c.args.offset bs) whole)

pub returns-in-Some-clause-line : goal.returns-in-Some-clause-line
returns-in-Some-clause-line c = (reached c).line

pub returns-in-Some-clause-column : goal.returns-in-Some-clause-column
returns-in-Some-clause-column c = (reached c).column
