-- Marks of a table of lines.
use Rattle.std.proofs.Common.{◌≡◌, ℕ, ◌+◌, ◌*◌, ◌/◌, ◌-◌, ◌<◌, ◌≤◌, ◌++◌, ◌∷◌, [], List, length, get_or, take, drop, sym, ap, subst, ◌∙◌, inl, inr, arith, length-append}
use Rattle.std.specs.Prelude.{min}
use Rattle.std.proofs.Math.Nat.{div-mul-le_self, le-min}
use Rattle.std.proofs.lemmas.Bool.{cases_lt}
use Rattle.std.proofs.lemmas.List.{get_or_append_left}
use Rattle.std.proofs.Math.Seq.{get_or-append_seam, take-add}
use Rattle.text_lines.specs.declared.LinePlace.{LinePlace}
use Rattle.text_lines.specs.Marks.{AreMarks, IsBehind}

-- one mark more
pub marks_more : (text : List ℕ) (n : ℕ) (marks : List LinePlace) (place : LinePlace) → length marks * 256 ≤ n → IsBehind (take n text) place → AreMarks text n marks
    → AreMarks text (n + 1) (marks ++ place ∷ [])
marks_more text n marks place h p m = record {
  mark = mark;
  enough = omega (arith, many, m.enough);
  needed = omega (arith, many, h);
}
  where
    many : length (marks ++ place ∷ []) ≡ length marks + 1
    many = length-append marks (place ∷ [])

    at_end : n ≡ length marks * 256
    at_end = omega (arith, h, m.enough)

    mark : (k : ℕ) (d : LinePlace) → k < length (marks ++ place ∷ []) → IsBehind (take (k * 256) text) (get_or (marks ++ place ∷ []) k d)
    mark k d l = elim (cases_lt k (length marks)) [
      | inl s ↦ subst (IsBehind (take (k * 256) text)) (sym (get_or_append_left marks (place ∷ []) d k s)) (m.mark k d s)
      | inr s ↦ (let e : k ≡ length marks = omega (arith, l, many, s) in
          subst (λ x. IsBehind (take (x * 256) text) (get_or (marks ++ place ∷ []) x d)) (sym e)
          (subst (IsBehind (take (length marks * 256) text)) (sym (get_or-append_seam marks place [] d)) (subst (λ x. IsBehind (take x text) place) at_end p)))
    ]

-- no mark more
pub marks_on : (text : List ℕ) (n : ℕ) (marks : List LinePlace) → n < length marks * 256 → AreMarks text n marks → AreMarks text (n + 1) marks
marks_on text n marks h m = record {
  mark = m.mark;
  enough = omega (arith, h);
  needed = omega (arith, m.needed);
}

-- a front, and what follows it up to an offset or the text's end
pub parts : (text : List ℕ) (from to : ℕ) → from ≤ to → take from text ++ take (to - from) (drop from text) ≡ take to text
parts text from to h =
    let e : from + (to - from) ≡ to = omega (arith, h) in
    sym (take-add from (to - from) text) ∙ ap (λ n. take n text) e

-- where an offset's mark stands
pub whole_marks : (offset size count : ℕ) → offset / 256 < count → count * 256 < size + 256 → offset / 256 * 256 ≤ min offset size
whole_marks offset size count h k =
    let below : offset / 256 * 256 ≤ offset = div-mul-le_self offset 256 in
    le-min below (omega (arith, h, k))
