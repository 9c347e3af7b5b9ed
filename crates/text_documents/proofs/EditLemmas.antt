-- Where a text may be cut for an edit, and that an edit has one outcome.
use Rattle.std.proofs.Common.{◌≡◌, ℕ, true, List, [], ◌∷◌, ◌++◌, refl, sym, ap, ◌∙◌, subst, inl, inr, chars, encode_utf8_all, IsUtf8, IsCharBoundary, arith}
use Rattle.std.specs.Str.{all_scalars}
use Rattle.std.proofs.lemmas.Bool.{and_parts}
use Rattle.std.proofs.lemmas.Str.{encodes-append, encodes-chars, scalars-chars, IsCharBoundary-at_seam}
use Rattle.std.proofs.lemmas.Grind.{common_steps}
use Rattle.text_documents.specs.declared.places.DocumentPosition.{DocumentPosition}
use Rattle.text_documents.specs.Places.{IsCutAt, IsOffsetOf, IsRange, IsEdit}
use Rattle.text_documents.proofs.OffsetLemmas.{offset_one}

scalars_back : (front back : List ℕ) → all_scalars (front ++ back) ≡ true → all_scalars back ≡ true
scalars_back [] back h = h
scalars_back (c ∷ cs) back h = scalars_back cs back (and_parts _ _ h).1

cut_boundary : (bytes front back : List ℕ) (offset : ℕ) → IsUtf8 bytes → IsCutAt (chars bytes) offset front back → IsCharBoundary bytes offset
cut_boundary bytes front back offset u cut =
    let e : bytes ≡ encode_utf8_all front ++ encode_utf8_all back = sym (encodes-chars bytes u) ∙ ap encode_utf8_all cut.parts ∙ encodes-append front back in
    let s : all_scalars back ≡ true = scalars_back front back (ap all_scalars (sym cut.parts) ∙ scalars-chars bytes u) in
    subst (IsCharBoundary bytes) cut.bytes (IsCharBoundary-at_seam bytes (encode_utf8_all front) (encode_utf8_all back) e (back, (s, refl)))

-- a place's offset is at the boundary of a character
pub offset_boundary : (bytes : List ℕ) (place : DocumentPosition) (offset : ℕ) → IsUtf8 bytes → IsOffsetOf (chars bytes) place offset → IsCharBoundary bytes offset
offset_boundary bytes place offset u (inl h) = cut_boundary bytes h.front h.back offset u h.cut
offset_boundary bytes place offset u (inr h) = cut_boundary bytes h.front h.back offset u h.cut

-- a range is one
pub range_one : (text : List ℕ) (begin end : DocumentPosition) (a b c d : ℕ) → IsRange text begin end a b → IsRange text begin end c d → (a ≡ c) × (b ≡ d)
range_one text begin end a b c d h k = (offset_one text begin a c h.begins k.begins, offset_one text end b d h.ends k.ends)

-- an edit has one outcome
pub edit_one : (bytes : List ℕ) (begin end : DocumentPosition) (new made other : List ℕ) → IsEdit bytes begin end new made → IsEdit bytes begin end new other → made ≡ other
edit_one bytes begin end new made other h k = grind (arith, common_steps, range_one (chars bytes) begin end h.from h.to k.from k.to h.range k.range)
