-- A place's offset: what follows the place.
use Rattle.std.proofs.Common.{◌≡◌, ℕ, ◌+◌, ◌-◌, ◌<◌, ◌≤◌, List, ◌∷◌, ◌++◌, ◌⊎◌, Option, Some, None, MatchOption, option_and_then, unwrap_or, length, refl, sym, ap, ◌∙◌, subst, inl, inr, arith, append_assoc, chars, true, IsUtf8}
use Rattle.std.proofs.lemmas.List.{append_cancel_right}
use Rattle.std.proofs.lemmas.Grind.{common_steps}
use Rattle.text_documents.specs.declared.places.DocumentPosition.{DocumentPosition}
use Rattle.text_documents.specs.Lines.{AreLines, EndsInLine, is_at_end}
use Rattle.text_documents.specs.Places.{size, units_of, IsBetween, IsPast, IsPlaceAt, IsPastAt, IsOffsetOf, LacksLine, IsInPair}
use Rattle.text_documents.specs.Walks.{after_lines, after_units, back_at}
use Rattle.text_documents.proofs.SizeLemmas.{size-append, size-chars, cut_bytes}
use Rattle.text_documents.proofs.LineLemmas.{after_lines_is, after_lines_none, lines_found}
use Rattle.text_documents.proofs.UnitLemmas.{units_exact, units_past, units_inside, UnitsEnd, UnitsFound, units_found}

-- ---- what a place says of the text behind it
line_back : (n : ℕ) (front back begun : List ℕ) → EndsInLine n front back begun → after_lines n (front ++ back) ≡ Some (begun ++ back)
line_back n front back begun h = ap (λ x. after_lines n (x ++ back)) h.front_is ∙ ap (after_lines n) (append_assoc h.above begun back) ∙ after_lines_is n h.above (begun ++ back) h.are_lines

pub between_back : (place : DocumentPosition) (front back : List ℕ) → IsBetween place front back → back_at place (front ++ back) ≡ Some back
between_back place front back b =
    ap (option_and_then (after_units place.character)) (line_back place.line front back b.begun b.in_line)
    ∙ units_exact b.begun back place.character b.in_line.unbroken b.character

pub past_back : (place : DocumentPosition) (front back : List ℕ) → IsPast place front back → back_at place (front ++ back) ≡ Some back
past_back place front back b =
    ap (option_and_then (after_units place.character)) (line_back place.line front back b.begun b.in_line)
    ∙ units_past b.begun back place.character b.in_line.unbroken b.at_end b.character

pub pair_back : (place : DocumentPosition) (text : List ℕ) → IsInPair text place → back_at place text ≡ None
pair_back place text h =
    ap (back_at place) h.parts
    ∙ ap (option_and_then (after_units place.character)) (line_back place.line h.front (h.wide ∷ h.back) h.begun h.in_line)
    ∙ units_inside h.begun h.back h.wide place.character h.in_line.unbroken h.pair h.character

pub lacking_back : (place : DocumentPosition) (text : List ℕ) → LacksLine text place.line → back_at place text ≡ None
lacking_back place text h = grind (arith, common_steps, after_lines_none h.last place.line)

-- ---- what is found there
abbrev pub IsThere : DocumentPosition → List ℕ → List ℕ → Type 0
IsThere place text back = (front : List ℕ) × (text ≡ front ++ back) × (IsBetween place front back ⊎ IsPast place front back)

abbrev pub BackFound : DocumentPosition → List ℕ → Option (List ℕ) → Type 0
BackFound place text r = MatchOption r (LacksLine text place.line ⊎ IsInPair text place) (IsThere place text)

module _ (place : DocumentPosition) (text above rest : List ℕ) (is : text ≡ above ++ rest) (lines : AreLines place.line above rest) where
  side : (back : List ℕ) (u : UnitsEnd place.character rest back) → EndsInLine place.line (above ++ u.begun) back u.begun
      → (units_of u.begun ≡ place.character) ⊎ ((is_at_end back ≡ true) × (units_of u.begun < place.character))
      → IsBetween place (above ++ u.begun) back ⊎ IsPast place (above ++ u.begun) back
  side back u i k = grind (arith, common_steps)

  units_step : (r : Option (List ℕ)) → UnitsFound place.character rest r → BackFound place text r
  units_step None f = inr (record {
    front = above ++ f.begun;
    wide = f.wide;
    back = f.back;
    parts = is ∙ ap (λ x. above ++ x) f.parts ∙ sym (append_assoc above f.begun (f.wide ∷ f.back));
    pair = f.pair;
    begun = f.begun;
    in_line = record { above = above; front_is = refl; are_lines = subst (AreLines place.line above) f.parts lines; unbroken = f.unbroken };
    character = f.before;
  })
  units_step (Some back) f = grind (arith, common_steps, side back f)

pub back_found : (place : DocumentPosition) (text : List ℕ) → BackFound place text (back_at place text)
back_found place text = grind (arith, common_steps, units_step, units_found, lines_found place.line text)

-- ---- offsets
pub record OffsetBack (text : List ℕ) (place : DocumentPosition) (offset : ℕ) : Type 0 where
  pub back : List ℕ
  pub is : back_at place text ≡ Some back
  pub bytes : offset + size back ≡ size text

pub offset_back : (text : List ℕ) (place : DocumentPosition) (offset : ℕ) → IsOffsetOf text place offset → OffsetBack text place offset
offset_back text place offset (inl h) = grind (arith, common_steps, between_back place h.front h.back h.between, cut_bytes text h.front h.back offset h.cut)
offset_back text place offset (inr h) = grind (arith, common_steps, past_back place h.front h.back h.past, cut_bytes text h.front h.back offset h.cut)

-- a place has one offset
pub offset_one : (text : List ℕ) (place : DocumentPosition) (a b : ℕ) → IsOffsetOf text place a → IsOffsetOf text place b → a ≡ b
offset_one text place a b h k =
    let x = offset_back text place a h in let y = offset_back text place b k in
    let e = ap (λ o. unwrap_or o x.back) (sym x.is ∙ y.is) in
    omega (arith, x.bytes, y.bytes, ap size e)

-- a place has no offset where the text lacks its line, or it is in a pair
pub no_offset : (text : List ℕ) (place : DocumentPosition) (offset : ℕ) → back_at place text ≡ None → IsOffsetOf text place offset → ⊥
no_offset text place offset none h = let x = offset_back text place offset h in let e = sym none ∙ x.is in cc

pub none_back : (text : List ℕ) (place : DocumentPosition) → LacksLine text place.line ⊎ IsInPair text place → back_at place text ≡ None
none_back text place (inl h) = lacking_back place text h
none_back text place (inr h) = pair_back place text h

pub outside : (text : List ℕ) (place : DocumentPosition) (offset : ℕ) → LacksLine text place.line ⊎ IsInPair text place → IsOffsetOf text place offset → ⊥
outside text place offset n h = no_offset text place offset (none_back text place n) h

-- ---- for the code: a text and what follows the place, in bytes
pub found : (place : DocumentPosition) (bytes back : List ℕ) → IsUtf8 bytes → IsUtf8 back → Some (chars back) ≡ back_at place (chars bytes) → IsThere place (chars bytes) (chars back)
found place bytes back u v e = subst (BackFound place (chars bytes)) (sym e) (back_found place (chars bytes))

there_bytes : (place : DocumentPosition) (bytes back : List ℕ) → IsUtf8 bytes → IsUtf8 back → IsThere place (chars bytes) (chars back) → (length bytes - length back) + size (chars back) ≡ size (chars bytes)
there_bytes place bytes back u v t = omega (arith, ap size t.1, size-append t.0 (chars back), size-chars bytes u, size-chars back v)

pub offset_some : (place : DocumentPosition) (bytes back : List ℕ) → IsUtf8 bytes → IsUtf8 back → Some (chars back) ≡ back_at place (chars bytes) → IsOffsetOf (chars bytes) place (length bytes - length back)
offset_some place bytes back u v e =
    let t = found place bytes back u v e in
    grind (arith, common_steps, size-append, there_bytes place bytes back u v t)

pub back_shorter : (place : DocumentPosition) (bytes back : List ℕ) → IsUtf8 bytes → IsUtf8 back → Some (chars back) ≡ back_at place (chars bytes) → length back ≤ length bytes
back_shorter place bytes back u v e = grind (arith, common_steps, found place bytes back u v e, size-append, size-chars bytes u, size-chars back v)

pub offset_none : (place : DocumentPosition) (text : List ℕ) → None ≡ back_at place text → LacksLine text place.line ⊎ IsInPair text place
offset_none place text e = subst (BackFound place text) (sym e) (back_found place text)

-- a place in its line isn't past it
pub past_not_at : (text : List ℕ) (place : DocumentPosition) (a b : ℕ) → IsPlaceAt text a place → IsPastAt text b place → ⊥
past_not_at text place a b h k =
    let x = h.between in let y = k.past in
    let lines = ap (after_lines place.line) h.cut.parts ∙ line_back place.line h.front h.back x.begun x.in_line in
    let others = ap (after_lines place.line) k.cut.parts ∙ line_back place.line k.front k.back y.begun y.in_line in
    let backs = ap (λ o. unwrap_or o h.back) (sym (ap (back_at place) h.cut.parts ∙ between_back place h.front h.back x) ∙ (ap (back_at place) k.cut.parts ∙ past_back place k.front k.back y)) in
    let line = ap (λ o. unwrap_or o (x.begun ++ h.back)) (sym lines ∙ others) in
    let begun = append_cancel_right x.begun y.begun k.back (ap (λ b. x.begun ++ b) (sym backs) ∙ line) in
    omega (arith, ap units_of begun, x.character, y.character)
