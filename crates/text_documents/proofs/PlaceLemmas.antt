-- An offset's place: what a walk over the text finds, and what there is to find.
use Rattle.std.proofs.Common.{◌≡◌, ℕ, zero, suc, ◌+◌, ◌-◌, ◌≤◌, Bool, true, false, ◌==◌, List, [], ◌∷◌, ◌++◌, ◌⊎◌, Option, Some, None, IfSome, IfNone, unwrap_or, refl, sym, ap, ap₂, ◌∙◌, subst, inl, inr, arith, append_assoc, append-nil, add-zero, zero-add, eqb-true}
use Rattle.std.proofs.lemmas.Bool.{cases_Bool}
use Rattle.std.proofs.lemmas.List.Sums.{sum_by_push}
use Rattle.std.proofs.lemmas.Grind.{common_steps}
use Rattle.text_documents.specs.declared.places.DocumentPosition.{DocumentPosition}
use Rattle.text_documents.specs.Lines.{End, feed, return_feed, return, ending, is_break, IsUnbroken, MayFollow, AreLines}
use Rattle.text_documents.specs.Places.{units, units_of, size, IsBetween, IsCutAt, IsPlaceAt, IsOffsetOf, IsInEnd}
use Rattle.text_documents.specs.Walks.{place_past, place_after}
use Rattle.text_documents.proofs.SizeLemmas.{width, width_pos, size_more, size-append}
use Rattle.text_documents.proofs.LineLemmas.{no_break, unbroken_first, unbroken_rest, unbroken_cons, regrouped, AreLines-more}
use Rattle.text_documents.proofs.UnitLemmas.{units_more}

abbrev pub at : ℕ → ℕ → DocumentPosition
at line character = record { line = line; character = character }

-- ---- one character
pub place_step : (p : DocumentPosition) (r : Bool) (left c : ℕ) (cs : List ℕ) → place_after p r (width c + left) (c ∷ cs) ≡ place_after (place_past p r c) (c == 13) left cs
place_step p r left c cs = grind (arith, common_steps, width_pos c)

place_here : (p : DocumentPosition) (cs : List ℕ) → place_after p false 0 cs ≡ Some p
place_here p [] = refl
place_here p (c ∷ cs) = refl

plain_step : (p : DocumentPosition) (r : Bool) (left c : ℕ) (cs : List ℕ) → is_break c ≡ false → place_after p r (width c + left) (c ∷ cs) ≡ place_after (at p.line (p.character + units c)) false left cs
plain_step p r left c cs h =
    place_step p r left c cs
    ∙ ap (λ q. place_after q (c == 13) left cs) (grind (arith, no_break))
    ∙ ap (λ s. place_after (at p.line (p.character + units c)) s left cs) (no_break c h).no_return

-- ---- the characters of a line, an end, and whole lines
place_line : (line rest : List ℕ) (l c left : ℕ) → IsUnbroken line → place_after (at l c) false (size line + left) (line ++ rest) ≡ place_after (at l (c + units_of line)) false left rest
place_line [] rest l c left u = ap (λ n. place_after (at l c) false n rest) (zero-add left) ∙ ap (λ k. place_after (at l k) false left rest) (sym (add-zero c))
place_line (x ∷ xs) rest l c left u =
    let e : size (x ∷ xs) + left ≡ width x + (size xs + left) = omega (arith, size_more x xs) in
    let f : (c + units x) + units_of xs ≡ c + units_of (x ∷ xs) = omega (arith, units_more x xs) in
    ap (λ n. place_after (at l c) false n (x ∷ (xs ++ rest))) e
    ∙ plain_step (at l c) false (size xs + left) x (xs ++ rest) (unbroken_first x xs u)
    ∙ place_line xs rest l (c + units x) left (unbroken_rest x xs u)
    ∙ ap (λ k. place_after (at l k) false left rest) f

place_end : (end : End) (rest : List ℕ) (l c left : ℕ) → MayFollow end rest → place_after (at l c) false (size (ending end) + left) (ending end ++ rest) ≡ place_after (at (l + 1) 0) false left rest
place_end feed rest l c left m =
    let e : size (10 ∷ []) + left ≡ width 10 + left = omega (arith, size_more 10 []) in
    ap (λ n. place_after (at l c) false n (10 ∷ rest)) e ∙ place_step (at l c) false left 10 rest
place_end return_feed rest l c left m =
    let e : size (13 ∷ 10 ∷ []) + left ≡ width 13 + (width 10 + left) = omega (arith, size_more 13 (10 ∷ []), size_more 10 []) in
    ap (λ n. place_after (at l c) false n (13 ∷ 10 ∷ rest)) e ∙ place_step (at l c) false (width 10 + left) 13 (10 ∷ rest) ∙ place_step (at (l + 1) 0) true left 10 rest
place_end return rest l c left m =
    let e : size (13 ∷ []) + left ≡ width 13 + left = omega (arith, size_more 13 []) in
    ap (λ n. place_after (at l c) false n (13 ∷ rest)) e ∙ place_step (at l c) false left 13 rest ∙ (grind arith)

place_lines : (n : ℕ) (front rest : List ℕ) (l left : ℕ) → AreLines n front rest → place_after (at l 0) false (size front + left) (front ++ rest) ≡ place_after (at (l + n) 0) false left rest
place_lines zero front rest l left h = grind (arith, common_steps)
place_lines (suc n) front rest l left h =
    let e : size (h.0 ++ (ending h.1 ++ h.2)) + left ≡ size h.0 + (size (ending h.1) + (size h.2 + left)) = omega (arith, size-append h.0 (ending h.1 ++ h.2), size-append (ending h.1) h.2) in
    let f : (l + 1) + n ≡ l + suc n = omega arith in
    ap (λ x. place_after (at l 0) false (size x + left) (x ++ rest)) h.3
    ∙ ap (λ t. place_after (at l 0) false (size (h.0 ++ (ending h.1 ++ h.2)) + left) t) (regrouped h.0 h.1 h.2 rest)
    ∙ ap (λ k. place_after (at l 0) false k (h.0 ++ (ending h.1 ++ (h.2 ++ rest)))) e
    ∙ place_line h.0 (ending h.1 ++ (h.2 ++ rest)) l 0 (size (ending h.1) + (size h.2 + left)) h.4
    ∙ place_end h.1 (h.2 ++ rest) l (0 + units_of h.0) (size h.2 + left) h.5
    ∙ place_lines n h.2 rest (l + 1) left h.6
    ∙ ap (λ k. place_after (at k 0) false left rest) f

-- a place between a front and its back is found
pub between_place : (p : DocumentPosition) (front back : List ℕ) → IsBetween p front back → place_after (at 0 0) false (size front) (front ++ back) ≡ Some p
between_place p front back b =
    let i = b.in_line in
    let e : size (i.above ++ b.begun) ≡ size i.above + (size b.begun + 0) = omega (arith, size-append i.above b.begun) in
    ap (λ x. place_after (at 0 0) false (size x) (x ++ back)) i.front_is
    ∙ ap (λ t. place_after (at 0 0) false (size (i.above ++ b.begun)) t) (append_assoc i.above b.begun back)
    ∙ ap (λ k. place_after (at 0 0) false k (i.above ++ (b.begun ++ back))) e
    ∙ place_lines p.line i.above (b.begun ++ back) 0 (size b.begun + 0) i.are_lines
    ∙ place_line b.begun back (0 + p.line) 0 0 i.unbroken
    ∙ place_here (at (0 + p.line) (0 + units_of b.begun)) back
    ∙ ap₂ (λ l c. Some (at l c)) (zero-add p.line) (zero-add (units_of b.begun) ∙ b.character)

-- none is found between \r and \n
end_place : (before : List ℕ) (p : DocumentPosition) (r : Bool) (after : List ℕ) → place_after p r (size (before ++ 13 ∷ [])) ((before ++ 13 ∷ []) ++ 10 ∷ after) ≡ None
end_place [] p r after = grind (arith, common_steps, size_more 13 [], place_step p r 0 13 (10 ∷ after))
end_place (c ∷ cs) p r after =
    ap (λ n. place_after p r n (c ∷ ((cs ++ 13 ∷ []) ++ 10 ∷ after))) (size_more c (cs ++ 13 ∷ []))
    ∙ place_step p r (size (cs ++ 13 ∷ [])) c ((cs ++ 13 ∷ []) ++ 10 ∷ after)
    ∙ end_place cs (place_past p r c) (c == 13) after

pub in_end_place : (front back : List ℕ) → IsInEnd front back → place_after (at 0 0) false (size front) (front ++ back) ≡ None
in_end_place front back h = ap₂ (λ x y. place_after (at 0 0) false (size x) (x ++ y)) h.front_is h.back_is ∙ end_place h.before (at 0 0) false h.after

-- ---- each cut has a place, but those between \r and \n
grow_char : (p : DocumentPosition) (front : List ℕ) (c : ℕ) (cs : List ℕ) → is_break c ≡ false → IsBetween p front (c ∷ cs) → IsBetween (at p.line (p.character + units c)) (front ++ c ∷ []) cs
grow_char p front c cs h b = grind (arith, common_steps, unbroken_cons c [] h refl, sum_by_push units b.begun c)

grow_end : (p : DocumentPosition) (front : List ℕ) (end : End) (cs : List ℕ) → MayFollow end cs → IsBetween p front (ending end ++ cs) → IsBetween (at (suc p.line) 0) (front ++ ending end) cs
grow_end p front end cs m b =
    let i = b.in_line in record {
      begun = [];
      in_line = record {
        above = front ++ ending end;
        front_is = sym (append-nil (front ++ ending end));
        are_lines = subst (λ x. AreLines (suc p.line) x cs) (sym (ap (λ x. x ++ ending end) i.front_is ∙ append_assoc i.above b.begun (ending end)))
            (AreLines-more p.line i.above b.begun end cs i.are_lines i.unbroken m);
        unbroken = refl;
      };
      character = refl;
    }

abbrev pub HasPlace : List ℕ → List ℕ → Type 0
HasPlace front back = IsInEnd front back ⊎ ((p : DocumentPosition) × IsBetween p front back)

abbrev Goes : List ℕ → Type 0
Goes cs = (front back : List ℕ) (p : DocumentPosition) → IsBetween p front (cs ++ back) → HasPlace (front ++ cs) back

-- past an end that these characters begin with
end_goes : (end : End) (ds : List ℕ) → Goes ds → (front back : List ℕ) (p : DocumentPosition) → MayFollow end (ds ++ back) → IsBetween p front (ending end ++ (ds ++ back)) → HasPlace (front ++ (ending end ++ ds)) back
end_goes end ds h front back p m b =
    subst (λ x. HasPlace x back) (append_assoc front (ending end) ds) (h (front ++ ending end) back (at (suc p.line) 0) (grow_end p front end (ds ++ back) m b))

char_goes : (d : ℕ) (ds : List ℕ) → is_break d ≡ false → Goes ds → Goes (d ∷ ds)
char_goes d ds n h front back p b =
    subst (λ x. HasPlace x back) (append_assoc front (d ∷ []) ds) (h (front ++ d ∷ []) back (at p.line (p.character + units d)) (grow_char p front d (ds ++ back) n b))

return_last : (back front : List ℕ) (p : DocumentPosition) → IsBetween p front (13 ∷ back) → HasPlace (front ++ 13 ∷ []) back
return_last [] front p b = inr (at (suc p.line) 0, grow_end p front return [] refl b)
return_last (x ∷ xs) front p b = grind (arith, common_steps, grow_end p front return (x ∷ xs))

return_goes : (d : ℕ) (ds : List ℕ) → Goes ds → Goes (d ∷ ds) → Goes (13 ∷ d ∷ ds)
return_goes d ds h k = elim (cases_Bool (d == 10)) [
  | inl e ↦ subst (λ x. Goes (13 ∷ x ∷ ds)) (sym (eqb-true d 10 e)) (λ front back p b. end_goes return_feed ds h front back p tt b)
  | inr e ↦ (λ front back p b. end_goes return (d ∷ ds) k front back p e b)
]

first_goes : (d : ℕ) (ds : List ℕ) → Goes ds → Goes (13 ∷ ds) → Goes (d ∷ ds)
first_goes d ds h k = elim (cases_Bool (d == 10)) [
  | inl e ↦ subst (λ x. Goes (x ∷ ds)) (sym (eqb-true d 10 e)) (λ front back p b. end_goes feed ds h front back p tt b)
  | inr e ↦ elim (cases_Bool (d == 13)) [
    | inl f ↦ subst (λ x. Goes (x ∷ ds)) (sym (eqb-true d 13 f)) k
    | inr f ↦ (let n : is_break d ≡ false = rw (e, f) refl in char_goes d ds n h)
  ]
]

goes : (cs : List ℕ) → Goes cs × Goes (13 ∷ cs)
goes [] = ((λ front back p b. inr (p, subst (λ x. IsBetween p x back) (sym (append-nil front)) b)), λ front back p b. return_last back front p b)
goes (d ∷ ds) =
    let h = goes ds in
    let k : Goes (d ∷ ds) = first_goes d ds h.0 h.1 in
    (k, return_goes d ds h.0 k)

pub has_place : (front back : List ℕ) → HasPlace front back
has_place front back = (goes front).0 [] back (at 0 0) (grind arith)

-- ---- where a place is found, the text is cut
abbrev HasCut : List ℕ → ℕ → Type 0
HasCut text offset = (front : List ℕ) × (back : List ℕ) × IsCutAt text offset front back

map_any : (o : Option DocumentPosition) (A B : Type 0) → (A → B) → IfSome o (λ _. A) → IfSome o (λ _. B)
map_any o A B f h = grind (arith, common_steps)

further : (c : ℕ) (cs : List ℕ) (left : ℕ) → width c ≤ left → HasCut cs (left - width c) → HasCut (c ∷ cs) left
further c cs left l h = (c ∷ h.0, h.1, record { parts = ap (λ x. c ∷ x) h.2.parts; bytes = omega (arith, size_more c h.0, h.2.bytes, l) })

place_cut : (cs : List ℕ) (p : DocumentPosition) (r : Bool) (left : ℕ) → IfSome (place_after p r left cs) (λ _. HasCut cs left)
place_cut [] p r left = elim (cases_Bool (left == 0)) [
  | inl e ↦ grind (arith, common_steps)
  | inr e ↦ (let q : place_after p r left [] ≡ None = rw e refl in subst (λ o. IfSome o (λ _. HasCut [] left)) (sym q) tt)
]
place_cut (c ∷ cs) p r left = elim (cases_Bool (left == 0)) [
  | inl e ↦ grind (arith, common_steps)
  | inr e ↦ grind (arith, common_steps, place_cut cs (place_past p r c) (c == 13) (left - width c), map_any, further)
]

-- ---- offsets and places
abbrev pub place_of : List ℕ → ℕ → Option DocumentPosition
place_of text offset = place_after (at 0 0) false offset text

pub place_only : (text : List ℕ) (offset : ℕ) (p : DocumentPosition) → IsPlaceAt text offset p → place_of text offset ≡ Some p
place_only text offset p h = grind (arith, common_steps, between_place p h.front h.back h.between)

-- an offset has one place
pub place_one : (text : List ℕ) (offset : ℕ) (p q : DocumentPosition) → IsPlaceAt text offset p → IsPlaceAt text offset q → p ≡ q
place_one text offset p q h k = ap (λ o. unwrap_or o p) (sym (place_only text offset p h) ∙ place_only text offset q k)

in_end_none : (text front back : List ℕ) (offset : ℕ) → IsCutAt text offset front back → IsInEnd front back → place_of text offset ≡ None
in_end_none text front back offset cut h = grind (arith, common_steps, in_end_place front back h)

-- no place is between \r and \n
pub end_no_place : (p : DocumentPosition) (front back : List ℕ) → IsInEnd front back → IsBetween p front back → ⊥
end_no_place p front back h b = let e = sym (in_end_place front back h) ∙ between_place p front back b in cc

pub each_cut : (text front back : List ℕ) (offset : ℕ) → IsCutAt text offset front back → IsInEnd front back ⊎ ((p : DocumentPosition) × IsPlaceAt text offset p)
each_cut text front back offset cut = grind (arith, common_steps, has_place front back)

from_some : (o : Option DocumentPosition) (p : DocumentPosition) (A : Type 0) → o ≡ Some p → IfSome o (λ _. A) → A
from_some o p A e h = grind (arith, common_steps)

pub place_found : (text : List ℕ) (offset : ℕ) (p : DocumentPosition) → place_of text offset ≡ Some p → IsPlaceAt text offset p
place_found text offset p e =
    let c = from_some (place_of text offset) p (HasCut text offset) e (place_cut text (at 0 0) false offset) in
    elim (each_cut text c.0 c.1 offset c.2) [
      | inl h ↦ (let no = sym (in_end_none text c.0 c.1 offset c.2 h) ∙ e in absurd (impossible p no))
      | inr h ↦ subst (IsPlaceAt text offset) (ap (λ o. unwrap_or o p) (sym (place_only text offset h.0 h.1) ∙ e)) h.1
    ]
  where
    impossible : (p : DocumentPosition) → (let none : Option DocumentPosition = None in none ≡ Some p) → ⊥
    impossible p h = cc

pub place_none : (text : List ℕ) (offset : ℕ) → place_of text offset ≡ None → (front back : List ℕ) → IsCutAt text offset front back → IsInEnd front back
place_none text offset e front back cut = elim (each_cut text front back offset cut) [
  | inl h ↦ h
  | inr h ↦ (let no = sym e ∙ place_only text offset h.0 h.1 in absurd (impossible h.0 no))
]
  where
    impossible : (p : DocumentPosition) → (let none : Option DocumentPosition = None in none ≡ Some p) → ⊥
    impossible p h = cc

-- the clauses of `place_at`, of what the walk gives
pub place_clause : (text : List ℕ) (offset : ℕ) (o : Option DocumentPosition) → o ≡ place_of text offset → IfSome o (IsPlaceAt text offset)
place_clause text offset None e = tt
place_clause text offset (Some p) e = place_found text offset p (sym e)

pub none_clause : (text : List ℕ) (offset : ℕ) (o : Option DocumentPosition) → o ≡ place_of text offset → IfNone o ((front back : List ℕ) → IsCutAt text offset front back → IsInEnd front back)
none_clause text offset None e = place_none text offset (sym e)
none_clause text offset (Some p) e = tt

-- ---- there and back
pub offset_place : (text : List ℕ) (place : DocumentPosition) (offset : ℕ) → IsOffsetOf text place offset → (p : DocumentPosition) × IsPlaceAt text offset p
offset_place text place offset (inl h) = (place, h)
offset_place text place offset (inr h) = (
  at place.line (units_of h.past.begun),
  record { front = h.front; back = h.back; cut = h.cut; between = record { begun = h.past.begun; in_line = h.past.in_line; character = refl } },
)

pub offset_again_place : (text : List ℕ) (offset : ℕ) (o : Option ℕ) (p : DocumentPosition) → IsPlaceAt text offset p → IfSome o (λ _. (q : DocumentPosition) × IsPlaceAt text offset q)
offset_again_place text offset o p h = grind (arith, common_steps)

pub place_again_found : (text : List ℕ) (place : DocumentPosition) (offset : ℕ) (o : Option DocumentPosition) → IsOffsetOf text place offset → IfSome o (IsPlaceAt text offset)
    → IfSome o (λ p. (n : ℕ) × IsOffsetOf text place n × IsPlaceAt text n p)
place_again_found text place offset o h k = grind (arith, common_steps)

pub place_again_none : (text : List ℕ) (place : DocumentPosition) (offset : ℕ) (o : Option DocumentPosition) (A : Type 0) → IsOffsetOf text place offset → ((p : DocumentPosition) → IsPlaceAt text offset p → o ≡ Some p) → IfNone o A
place_again_none text place offset o A h only = let p = offset_place text place offset h in subst (λ r. IfNone r A) (sym (only p.0 p.1)) tt
