-- One character of a text, and its end; one line of several.
use Rattle.std.proofs.Common.{◌≡◌, ℕ, suc, ◌+◌, ◌-◌, ◌<◌, ◌≤◌, List, [], ◌∷◌, ◌++◌, Option, Some, None, option_and_then, length, refl, sym, ap, ◌∙◌, inl, inr, arith, Bool, true, false, ◌&&◌, ◌==◌, if◌then◌else◌, nat_lt, ne_eqb, eq-eqb, le-ltb, lt-ltb, chars, encode_utf8, IsUtf8}
use Rattle.std.proofs.lemmas.List.{nil_from_length}
use Rattle.std.proofs.lemmas.Str.{chars_past_char, chars-nil, length-encode, len_utf8_bounds}
use Rattle.std.specs.Option.{SomeIff}
use Rattle.std.proofs.lemmas.Bool.{cases_lt}
use Rattle.std.proofs.lemmas.Option.{none-some, same_Some}
use Rattle.std.proofs.lemmas.Grind.{common_steps}
use Rattle.text_documents.specs.declared.places.DocumentPosition.{DocumentPosition}
use Rattle.text_documents.specs.Lines.{is_break}
use Rattle.text_documents.specs.Places.{units}
use Rattle.text_documents.specs.Walks.{after_line, after_lines, after_units, place_past, place_after, without_feed}
use Rattle.text_documents.proofs.SizeLemmas.{width}
use Rattle.text_documents.proofs.LineLemmas.{after_line_step, is_no_break}
use Rattle.text_documents.proofs.UnitLemmas.{units_cases, after_units_zero, after_units_break, after_units_step, after_units_inside}

-- what is found from here on, one character further, and at the end
pub one_on : {B : Type 0} (f : List ℕ → B) (bytes rest : List ℕ) (c : ℕ) (whole : B) → IsUtf8 bytes → bytes ≡ encode_utf8 c ++ rest → f (chars bytes) ≡ whole → f (c ∷ chars rest) ≡ whole
one_on f bytes rest c whole u e h = ap f (sym (chars_past_char bytes rest c u e)) ∙ h

pub at_end : {B : Type 0} (f : List ℕ → B) (bytes : List ℕ) (whole : B) → length bytes ≡ 0 → f (chars bytes) ≡ whole → f [] ≡ whole
at_end f bytes whole e h = ap f (sym (ap chars (nil_from_length bytes e) ∙ chars-nil)) ∙ h

pub line_on : (n counter : ℕ) (cs rest : List ℕ) (whole : Option (List ℕ)) → counter < n → Some rest ≡ after_line cs → after_lines (n - counter) cs ≡ whole → after_lines (n - (counter + 1)) rest ≡ whole
line_on n counter cs rest whole l e h =
    let k : n - counter ≡ suc (n - (counter + 1)) = omega arith in
    ap (option_and_then (after_lines (n - (counter + 1)))) e ∙ ap (λ m. after_lines m cs) (sym k) ∙ h

pub no_line_on : (n counter : ℕ) (cs : List ℕ) (whole : Option (List ℕ)) → counter < n → None ≡ after_line cs → after_lines (n - counter) cs ≡ whole → None ≡ whole
no_line_on n counter cs whole l e h = grind (arith, common_steps)

pub lines_done : (n counter : ℕ) (cs : List ℕ) (whole : Option (List ℕ)) → n ≤ counter → after_lines (n - counter) cs ≡ whole → Some cs ≡ whole
lines_done n counter cs whole l h = let k : 0 ≡ n - counter = omega arith in ap (λ m. after_lines m cs) k ∙ h

-- ---- what a subtraction says
pub too_few : (o : Option ℕ) (r n : ℕ) → SomeIff o (r ≤ n) (n - r) → o ≡ None → n < r
too_few None r n h e = grind (arith, cases_lt)
too_few (Some x) r n h e = absurd (none-some x (sym e))

pub enough : (o : Option ℕ) (r n m : ℕ) → SomeIff o (r ≤ n) (n - r) → o ≡ Some m → (r ≤ n) × (m ≡ n - r)
enough None r n m h e = absurd (none-some m e)
enough (Some x) r n m h e = (h.0, sym (same_Some x m e) ∙ h.1)

pub units_are : (c r : ℕ) → (c < 65536 → r ≡ 1) → (65536 ≤ c → r ≡ 2) → r ≡ units c
units_are c r one two = elim (units_cases c) [ inl h ↦ one h.0 ∙ sym h.1 | inr h ↦ two h.0 ∙ sym h.1 ]

-- ---- one character of a line
pub without_feed_on : (bytes rest : List ℕ) (c : ℕ) → IsUtf8 bytes → bytes ≡ encode_utf8 c ++ rest → c ≡ 10 → chars rest ≡ without_feed (chars bytes)
without_feed_on bytes rest c u e k = sym (ap without_feed (chars_past_char bytes rest c u e ∙ ap (λ x. x ∷ chars rest) k))

pub line_feed : (bytes rest : List ℕ) (c : ℕ) (whole : Option (List ℕ)) → IsUtf8 bytes → bytes ≡ encode_utf8 c ++ rest → after_line (chars bytes) ≡ whole → c ≡ 10 → Some (chars rest) ≡ whole
line_feed bytes rest c whole u e w k = ap (λ x. after_line (x ∷ chars rest)) (sym k) ∙ one_on after_line bytes rest c whole u e w

pub line_return : (bytes rest : List ℕ) (c : ℕ) (whole : Option (List ℕ)) → IsUtf8 bytes → bytes ≡ encode_utf8 c ++ rest → after_line (chars bytes) ≡ whole → c ≡ 13 → Some (without_feed (chars rest)) ≡ whole
line_return bytes rest c whole u e w k = ap (λ x. after_line (x ∷ chars rest)) (sym k) ∙ one_on after_line bytes rest c whole u e w

pub line_char : (bytes rest : List ℕ) (c : ℕ) (whole : Option (List ℕ)) → IsUtf8 bytes → bytes ≡ encode_utf8 c ++ rest → after_line (chars bytes) ≡ whole → (c ≡ 10 → ⊥) → (c ≡ 13 → ⊥) → after_line (chars rest) ≡ whole
line_char bytes rest c whole u e w a b = grind (arith, common_steps, after_line_step c (chars rest), is_no_break c, one_on after_line bytes rest c whole u e w)

pub units_short : (n c r : ℕ) (o : Option ℕ) (bytes rest : List ℕ) (whole : Option (List ℕ)) → IsUtf8 bytes → bytes ≡ encode_utf8 c ++ rest → after_units n (chars bytes) ≡ whole
    → 0 < n → is_break c ≡ false → r ≡ units c → SomeIff o (r ≤ n) (n - r) → o ≡ None → None ≡ whole
units_short n c r o bytes rest whole u e w p h k s none =
    let l = too_few o r n s none in
    sym (after_units_inside n c (chars rest) h p (omega (arith, l, k))) ∙ one_on (after_units n) bytes rest c whole u e w

pub units_on : (n m c r : ℕ) (o : Option ℕ) (bytes rest : List ℕ) (whole : Option (List ℕ)) → IsUtf8 bytes → bytes ≡ encode_utf8 c ++ rest → after_units n (chars bytes) ≡ whole
    → is_break c ≡ false → r ≡ units c → SomeIff o (r ≤ n) (n - r) → o ≡ Some m → after_units m (chars rest) ≡ whole
units_on n m c r o bytes rest whole u e w h k s some =
    let l = enough o r n m s some in
    let f : m ≡ n - units c = omega (arith, l.0, l.1, k) in
    ap (λ x. after_units x (chars rest)) f ∙ sym (after_units_step n c (chars rest) h (omega (arith, l.0, k))) ∙ one_on (after_units n) bytes rest c whole u e w

pub units_break : (n c : ℕ) (bytes rest : List ℕ) (whole : Option (List ℕ)) → IsUtf8 bytes → bytes ≡ encode_utf8 c ++ rest → after_units n (chars bytes) ≡ whole → is_break c ≡ true → Some (chars bytes) ≡ whole
units_break n c bytes rest whole u e w h = ap (λ x. Some x) (chars_past_char bytes rest c u e) ∙ sym (after_units_break n c (chars rest) h) ∙ one_on (after_units n) bytes rest c whole u e w

pub units_none : (n : ℕ) (bytes : List ℕ) (whole : Option (List ℕ)) → after_units n (chars bytes) ≡ whole → n ≤ 0 → Some (chars bytes) ≡ whole
units_none n bytes whole w l = let z : 0 ≡ n = omega arith in sym (after_units_zero (chars bytes)) ∙ ap (λ k. after_units k (chars bytes)) z ∙ w

pub units_end : (n : ℕ) (bytes : List ℕ) (whole : Option (List ℕ)) → after_units n (chars bytes) ≡ whole → length bytes ≡ 0 → Some (chars bytes) ≡ whole
units_end n bytes whole w e = ap (λ x. Some x) (ap chars (nil_from_length bytes e) ∙ chars-nil) ∙ at_end (after_units n) bytes whole e w

-- ---- one character of a walk
pub walk_stop : (p : DocumentPosition) (r : Bool) (n c : ℕ) (bytes rest : List ℕ) (whole : Option DocumentPosition) → IsUtf8 bytes → bytes ≡ encode_utf8 c ++ rest → place_after p r n (chars bytes) ≡ whole → n ≡ 0
    → (if r && c == 10 then None else Some p) ≡ whole
walk_stop p r n c bytes rest whole u e w z = ap (λ k. place_after p r k (c ∷ chars rest)) (sym z) ∙ one_on (place_after p r n) bytes rest c whole u e w

pub walk_short : (p : DocumentPosition) (r : Bool) (n c : ℕ) (o : Option ℕ) (bytes rest : List ℕ) (whole : Option DocumentPosition) → IsUtf8 bytes → bytes ≡ encode_utf8 c ++ rest → place_after p r n (chars bytes) ≡ whole
    → (n ≡ 0 → ⊥) → SomeIff o (width c ≤ n) (n - width c) → o ≡ None → None ≡ whole
walk_short p r n c o bytes rest whole u e w nz s none =
    let a : (n == 0) ≡ false = ne_eqb n 0 nz in
    let b : nat_lt n (width c) ≡ true = lt-ltb n (width c) (too_few o (width c) n s none) in
    let q : place_after p r n (c ∷ chars rest) ≡ None = rw (a, b) refl in
    sym q ∙ one_on (place_after p r n) bytes rest c whole u e w

pub walk_on : (p : DocumentPosition) (r : Bool) (n m c : ℕ) (o : Option ℕ) (bytes rest : List ℕ) (whole : Option DocumentPosition) → IsUtf8 bytes → bytes ≡ encode_utf8 c ++ rest → place_after p r n (chars bytes) ≡ whole
    → (n ≡ 0 → ⊥) → SomeIff o (width c ≤ n) (n - width c) → o ≡ Some m → place_after (place_past p r c) (c == 13) m (chars rest) ≡ whole
walk_on p r n m c o bytes rest whole u e w nz s some =
    let l = enough o (width c) n m s some in
    let a : (n == 0) ≡ false = ne_eqb n 0 nz in
    let b : nat_lt n (width c) ≡ false = le-ltb n (width c) l.0 in
    let q : place_after p r n (c ∷ chars rest) ≡ place_after (place_past p r c) (c == 13) (n - width c) (chars rest) = rw (a, b) refl in
    ap (λ k. place_after (place_past p r c) (c == 13) k (chars rest)) l.1 ∙ sym q ∙ one_on (place_after p r n) bytes rest c whole u e w

-- at the end of the text
pub walk_ended : (p : DocumentPosition) (r : Bool) (n : ℕ) (bytes : List ℕ) (whole : Option DocumentPosition) → length bytes ≡ 0 → place_after p r n (chars bytes) ≡ whole → n ≡ 0 → Some p ≡ whole
walk_ended p r n bytes whole e w z = let a : (n == 0) ≡ true = eq-eqb n 0 z in let q : place_after p r n [] ≡ Some p = rw a refl in sym q ∙ at_end (place_after p r n) bytes whole e w

pub walk_cut : (p : DocumentPosition) (r : Bool) (n : ℕ) (bytes : List ℕ) (whole : Option DocumentPosition) → length bytes ≡ 0 → place_after p r n (chars bytes) ≡ whole → (n ≡ 0 → ⊥) → None ≡ whole
walk_cut p r n bytes whole e w z = let a : (n == 0) ≡ false = ne_eqb n 0 z in let q : place_after p r n [] ≡ None = rw a refl in sym q ∙ at_end (place_after p r n) bytes whole e w

-- a line and a character go up by no more than the bytes that are passed
pub units_width : (c : ℕ) → units c ≤ width c
units_width c = grind (arith, common_steps, length-encode c, units_cases c, len_utf8_bounds c)

abbrev pub Bounds : DocumentPosition → ℕ → DocumentPosition → Type 0
Bounds p c q = (q.line ≤ p.line + 1) × (q.character ≤ p.character + units c)

pub past_bounds : (p : DocumentPosition) (r : Bool) (c : ℕ) → Bounds p c (place_past p r c)
past_bounds p r c = grind (arith, common_steps)
