-- Written names are letters with `r#` and `::` at most; in quoted texts quotes stand behind backslashes.
use Rattle.std.proofs.Common.{◌≡◌, ◌≤◌, ◌+◌, ◌/◌, ◌%◌, ◌&&◌, ◌||◌, ◌++◌, ◌==◌, ◌∷◌, [], ℕ, Bool, true, false, not, cond, List, map, codes, refl, ap, subst, eqb-true, arith}
use Rattle.std.specs.Prelude.{nat_lt}
use Rattle.std.specs.Char.{encode_utf8, is_ascii_alphanumeric}
use Rattle.std.specs.List.{flat_map, list_all}
use Rattle.std.specs.Str.{bytes_eq, chars}
use Rattle.std.proofs.lemmas.Bool.{and_parts, and_from, false≢true, not-true}
use Rattle.model.proofs.Bytes.{same_bytes}
use Rattle.rust_items.specs.RustNames.{raw_keywords, path_keywords, is_among, is_word, needs_front, is_identifier, word_for, front, part, is_blank, raw_mark, end_mark, spelled, segments, is_path, joined, raw_segment, spelled_path, truths, spelled_constant, escaped, quoted, are_several}
use Rattle.model_code.specs.Closed.{is_closed, stays_quoted, all_letters, is_plain_mark, all_plain, all_named}
use Rattle.model_code.proofs.Lexing.{letters_before, decimal_letters, hexadecimal_letters}
use Rattle.model_code.proofs.Closed.{closed_plain, letters_plain, closed_quoted, stays_together, letters_named, named_before}
use Rattle.rust_text.specs.ClosedNames.{WrittenNamesAreClosed}

-- 1. texts without quotes and slashes, one behind another
plain_before : (x y : List ℕ) → all_plain x ≡ true → all_plain y ≡ true → all_plain (x ++ y) ≡ true
plain_before [] y h k = k
plain_before (c ∷ x) y h k = let hs = and_parts (is_plain_mark c) (all_plain x) h in and_from _ _ hs.0 (plain_before x y hs.1 k)

either_plain : (b : Bool) (x y : List ℕ) → all_plain x ≡ true → all_plain y ≡ true → all_plain (cond b x y) ≡ true
either_plain true x y h k = h
either_plain false x y h k = k

-- 2. names
word_letter : (c : ℕ) (b : Bool) → is_ascii_alphanumeric c ≡ b → is_word (cond b c 95) ≡ true
word_letter c true e = ap (λ b. b || (c == 95)) e
word_letter c false e = refl

words_letters : (cs : List ℕ) → all_letters (map word_for cs) ≡ true
words_letters [] = refl
words_letters (c ∷ cs) = and_from _ _ (word_letter c (is_ascii_alphanumeric c) refl) (words_letters cs)

front_letters : (b : Bool) → all_letters (cond b (codes "_") []) ≡ true
front_letters true = refl
front_letters false = refl

pub part_letters : (name : List ℕ) → all_letters (part name) ≡ true
part_letters name = letters_before (front name) (map word_for (chars name)) (front_letters (needs_front name)) (words_letters (chars name))

pub mark_plain : (name : List ℕ) → all_plain (raw_mark name) ≡ true
mark_plain name = either_plain (is_among raw_keywords name) (codes "r#") [] refl refl

spelled_plain : (name : List ℕ) → all_plain (spelled name) ≡ true
spelled_plain name =
    plain_before (raw_mark name ++ part name) (end_mark name) (plain_before (raw_mark name) (part name) (mark_plain name) (letters_plain (part name) (part_letters name)))
    (either_plain (is_among path_keywords name || is_blank (chars name)) (codes "_") [] refl refl)

-- so they are letters and `#`
either_named : (b : Bool) (x y : List ℕ) → all_named x ≡ true → all_named y ≡ true → all_named (cond b x y) ≡ true
either_named true x y h k = h
either_named false x y h k = k

pub spelled_named : (name : List ℕ) → all_named (spelled name) ≡ true
spelled_named name =
    named_before (raw_mark name ++ part name) (end_mark name)
    (named_before (raw_mark name) (part name) (either_named (is_among raw_keywords name) (codes "r#") [] refl refl) (letters_named (part name) (part_letters name)))
    (either_named (is_among path_keywords name || is_blank (chars name)) (codes "_") [] refl refl)

-- 3. paths
pub identifier_plain : (name : List ℕ) → list_all is_word name ≡ true → all_letters name ≡ true
identifier_plain [] h = refl
identifier_plain (c ∷ cs) h = let hs = and_parts (is_word c) (list_all is_word cs) h in and_from _ _ hs.0 (identifier_plain cs hs.1)

segment_plain : (name : List ℕ) → is_identifier name ≡ true → all_plain (raw_segment name) ≡ true
segment_plain name h =
    plain_before (raw_mark name) name (mark_plain name)
    (letters_plain name (identifier_plain name (and_parts (not (needs_front name) && not (bytes_eq name (codes "_"))) (list_all is_word name) h).1))

joined_plain : (names : List (List ℕ)) → list_all is_identifier names ≡ true → all_plain (joined (map raw_segment names)) ≡ true
joined_plain [] h = refl
joined_plain (x ∷ []) h = segment_plain x (and_parts (is_identifier x) true h).0
joined_plain (x ∷ (y ∷ names)) h =
    let hs = and_parts (is_identifier x) (list_all is_identifier (y ∷ names)) h in
    plain_before (raw_segment x ++ codes "::") (joined (map raw_segment (y ∷ names))) (plain_before (raw_segment x) (codes "::") (segment_plain x hs.0) refl) (joined_plain (y ∷ names) hs.1)

path_plain : (name : List ℕ) → all_plain (spelled_path name) ≡ true
path_plain name = by (is_path name) refl
  where
    by : (b : Bool) → is_path name ≡ b → all_plain (cond b (joined (map raw_segment (segments name))) (spelled name)) ≡ true
    by true e = joined_plain (segments name) (and_parts (are_several (segments name)) (list_all is_identifier (segments name)) e).1
    by false e = spelled_plain name

-- a word among plain ones is plain
among_plain : (words : List (List ℕ)) (name : List ℕ) → list_all all_plain words ≡ true → is_among words name ≡ true → all_plain name ≡ true
among_plain [] name h k = absurd (false≢true k)
among_plain (w ∷ ws) name h k = let hs = and_parts (all_plain w) (list_all all_plain ws) h in by (bytes_eq w name) refl hs.0 k (λ f. among_plain ws name hs.1 f)
  where
    by : (b : Bool) → bytes_eq w name ≡ b → all_plain w ≡ true → (b || is_among ws name) ≡ true → (is_among ws name ≡ true → all_plain name ≡ true) → all_plain name ≡ true
    by true e own f later = subst (λ x. all_plain x ≡ true) (same_bytes w name e) own
    by false e own f later = later f

constant_plain : (name : List ℕ) → all_plain (spelled_constant name) ≡ true
constant_plain name = by (is_among truths name) refl
  where
    by : (b : Bool) → is_among truths name ≡ b → all_plain (cond b name (spelled_path name)) ≡ true
    by true e = among_plain truths name refl e
    by false e = path_plain name

-- 4. quoted texts
-- the bytes of a character: itself, or great ones
module _ (test : ℕ → Bool) (great : (b : ℕ) → 128 ≤ b → test b ≡ true) where
  lead_passes : (a d : ℕ) (cs : List ℕ) → 128 ≤ a → list_all test cs ≡ true → list_all test ((a + d) ∷ cs) ≡ true
  lead_passes a d cs h k = and_from _ _ (great (a + d) (omega (arith, h))) k

  next_passes : (c : ℕ) (cs : List ℕ) → list_all test cs ≡ true → list_all test ((128 + c % 64) ∷ cs) ≡ true
  next_passes c cs k = and_from _ _ (great (128 + c % 64) (omega arith)) k

  two_pass : (c : ℕ) → list_all test ((128 + c / 64 % 64) ∷ (128 + c % 64) ∷ []) ≡ true
  two_pass c = next_passes (c / 64) ((128 + c % 64) ∷ []) (next_passes c [] refl)

  pub encoded_pass : (c : ℕ) → test c ≡ true → list_all test (encode_utf8 c) ≡ true
  unfolding encode_utf8
  encoded_pass c h = one (nat_lt c 128)
    where
      three : (b : Bool)
          → list_all test (cond b ((224 + c / 4096) ∷ (128 + c / 64 % 64) ∷ (128 + c % 64) ∷ []) ((240 + c / 262144) ∷ (128 + c / 4096 % 64) ∷ (128 + c / 64 % 64) ∷ (128 + c % 64) ∷ [])) ≡ true
      three true = lead_passes 224 (c / 4096) ((128 + c / 64 % 64) ∷ (128 + c % 64) ∷ []) (omega arith) (two_pass c)
      three false =
          lead_passes 240 (c / 262144) ((128 + c / 4096 % 64) ∷ (128 + c / 64 % 64) ∷ (128 + c % 64) ∷ []) (omega arith) (next_passes (c / 4096) ((128 + c / 64 % 64) ∷ (128 + c % 64) ∷ []) (two_pass c))

      two : (b : Bool)
          → list_all test (cond b ((192 + c / 64) ∷ (128 + c % 64) ∷ []) (cond (nat_lt c 65536) ((224 + c / 4096) ∷ (128 + c / 64 % 64) ∷ (128 + c % 64) ∷ []) ((240 + c / 262144) ∷ (128 + c / 4096 % 64) ∷ (128 + c / 64 % 64) ∷ (128 + c % 64) ∷ []))) ≡ true
      two true = lead_passes 192 (c / 64) ((128 + c % 64) ∷ []) (omega arith) (next_passes c [] refl)
      two false = three (nat_lt c 65536)

      one : (b : Bool)
          → list_all test (cond b (c ∷ []) (cond (nat_lt c 2048) ((192 + c / 64) ∷ (128 + c % 64) ∷ []) (cond (nat_lt c 65536) ((224 + c / 4096) ∷ (128 + c / 64 % 64) ∷ (128 + c % 64) ∷ []) ((240 + c / 262144) ∷ (128 + c / 4096 % 64) ∷ (128 + c / 64 % 64) ∷ (128 + c % 64) ∷ [])))) ≡ true
      one true = and_from _ _ h refl
      one false = two (nat_lt c 2048)

pub other_number : (b n : ℕ) → (b ≡ n → ⊥) → not (b == n) ≡ true
other_number b n h = by (b == n) refl
  where
    by : (e : Bool) → (b == n) ≡ e → not e ≡ true
    by true e = absurd (h (eqb-true b n e))
    by false e = refl

-- a character that neither ends quotes nor is a backslash
abbrev is_quiet : ℕ → Bool
is_quiet c = not (c == 34) && not (c == 92)

great_quiet : (b : ℕ) → 128 ≤ b → is_quiet b ≡ true
great_quiet b h = and_from _ _ (other_number b 34 (λ e. omega (arith, h, e))) (other_number b 92 (λ e. omega (arith, h, e)))

quiet_stays : (cs : List ℕ) → list_all is_quiet cs ≡ true → stays_quoted cs ≡ true
quiet_stays [] h = refl
quiet_stays (c ∷ cs) h =
    let hs = and_parts (is_quiet c) (list_all is_quiet cs) h in
    let qs = and_parts (not (c == 34)) (not (c == 92)) hs.0 in
    rw (not-true (c == 92) qs.1) (and_from _ _ qs.0 (quiet_stays cs hs.1))

encoded_stays : (c : ℕ) → (c == 34) ≡ false → (c == 92) ≡ false → stays_quoted (encode_utf8 c) ≡ true
encoded_stays c q s = quiet_stays (encode_utf8 c) (encoded_pass is_quiet great_quiet c (and_from _ _ (ap not q) (ap not s)))

escaped_stays : (c : ℕ) → stays_quoted (escaped c) ≡ true
escaped_stays c = by (c == 34) (c == 92) refl refl
  where
    by : (p q : Bool) → (c == 34) ≡ p → (c == 92) ≡ q → stays_quoted (cond (p || q) (92 ∷ (c ∷ [])) (encode_utf8 c)) ≡ true
    by true q e f = refl
    by false true e f = refl
    by false false e f = encoded_stays c e f

pub all_stay : (cs : List ℕ) → stays_quoted (flat_map escaped cs) ≡ true
all_stay [] = refl
all_stay (c ∷ cs) = stays_together (escaped c) (flat_map escaped cs) (escaped_stays c) (all_stay cs)

quoted_closed : (text : List ℕ) → is_closed (quoted text) ≡ true
quoted_closed text = closed_quoted (flat_map escaped (chars text)) (all_stay (chars text))

pub written_names_are_closed_lem : WrittenNamesAreClosed
written_names_are_closed_lem = record {
  part = part_letters;
  name = λ name. closed_plain (spelled name) (spelled_plain name);
  path = λ name. closed_plain (spelled_path name) (path_plain name);
  constant = λ name. closed_plain (spelled_constant name) (constant_plain name);
  quoted = quoted_closed;
  decimal = decimal_letters;
  hexadecimal = hexadecimal_letters;
}
