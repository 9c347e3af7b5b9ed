-- Names as they are written: what they are like, and which differ.
use Rattle.std.proofs.Common.{◌≡◌, ◌≢◌, ◌<◌, ℕ, Bool, true, false, true≢false, cond, ◌&&◌, ◌||◌, List, [], ◌∷◌, ◌++◌, get_or, map, refl, sym, ap, subst, ◌∙◌, arith, codes, inl, inr, encode_utf8_all, IsUtf8}
use Rattle.std.specs.Prelude.{◌==◌, nat_lt, not}
use Rattle.std.specs.Char.{is_ascii_digit, is_ascii_alphanumeric}
use Rattle.std.specs.List.{list_all}
use Rattle.std.specs.Str.{bytes_eq, chars, IsAscii}
use Rattle.std.proofs.lemmas.Bool.{false≢true, eqb-true, ltb-true}
use Rattle.std.proofs.lemmas.Bool.Decides.{nat_tests}
use Rattle.std.proofs.lemmas.List.{append-nil}
use Rattle.std.proofs.lemmas.Str.{byte_from_char, chars-IsAscii, chars-nil, chars_past_char, encode_ascii, encodes-chars, encodes-IsAscii}
use Rattle.std.proofs.lemmas.Str.Ascii.{IsAscii-nil, IsAscii-cons}
use Rattle.model.proofs.Bytes.{same_bytes}
use Rattle.model_code.proofs.CodeRunning.{left_of, right_of}
use Rattle.rust_items.specs.NameLaws.{IdentifiersStayApart, IsIdentifier, is_plain}
use Rattle.rust_items.specs.RustNames.{end_mark, is_among, is_blank, is_identifier, is_word, needs_front, part, path_keywords, raw_keywords, raw_mark, spelled, word_for}

-- an identifier's characters are its own
word_same : (c : ℕ) → is_word c ≡ true → word_for c ≡ c
word_same c h = elim (is_ascii_alphanumeric c) as (λ b. (b || (c == 95)) ≡ true → cond b c 95 ≡ c) [ true ↦ λ k. refl | false ↦ λ k. sym (eqb-true c 95 k) ] h

word_small : (c : ℕ) → is_word c ≡ true → c < 128
word_small c h = grind (arith, nat_tests)

not_true : (a : Bool) → not a ≡ true → a ≡ false
not_true true h = absurd (false≢true h)
not_true false h = refl

letter_small : (c : ℕ) → is_ascii_alphanumeric c ≡ true → c < 128
letter_small c h = grind (arith, nat_tests)

words_ascii : (cs : List ℕ) → list_all is_word cs ≡ true → IsAscii cs
words_ascii [] h = IsAscii-nil
words_ascii (c ∷ cs) h = IsAscii-cons c cs (word_small c (left_of (is_word c) _ h)) (words_ascii cs (right_of (is_word c) _ h))

words_same : (cs : List ℕ) → list_all is_word cs ≡ true → map word_for cs ≡ cs
words_same [] h = refl
words_same (c ∷ cs) h =
    ap (λ d. d ∷ map word_for cs) (word_same c (left_of (is_word c) _ h)) ∙ ap (λ ds. c ∷ ds) (words_same cs (right_of (is_word c) _ h))

not_false : (a : Bool) → not a ≡ false → a ≡ true
not_false true h = refl
not_false false h = absurd (true≢false h)

-- what an identifier is
record Identified (name : List ℕ) : Type 0 where
  begins : needs_front name ≡ false
  longer : bytes_eq name (codes "_") ≡ false
  words : list_all is_word name ≡ true

identified : (name : List ℕ) → is_identifier name ≡ true → Identified name
identified name h =
    let both = left_of (not (needs_front name) && not (bytes_eq name (codes "_"))) _ h in
    record {
      begins = not_true _ (left_of (not (needs_front name)) _ both);
      longer = not_true _ (right_of (not (needs_front name)) _ both);
      words = right_of (not (needs_front name) && not (bytes_eq name (codes "_"))) _ h;
    }

-- an identifier is its own part
part_same : (name : List ℕ) → Identified name → part name ≡ name
part_same name h =
    ap (λ b. cond b (codes "_") [] ++ map word_for (chars name)) h.begins
    ∙ ap (map word_for) (chars-IsAscii name (words_ascii name h.words)) ∙ words_same name h.words

parts_apart : (a b : List ℕ) → is_identifier a ≡ true → is_identifier b ≡ true → part a ≡ part b → a ≡ b
parts_apart a b h k e = sym (part_same a (identified a h)) ∙ e ∙ part_same b (identified b k)

letter : (c : ℕ) → is_word c ≡ true → (c == 95) ≡ false → is_ascii_alphanumeric c ≡ true
letter c h k = elim (is_ascii_alphanumeric c) as (λ b. (b || (c == 95)) ≡ true → b ≡ true) [ true ↦ λ e. refl | false ↦ λ e. absurd (true≢false (sym e ∙ k)) ] h

one_letter : (c : ℕ) (cs : List ℕ) → Identified (c ∷ cs) → is_blank (c ∷ cs) ≡ false
one_letter c [] h =
    elim (c == 95) as (λ b. (c == 95) ≡ b → (b && true) ≡ false → not (is_ascii_alphanumeric c) ≡ false) [
      | true ↦ λ e f. absurd (true≢false f)
      | false ↦ λ e f. ap not (letter c (left_of (is_word c) _ h.words) e)
    ] refl h.longer
one_letter c (d ∷ ds) h = refl

not_blank : (name : List ℕ) → Identified name → is_blank (chars name) ≡ false
not_blank [] h = absurd (true≢false h.begins)
not_blank (c ∷ cs) h = ap is_blank (chars-IsAscii (c ∷ cs) (words_ascii (c ∷ cs) h.words)) ∙ one_letter c cs h

no_end : (name : List ℕ) → Identified name → is_among path_keywords name ≡ false → end_mark name ≡ []
no_end name h k =
    ap (λ b. cond (b || is_blank (chars name)) (codes "_") []) k ∙ ap (λ b. cond b (codes "_") []) (not_blank name h)

-- it is written as it is, behind its mark
spelled_same : (name : List ℕ) → Identified name → is_among path_keywords name ≡ false → spelled name ≡ raw_mark name ++ name
spelled_same name h k =
    ap (λ x. raw_mark name ++ x ++ end_mark name) (part_same name h) ∙ ap (λ x. raw_mark name ++ name ++ x) (no_end name h k) ∙ append-nil (raw_mark name ++ name)

-- no identifier has a `#`
no_hash : (a b : List ℕ) → list_all is_word b ≡ true → codes "r#" ++ a ≢ b
no_hash a [] h e = absurd (cc)
no_hash a (c ∷ []) h e = absurd (cc)
no_hash a (c ∷ (d ∷ ds)) h e =
    let hash : 35 ≡ d = ap (λ x. get_or x 1 0) e in
    let word : is_word d ≡ true = left_of (is_word d) _ (right_of (is_word c) _ h) in
    false≢true (subst (λ x. is_word x ≡ true) (sym hash) word)

behind_marks : (p q : Bool) (a b : List ℕ) → list_all is_word a ≡ true → list_all is_word b ≡ true → cond p (codes "r#") [] ++ a ≡ cond q (codes "r#") [] ++ b → a ≡ b
behind_marks true true a b h k e = cc
behind_marks true false a b h k e = absurd (no_hash a b k e)
behind_marks false true a b h k e = absurd (no_hash b a h (sym e))
behind_marks false false a b h k e = e

names_apart : (a b : List ℕ) → is_identifier a ≡ true → is_identifier b ≡ true → is_among path_keywords a ≡ false → is_among path_keywords b ≡ false → spelled a ≡ spelled b → a ≡ b
names_apart a b h k p q e =
    let i = identified a h in let j = identified b k in
    behind_marks (is_among raw_keywords a) (is_among raw_keywords b) a b i.words j.words (sym (spelled_same a i p) ∙ e ∙ spelled_same b j q)

pub identifiers_stay_apart_lem : IdentifiersStayApart
identifiers_stay_apart_lem = record { parts = parts_apart; names = names_apart }

-- ---- every name

all_three : (a b c : Bool) → a ≡ true → b ≡ false → c ≡ false → (a && not b && not c) ≡ true
all_three a b c h k l = ap (λ x. x && not b && not c) h ∙ ap (λ x. not x && not c) k ∙ ap not l

none_and_all : (a b c : Bool) → a ≡ false → b ≡ false → c ≡ true → (not a && not b && c) ≡ true
none_and_all a b c h k l = ap (λ x. not x && not b && c) h ∙ ap (λ x. not x && c) k ∙ l

digit_small : (c : ℕ) → is_ascii_digit c ≡ true → c < 128
digit_small c h = grind (arith, nat_tests)

great_no_digit : (b : ℕ) → nat_lt b 128 ≡ false → is_ascii_digit b ≡ false
great_no_digit b h = grind (arith, nat_tests)

-- a word among words has what all of them have
among_all : (words : List (List ℕ)) (test : List ℕ → Bool) (name : List ℕ) → list_all test words ≡ true → is_among words name ≡ true → test name ≡ true
among_all [] test name h k = absurd (false≢true k)
among_all (w ∷ ws) test name h k =
    elim (bytes_eq w name) as (λ b. bytes_eq w name ≡ b → (b || is_among ws name) ≡ true → test name ≡ true) [
      | true ↦ λ e f. subst (λ x. test x ≡ true) (same_bytes w name e) (left_of (test w) _ h)
      | false ↦ λ e f. among_all ws test name (right_of (test w) _ h) f
    ] refl k

raw_marked : list_all (λ k. bytes_eq (spelled k) (codes "r#" ++ k)) raw_keywords ≡ true
unfolding chars
raw_marked = refl

path_plain : list_all (λ k. is_plain (spelled k)) path_keywords ≡ true
unfolding chars
path_plain = refl

raw_letters : list_all (λ k. list_all is_ascii_alphanumeric k) raw_keywords ≡ true
raw_letters = refl

path_letters : list_all (λ k. list_all is_ascii_alphanumeric k) path_keywords ≡ true
path_letters = refl

letter_back : (c : ℕ) → is_ascii_alphanumeric (word_for c) ≡ true → word_for c ≡ c
letter_back c h = elim (is_ascii_alphanumeric c) as (λ b. is_ascii_alphanumeric (cond b c 95) ≡ true → cond b c 95 ≡ c) [ true ↦ λ k. refl | false ↦ λ k. absurd (false≢true k) ] h

letters_back : (cs : List ℕ) → list_all is_ascii_alphanumeric (map word_for cs) ≡ true → map word_for cs ≡ cs
letters_back [] h = refl
letters_back (c ∷ cs) h =
    ap (λ d. d ∷ map word_for cs) (letter_back c (left_of (is_ascii_alphanumeric (word_for c)) _ h))
    ∙ ap (λ ds. c ∷ ds) (letters_back cs (right_of (is_ascii_alphanumeric (word_for c)) _ h))

letters_ascii : (cs : List ℕ) → list_all is_ascii_alphanumeric cs ≡ true → IsAscii cs
letters_ascii [] h = IsAscii-nil
letters_ascii (c ∷ cs) h =
    IsAscii-cons c cs (letter_small c (left_of (is_ascii_alphanumeric c) _ h)) (letters_ascii cs (right_of (is_ascii_alphanumeric c) _ h))

-- a part that has only letters and digits is the name
part_letters : (name : List ℕ) → IsUtf8 name → list_all is_ascii_alphanumeric (part name) ≡ true → part name ≡ name
part_letters name u h =
    elim (needs_front name) as (λ b. list_all is_ascii_alphanumeric (cond b (codes "_") [] ++ map word_for (chars name)) ≡ true → cond b (codes "_") [] ++ map word_for (chars name) ≡ name) [
      | true ↦ λ k. absurd (false≢true k)
      | false ↦ λ k.
          let same = letters_back (chars name) k in
          let ascii : IsAscii (chars name) = letters_ascii (chars name) (ap (list_all is_ascii_alphanumeric) (sym same) ∙ k) in
          same ∙ sym (encodes-IsAscii (chars name) ascii) ∙ encodes-chars name u
    ] h

-- so no part is a keyword but that keyword's
part_among : (words : List (List ℕ)) (name : List ℕ) → IsUtf8 name → list_all (λ k. list_all is_ascii_alphanumeric k) words ≡ true → is_among words name ≡ false → is_among words (part name) ≡ false
part_among words name u letters other =
    elim (is_among words (part name)) as (λ b. is_among words (part name) ≡ b → b ≡ false) [
      | true ↦ λ e.
          let same : part name ≡ name = part_letters name u (among_all words (list_all is_ascii_alphanumeric) (part name) letters e) in
          absurd (true≢false (sym e ∙ ap (is_among words) same ∙ other))
      | false ↦ λ e. refl
    ] refl

word_of : (c : ℕ) → is_word (word_for c) ≡ true
word_of c = elim (is_ascii_alphanumeric c) as (λ b. is_ascii_alphanumeric c ≡ b → is_word (cond b c 95) ≡ true) [ true ↦ λ e. ap (λ t. t || (c == 95)) e | false ↦ λ e. refl ] refl

words_of : (cs : List ℕ) → list_all is_word (map word_for cs) ≡ true
words_of [] = refl
words_of (c ∷ cs) = ap (λ b. b && list_all is_word (map word_for cs)) (word_of c) ∙ words_of cs

no_digit : (c : ℕ) → is_ascii_alphanumeric c ≡ false → is_ascii_digit c ≡ false
no_digit c h = grind (arith, nat_tests)

low_for : (c : ℕ) → is_ascii_alphanumeric c ≡ false → word_for c ≡ 95
low_for c h = ap (λ b. cond b c 95) h

no_low : (c : ℕ) → is_ascii_alphanumeric c ≡ true → (c == 95) ≡ false
no_low c h = grind (arith, nat_tests)

other_word : (c : ℕ) → is_ascii_alphanumeric c ≡ true → (word_for c == 95) ≡ false
other_word c h = ap (λ b. cond b c 95 == 95) h ∙ no_low c h

still_no_digit : (c : ℕ) → is_ascii_digit c ≡ false → is_ascii_digit (word_for c) ≡ false
still_no_digit c h = elim (is_ascii_alphanumeric c) as (λ b. is_ascii_digit (cond b c 95) ≡ false) [ true ↦ h | false ↦ refl ]

-- a part by the name's characters
abbrev part_of : List ℕ → List ℕ
part_of cs = cond (needs_front cs) (codes "_") [] ++ map word_for cs

part_blank : (cs : List ℕ) → is_blank cs ≡ true → part_of cs ≡ codes "_"
part_blank [] h = refl
part_blank (c ∷ []) h = let other = not_true (is_ascii_alphanumeric c) h in ap (λ b. cond b (codes "_") [] ++ word_for c ∷ []) (no_digit c other) ∙ ap (λ w. w ∷ []) (low_for c other)
part_blank (c ∷ (d ∷ ds)) h = absurd (false≢true h)

longer_than_low : (c : ℕ) (cs : List ℕ) → is_blank (c ∷ cs) ≡ false → bytes_eq (map word_for (c ∷ cs)) (codes "_") ≡ false
longer_than_low c [] h = ap (λ b. b && true) (other_word c (not_false (is_ascii_alphanumeric c) h))
longer_than_low c (d ∷ ds) h = elim (word_for c == 95) as (λ b. (b && false) ≡ false) [ true ↦ refl | false ↦ refl ]

part_identified : (cs : List ℕ) → is_blank cs ≡ false → is_identifier (part_of cs) ≡ true
part_identified [] h = absurd (true≢false h)
part_identified (c ∷ cs) h =
    elim (is_ascii_digit c) as (λ b. is_ascii_digit c ≡ b → is_identifier (cond b (codes "_") [] ++ map word_for (c ∷ cs)) ≡ true) [
      | true ↦ λ e. words_of (c ∷ cs)
      | false ↦ λ e. none_and_all _ _ _ (still_no_digit c e) (longer_than_low c cs h) (words_of (c ∷ cs))
    ] refl

-- a text begins with a digit as its characters do
front_by_chars : (name : List ℕ) → IsUtf8 name → needs_front name ≡ needs_front (chars name)
front_by_chars [] u = ap needs_front (sym chars-nil)
front_by_chars (b ∷ bs) u =
    elim (nat_lt b 128) as (λ t. nat_lt b 128 ≡ t → needs_front (b ∷ bs) ≡ needs_front (chars (b ∷ bs))) [
      | true ↦ λ e. ap needs_front (sym (chars_past_char (b ∷ bs) bs b u (ap (λ x. x ++ bs) (sym (encode_ascii b (ltb-true b 128 e))))))
      | false ↦ λ e. no_front b bs (chars (b ∷ bs)) e (encodes-chars (b ∷ bs) u)
    ] refl
  where
    no_front : (b : ℕ) (bs cs : List ℕ) → nat_lt b 128 ≡ false → encode_utf8_all cs ≡ b ∷ bs → is_ascii_digit b ≡ needs_front cs
    no_front b bs [] h e = absurd (cc)
    no_front b bs (c ∷ cs) h e =
        elim (is_ascii_digit c) as (λ d. is_ascii_digit c ≡ d → is_ascii_digit b ≡ d) [
          | true ↦ λ k.
              let small : c < 128 = digit_small c k in
              let same : b ≡ c = byte_from_char (b ∷ bs) (encode_utf8_all cs) c (sym e) small in
              ap is_ascii_digit same ∙ k
          | false ↦ λ k. great_no_digit b h
        ] refl

part_by_chars : (name : List ℕ) → IsUtf8 name → part name ≡ part_of (chars name)
part_by_chars name u = ap (λ b. cond b (codes "_") [] ++ map word_for (chars name)) (front_by_chars name u)

blank_text : (name : List ℕ) → IsUtf8 name → is_blank (chars name) ≡ true → part name ++ codes "_" ≡ codes "__"
blank_text name u h = ap (λ x. x ++ codes "_") (part_by_chars name u ∙ part_blank (chars name) h)

-- a name that is no keyword
plain_name : (name : List ℕ) → IsUtf8 name → is_among raw_keywords name ≡ false → is_among path_keywords name ≡ false → is_plain (part name ++ cond (is_blank (chars name)) (codes "_") []) ≡ true
plain_name name u r p =
    elim (is_blank (chars name)) as (λ b. is_blank (chars name) ≡ b → is_plain (part name ++ cond b (codes "_") []) ≡ true) [
      | true ↦ λ e. ap is_plain (blank_text name u e)
      | false ↦ λ e. ap is_plain (append-nil (part name)) ∙ plain_part name u e r p
    ] refl
  where
    plain_part : (name : List ℕ) → IsUtf8 name → is_blank (chars name) ≡ false → is_among raw_keywords name ≡ false → is_among path_keywords name ≡ false → is_plain (part name) ≡ true
    plain_part name u b r p =
        let i : is_identifier (part name) ≡ true = ap is_identifier (part_by_chars name u) ∙ part_identified (chars name) b in
        all_three _ _ _ i (part_among raw_keywords name u raw_letters r) (part_among path_keywords name u path_letters p)

pub names_are_identifiers_lem : (name : List ℕ) → IsUtf8 name → IsIdentifier (spelled name)
names_are_identifiers_lem name u =
    elim (is_among raw_keywords name) as (λ b. is_among raw_keywords name ≡ b → IsIdentifier (spelled name)) [
      | true ↦ λ r. inr (name, r, same_bytes (spelled name) (codes "r#" ++ name) (among_all raw_keywords (λ k. bytes_eq (spelled k) (codes "r#" ++ k)) name raw_marked r))
      | false ↦ λ r. elim (is_among path_keywords name) as (λ b. is_among path_keywords name ≡ b → IsIdentifier (spelled name)) [
        | true ↦ λ p. inl (among_all path_keywords (λ k. is_plain (spelled k)) name path_plain p)
        | false ↦ λ p. inl (ap is_plain (unmarked name r p) ∙ plain_name name u r p)
      ] refl
    ] refl
  where
    unmarked : (name : List ℕ) → is_among raw_keywords name ≡ false → is_among path_keywords name ≡ false → spelled name ≡ part name ++ cond (is_blank (chars name)) (codes "_") []
    unmarked name r p =
        ap (λ b. cond b (codes "r#") [] ++ part name ++ end_mark name) r ∙ ap (λ b. part name ++ cond (b || is_blank (chars name)) (codes "_") []) p

-- ---- parts tell names as they are written

raw_same : list_all (λ k. bytes_eq (part k) k) raw_keywords ≡ true
unfolding chars
raw_same = refl

path_same : list_all (λ k. bytes_eq (part k) k) path_keywords ≡ true
unfolding chars
path_same = refl

-- a part is a keyword exactly if the name is
among_part : (words : List (List ℕ)) (name : List ℕ) → IsUtf8 name → list_all (λ k. list_all is_ascii_alphanumeric k) words ≡ true → list_all (λ k. bytes_eq (part k) k) words ≡ true → is_among words name ≡ is_among words (part name)
among_part words name u letters same =
    elim (is_among words name) as (λ b. is_among words name ≡ b → b ≡ is_among words (part name)) [
      | true ↦ λ e. sym (ap (is_among words) (same_bytes (part name) name (among_all words (λ k. bytes_eq (part k) k) name same e)) ∙ e)
      | false ↦ λ e. sym (part_among words name u letters e)
    ] refl

blank_part : (name : List ℕ) → IsUtf8 name → is_blank (chars name) ≡ bytes_eq (part name) (codes "_")
blank_part name u =
    elim (is_blank (chars name)) as (λ b. is_blank (chars name) ≡ b → b ≡ bytes_eq (part name) (codes "_")) [
      | true ↦ λ e. sym (ap (λ x. bytes_eq x (codes "_")) (part_by_chars name u ∙ part_blank (chars name) e))
      | false ↦ λ e. sym (identified (part name) (ap is_identifier (part_by_chars name u) ∙ part_identified (chars name) e)).longer
    ] refl

-- names with one part are written as one
pub parts_spell : (a b : List ℕ) → IsUtf8 a → IsUtf8 b → part a ≡ part b → spelled a ≡ spelled b
parts_spell a b u v e =
    let raw : is_among raw_keywords a ≡ is_among raw_keywords b = among_part raw_keywords a u raw_letters raw_same ∙ ap (is_among raw_keywords) e ∙ sym (among_part raw_keywords b v raw_letters raw_same) in
    let path : is_among path_keywords a ≡ is_among path_keywords b = among_part path_keywords a u path_letters path_same ∙ ap (is_among path_keywords) e ∙ sym (among_part path_keywords b v path_letters path_same) in
    let blank : is_blank (chars a) ≡ is_blank (chars b) = blank_part a u ∙ ap (λ x. bytes_eq x (codes "_")) e ∙ sym (blank_part b v) in
    ap (λ t. cond t (codes "r#") [] ++ part a ++ end_mark a) raw
    ∙ ap (λ x. raw_mark b ++ x ++ end_mark a) e
    ∙ ap (λ t. raw_mark b ++ part b ++ cond (t || is_blank (chars a)) (codes "_") []) path
    ∙ ap (λ t. raw_mark b ++ part b ++ cond (is_among path_keywords b || t) (codes "_") []) blank
