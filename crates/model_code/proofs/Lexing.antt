-- The text of pieces has the words and marks of their tokens.
use Rattle.std.proofs.Common.{◌≡◌, ◌≢◌, ◌<◌, ◌*◌, ◌/◌, ◌%◌, ◌++◌, ◌&&◌, ◌||◌, ◌==◌, ◌∷◌, [], ℕ, zero, suc, Bool, true, false, not, List, replicate, All, cond, refl, ap, ◌∙◌, sym, codes, decimal, arith}
use Rattle.std.proofs.lemmas.Grind.{common_steps}
use Rattle.std.specs.Prelude.{min}
use Rattle.std.specs.Fmt.{digits, digits_onto, digit_glyph}
use Rattle.std.proofs.lemmas.Bool.{and_parts, and_from, false≢true, not-true, ne_eqb}
use Rattle.std.proofs.lemmas.List.{append_assoc, append-nil}
use Rattle.std.proofs.lemmas.List.Elements.{All-head, All-tail}
use Rattle.model_code.specs.Tokens.{Token, word, variable_name, parameter_name, part_name, number, constant_name, owner_name, field_name, function_name, list_name, label_name, no_match}
use Rattle.model_code.specs.Pieces.{CodePiece, token, space, set_in, line_end, rule_comment, log_line}
use Rattle.model_code.specs.Written.{function_body}
use Rattle.model_code.specs.Spelling.{Names, token_text, spelled, deepest}
use Rattle.model_code.specs.Parted.{Behind, nothing, a_name, a_field, an_open_mark, ends, parted}
use Rattle.model_code.specs.Lexing.{is_letter, is_just_r, is_raw, in_word, behind_mark, in_comment, lexed_from, lexed, ends_word_before, starts_apart, IsWholeText, IsWholeWord, AreWhole, pieces_lexed, TextHasTokens, OwnTokensAreWords}
use Rattle.model_code.specs.Closed.{all_letters}
use Rattle.model_code.proofs.Parted.{apart_behind, tokens_are_parted_lem}

-- 1. words
pub not_raw : (w : List ℕ) (c : ℕ) → (c == 35) ≡ false → is_raw w c ≡ false
not_raw w c e = ap (λ b. b && is_just_r w) e

pub word_stops : (w rest : List ℕ) → ends_word_before rest ≡ true → lexed_from rest (in_word w) ≡ w ∷ lexed rest
word_stops w rest h = grind (arith, common_steps, and_parts, not-true, not_raw)

pub word_ends : (w rest : List ℕ) → starts_apart rest ≡ true → lexed_from rest (in_word w) ≡ w ∷ lexed rest
word_ends w rest h = grind (arith, word_stops, and_parts)

pub letters_go_on : (ds w rest : List ℕ) → all_letters ds ≡ true → lexed_from (ds ++ rest) (in_word w) ≡ lexed_from rest (in_word (w ++ ds))
letters_go_on [] w rest h = ap (λ x. lexed_from rest (in_word x)) (sym (append-nil w))
letters_go_on (d ∷ ds) w rest h = grind (arith, common_steps, letters_go_on ds (w ++ (d ∷ [])) rest, and_parts, append_assoc)

word_read : (c : ℕ) (ds rest : List ℕ) → all_letters (c ∷ ds) ≡ true → ends_word_before rest ≡ true → lexed ((c ∷ ds) ++ rest) ≡ (c ∷ ds) ∷ lexed rest
word_read c ds rest h r = grind (arith, common_steps, and_parts, letters_go_on, word_stops)

letters_word : (ds : List ℕ) → all_letters ds ≡ true → IsWholeWord ds
letters_word [] h rest r = refl
letters_word (c ∷ ds) h rest r = word_read c ds rest h r ∙ ap (λ xs. xs ++ lexed rest) (sym (ap lexed (sym (append-nil (c ∷ ds))) ∙ word_read c ds [] h refl))

-- letters are read by themselves
pub letters_whole : (ds : List ℕ) → all_letters ds ≡ true → IsWholeText ds
letters_whole ds h = grind (arith, letters_word, and_parts)

-- a `'` begins a word
label_read : (ds rest : List ℕ) → all_letters ds ≡ true → ends_word_before rest ≡ true → lexed ((39 ∷ ds) ++ rest) ≡ (39 ∷ ds) ∷ lexed rest
label_read ds rest h r = letters_go_on ds (39 ∷ []) rest h ∙ word_stops (39 ∷ ds) rest r

label_word : (ds : List ℕ) → all_letters ds ≡ true → IsWholeWord (39 ∷ ds)
label_word ds h rest r = label_read ds rest h r ∙ ap (λ xs. xs ++ lexed rest) (sym (ap (λ x. lexed (39 ∷ x)) (sym (append-nil ds)) ∙ label_read ds [] h refl))

-- 2. numbers
digit_letter : (d : ℕ) → d < 16 → is_letter (digit_glyph false d) ≡ true
digit_letter d h = grind (arith, common_steps)

more_digits : (base : ℕ) → ((n : ℕ) → n % base < 16) → (k n : ℕ) (acc : List ℕ) → all_letters acc ≡ true → all_letters (digits_onto k base false n acc) ≡ true
more_digits base small zero n acc h = h
more_digits base small (suc k) n acc h = grind (arith, common_steps, more_digits base small k (n / base), and_from, digit_letter)

pub decimal_letters : (n : ℕ) → all_letters (decimal n) ≡ true
unfolding digits
decimal_letters n = more_digits 10 (λ m. omega arith) 64 n [] refl

pub hexadecimal_letters : (n : ℕ) → all_letters (digits 16 false n) ≡ true
unfolding digits
hexadecimal_letters n = more_digits 16 (λ m. omega arith) 64 n [] refl

-- a number begins with a digit
abbrev pub begins_letter : List ℕ → Bool
begins_letter [] = false
begins_letter (c ∷ cs) = is_letter c

either_begins : (b : Bool) (x y : List ℕ) → begins_letter x ≡ true → begins_letter y ≡ true → begins_letter (cond b x y) ≡ true
either_begins b x y h k = grind (arith, common_steps)

digits_begin : (k n : ℕ) (acc : List ℕ) → begins_letter acc ≡ true → begins_letter (digits_onto k 10 false n acc) ≡ true
digits_begin zero n acc h = h
digits_begin (suc k) n acc h = grind (arith, common_steps, digits_begin k (n / 10), digit_letter, either_begins)

decimal_begins : (n : ℕ) → begins_letter (decimal n) ≡ true
unfolding digits
decimal_begins n =
    let ds : List ℕ = digit_glyph false (n % 10) ∷ [] in
    let first : begins_letter ds ≡ true = digit_letter (n % 10) (omega arith) in
    either_begins (n / 10 == 0) ds (digits_onto 63 10 false (n / 10) ds) first (digits_begin 63 (n / 10) ds first)

-- 3. marks
-- where a mark doesn't go on
abbrev is_second : ℕ → Bool
is_second c = c == 61 || c == 62 || c == 46 || c == 58

abbrev ends_mark_before : List ℕ → Bool
ends_mark_before [] = true
ends_mark_before (c ∷ cs) = not (is_second c)

mark_stops : (m : ℕ) (rest : List ℕ) → ends_mark_before rest ≡ true → lexed_from rest (behind_mark m) ≡ (m ∷ []) ∷ lexed rest
mark_stops m rest h = grind (arith, common_steps, not-true)

-- 4. tokens
abbrev goes_apart : Behind → List ℕ → Bool
goes_apart nothing rest = true
goes_apart a_name rest = starts_apart rest
goes_apart a_field rest = ends_word_before rest
goes_apart an_open_mark rest = ends_mark_before rest

abbrev IsToken : Behind → List ℕ → Type 0
IsToken behind text = (rest : List ℕ) → goes_apart behind rest ≡ true → lexed (text ++ rest) ≡ lexed text ++ lexed rest

-- 5. what may stand behind a token
pub letters_before : (x y : List ℕ) → all_letters x ≡ true → all_letters y ≡ true → all_letters (x ++ y) ≡ true
letters_before [] y h k = k
letters_before (c ∷ x) y h k = let hs = and_parts (is_letter c) (all_letters x) h in and_from (is_letter c) (all_letters (x ++ y)) hs.0 (letters_before x y hs.1 k)

module _ (names : Names) (whole : AreWhole names) where
  token_read : (t : Token) → IsToken (ends t) (token_text names t)
  token_read (word w) = grind (arith, letters_whole, mark_stops)
  token_read (variable_name v) = letters_whole (codes "v" ++ decimal v) (letters_before (codes "v") (decimal v) refl (decimal_letters v))
  token_read (parameter_name i) = letters_whole (codes "arg" ++ decimal i) (letters_before (codes "arg") (decimal i) refl (decimal_letters i))
  token_read (part_name i) = grind (arith, common_steps, letters_whole, append-nil, mark_stops, decimal_begins i, decimal_letters i)
  token_read (number z ending) = whole.number z ending
  token_read (constant_name name) = whole.constant name
  token_read (owner_name o) = whole.owner o
  token_read (field_name o i) = whole.field o i
  token_read (function_name f) = whole.function f
  token_read (list_name l) = whole.list l
  token_read (label_name n) = label_word (codes "at" ++ decimal n) (letters_before (codes "at") (decimal n) refl (decimal_letters n))
  token_read no_match = whole.panic

  -- 5. white space and comments
  white_skipped : (k : ℕ) (rest : List ℕ) → lexed (replicate k 32 ++ rest) ≡ lexed rest
  white_skipped zero rest = refl
  white_skipped (suc k) rest = white_skipped k rest

  white_apart : (behind : Behind) (k : ℕ) (rest : List ℕ) → goes_apart behind rest ≡ true → goes_apart behind (replicate k 32 ++ rest) ≡ true
  white_apart behind zero rest h = h
  white_apart behind (suc k) rest h = grind arith

  abbrev OnLine : ℕ → Type 0
  OnLine c = c ≢ 10

  comment_skipped : (text rest : List ℕ) → All OnLine text → lexed_from (text ++ (10 ∷ rest)) in_comment ≡ lexed rest
  comment_skipped [] rest h = refl
  comment_skipped (c ∷ text) rest h = grind (arith, common_steps, comment_skipped text rest (All-tail OnLine c text h), ne_eqb c 10 (All-head OnLine c text h))

  -- 6. a text that may stand behind another
  text_apart : (behind : Behind) (ps : List CodePiece) → parted behind ps ≡ true → goes_apart behind (spelled names ps) ≡ true
  text_apart behind (set_in depth ∷ rest) h = white_apart behind (4 * min depth deepest) (spelled names rest) (text_apart behind rest h)
  text_apart behind ps h = grind (arith, common_steps, and_parts)

  -- 7. all of it
  pieces_read : (ps : List CodePiece) → parted nothing ps ≡ true → lexed (spelled names ps) ≡ pieces_lexed names ps
  pieces_read (token t ∷ rest) h =
      token_read t (spelled names rest) (text_apart (ends t) rest h) ∙ ap (λ xs. lexed (token_text names t) ++ xs) (pieces_read rest (apart_behind (ends t) rest h))
  pieces_read (space ∷ rest) h = pieces_read rest h
  pieces_read (set_in depth ∷ rest) h = white_skipped (4 * min depth deepest) (spelled names rest) ∙ pieces_read rest h
  pieces_read (line_end ∷ rest) h = pieces_read rest h
  pieces_read (rule_comment at ∷ (line_end ∷ rest)) h =
      comment_skipped (names.place at ++ codes ".") (spelled names rest) (grind (arith, common_steps)) ∙ pieces_read rest h
  pieces_read (log_line at ∷ rest) h =
      whole.log at (spelled names rest) (text_apart a_name rest h) ∙ ap (λ xs. lexed (names.log at) ++ xs) (pieces_read rest (apart_behind a_name rest h))
  pieces_read ps h = grind arith

pub text_has_tokens_lem : TextHasTokens
text_has_tokens_lem names p code whole = pieces_read names whole (function_body p code) (tokens_are_parted_lem p code)

-- 8. the code's own tokens
pub one_word : (ds : List ℕ) → begins_letter ds ≡ true → all_letters ds ≡ true → lexed ds ≡ ds ∷ []
one_word [] b h = absurd (false≢true b)
one_word (c ∷ ds) b h = ap lexed (sym (append-nil (c ∷ ds))) ∙ word_read c ds [] h refl

one_label : (ds : List ℕ) → all_letters ds ≡ true → lexed (39 ∷ ds) ≡ (39 ∷ ds) ∷ []
one_label ds h = ap (λ x. lexed (39 ∷ x)) (sym (append-nil ds)) ∙ label_read ds [] h refl

dot_and_word : (ds : List ℕ) → begins_letter ds ≡ true → all_letters ds ≡ true → lexed (46 ∷ ds) ≡ (46 ∷ []) ∷ (ds ∷ [])
dot_and_word ds b h = grind (arith, append-nil, one_word, mark_stops)

pub own_tokens_are_words_lem : OwnTokensAreWords
own_tokens_are_words_lem = record {
  words = grind arith;
  variables = λ names v. one_word (codes "v" ++ decimal v) refl (letters_before (codes "v") (decimal v) refl (decimal_letters v));
  parameters = λ names i. one_word (codes "arg" ++ decimal i) refl (letters_before (codes "arg") (decimal i) refl (decimal_letters i));
  parts = λ names i. dot_and_word (decimal i) (decimal_begins i) (decimal_letters i);
  labels = λ names n. one_label (codes "at" ++ decimal n) (letters_before (codes "at") (decimal n) refl (decimal_letters n));
}
