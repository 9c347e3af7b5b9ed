-- Closed texts are read by themselves.
use Rattle.std.proofs.Common.{◌≡◌, ◌&&◌, ◌||◌, ◌++◌, ◌==◌, ◌∷◌, [], ℕ, Bool, true, false, not, List, if◌then◌else◌, refl, ap, ◌∙◌, sym, arith}
use Rattle.std.proofs.lemmas.Bool.{and_parts, and_from, false≢true, not-true}
use Rattle.std.proofs.lemmas.Grind.{common_steps}
use Rattle.model_code.specs.Lexing.{is_letter, is_raw, joins, State, between, in_word, behind_mark, in_quotes, behind_backslash, begun, word_goes_on, mark_goes_on, escapes, lexed_from, lexed, ends_word_before, starts_apart, IsWholeText, IsWholeWord}
use Rattle.model_code.specs.Closed.{is_closed, quotes_close, escape_closes, stays_quoted, escape_stays, in_quotation, all_letters, all_plain, all_named, ClosedTexts, ClosedNamesAreWhole}
use Rattle.model_code.proofs.Lexing.{word_ends, word_stops}

-- 1. a closed text, then another one that no word goes on in
-- what no mark but `.` goes on with
abbrev no_dot : ℕ → Bool
no_dot c = not (c == 46)

module _ (rest : List ℕ) (apart : starts_apart rest ≡ true) where
  abbrev Reads : List ℕ → State → Type 0
  Reads text s = lexed_from (text ++ rest) s ≡ lexed_from text s ++ lexed rest

  -- what is read of a closed text, whatever is begun
  record AreRead (cs : List ℕ) : Type 0 where
    pub outside : is_closed cs ≡ true → Reads cs between
    pub word : (w : List ℕ) → is_closed cs ≡ true → Reads cs (in_word w)
    pub mark : (m : ℕ) → no_dot m ≡ true → is_closed cs ≡ true → Reads cs (behind_mark m)
    pub quotes : (q : List ℕ) → quotes_close cs ≡ true → Reads cs (in_quotes q)
    pub escape : (q : List ℕ) → escape_closes cs ≡ true → Reads cs (behind_backslash q)

  abbrev Closes : Bool → ℕ → List ℕ → Type 0
  Closes b c cs = (if b then quotes_close cs else (not (c == 47) && not (c == 46)) && is_closed cs) ≡ true

  begun_at : (c : ℕ) (cs : List ℕ) (b : Bool) → (c == 34) ≡ b → Closes b c cs → AreRead cs → begun c (lexed_from (cs ++ rest)) ≡ begun c (lexed_from cs) ++ lexed rest
  begun_at c cs b e h r = grind (arith, common_steps, and_parts, not-true)

  -- a word goes on with no quotes
  word_at : (b : Bool) (c : ℕ) (cs w : List ℕ) → begun c (lexed_from (cs ++ rest)) ≡ begun c (lexed_from cs) ++ lexed rest → (b ≡ true → Reads cs (in_word (w ++ (c ∷ []))))
      → word_goes_on b w c (lexed_from (cs ++ rest)) ≡ word_goes_on b w c (lexed_from cs) ++ lexed rest
  word_at b c cs w begins on = grind (arith, common_steps)

  no_quote : (w : List ℕ) (c : ℕ) → (is_letter c || is_raw w c) ≡ true → (c == 34) ≡ false
  no_quote w c h = grind (arith, common_steps)

  closed_behind : (c : ℕ) (cs : List ℕ) → (c == 34) ≡ false → is_closed (c ∷ cs) ≡ true → is_closed cs ≡ true
  closed_behind c cs e h = (and_parts (not (c == 47) && not (c == 46)) (is_closed cs) (sym (ap (λ b. if b then quotes_close cs else (not (c == 47) && not (c == 46)) && is_closed cs) e) ∙ h)).1

  mark_at : (b : Bool) (m c : ℕ) (cs : List ℕ) → begun c (lexed_from (cs ++ rest)) ≡ begun c (lexed_from cs) ++ lexed rest → (b ≡ true → Reads cs between)
      → mark_goes_on b m c (lexed_from (cs ++ rest)) ≡ mark_goes_on b m c (lexed_from cs) ++ lexed rest
  mark_at b m c cs begins on = grind (arith, common_steps)

  joins_no_quote : (m c : ℕ) → joins m c ≡ true → (c == 34) ≡ false
  joins_no_quote m c h = grind (arith, common_steps)

  quotes_at : (cs q : List ℕ) (escape ends : Bool) → (if escape then escape_closes cs else if ends then is_closed cs else quotes_close cs) ≡ true → AreRead cs
      → escapes escape ends q (lexed_from (cs ++ rest)) ≡ escapes escape ends q (lexed_from cs) ++ lexed rest
  quotes_at cs q escape ends h r = grind (arith, common_steps)

  closed_read : (text : List ℕ) → AreRead text
  closed_read [] = grind (arith, common_steps, word_ends)
  closed_read (c ∷ cs) =
      let r : AreRead cs = closed_read cs in
      record {
        outside = λ h. begun_at c cs (c == 34) refl h r;
        word = λ w h. word_at (is_letter c || is_raw w c) c cs w (begun_at c cs (c == 34) refl h r) (λ b. r.word (w ++ (c ∷ [])) (closed_behind c cs (no_quote w c b) h));
        mark = λ m d h. mark_at (joins m c) m c cs (begun_at c cs (c == 34) refl h r) (λ b. r.outside (closed_behind c cs (joins_no_quote m c b) h));
        quotes = λ q h. quotes_at cs (q ++ (c ∷ [])) (c == 92) (c == 34) h r;
        escape = λ q h. r.quotes (q ++ (c ∷ [])) h;
      }

pub closed_whole : (text : List ℕ) → is_closed text ≡ true → IsWholeText text
closed_whole text h rest r = (closed_read rest r text).outside h

-- 2. one behind another
unless_first : (a : Bool) {x y : Bool} → (a && x) ≡ true → (x ≡ true → y ≡ true) → (a && y) ≡ true
unless_first a h f = grind (arith, common_steps)

mutual
  pub closed_together : (x y : List ℕ) → is_closed x ≡ true → is_closed y ≡ true → is_closed (x ++ y) ≡ true
  closed_together [] y h k = k
  closed_together (c ∷ cs) y h k = grind (arith, quotes_together cs y, closed_together cs y, unless_first)

  quotes_together : (x y : List ℕ) → quotes_close x ≡ true → is_closed y ≡ true → quotes_close (x ++ y) ≡ true
  quotes_together [] y h k = absurd (false≢true h)
  quotes_together (c ∷ cs) y h k = grind (arith, escape_together cs y, closed_together cs y, quotes_together cs y)

  escape_together : (x y : List ℕ) → escape_closes x ≡ true → is_closed y ≡ true → escape_closes (x ++ y) ≡ true
  escape_together [] y h k = absurd (false≢true h)
  escape_together (c ∷ cs) y h k = quotes_together cs y h k

-- 3. texts without quotes, slashes and dots
pub closed_plain : (text : List ℕ) → all_plain text ≡ true → is_closed text ≡ true
closed_plain [] h = refl
closed_plain (c ∷ cs) h = grind (arith, common_steps, closed_plain cs, and_parts, not-true, and_from)

pub letters_plain : (text : List ℕ) → all_letters text ≡ true → all_plain text ≡ true
letters_plain [] h = refl
letters_plain (c ∷ cs) h = grind (arith, letters_plain cs, and_parts, and_from)

pub closed_letters : (text : List ℕ) → all_letters text ≡ true → is_closed text ≡ true
closed_letters text h = closed_plain text (letters_plain text h)

-- 4. texts within quotes
unquoted : (q y : Bool) {x z : Bool} → (not q && x) ≡ true → (x ≡ true → z ≡ true) → (if q then y else z) ≡ true
unquoted q y h f = grind (arith, common_steps)

mutual
  quotes_left : (text rest : List ℕ) → stays_quoted text ≡ true → quotes_close rest ≡ true → quotes_close (text ++ rest) ≡ true
  quotes_left [] rest h k = k
  quotes_left (c ∷ cs) rest h k = grind (arith, escape_left cs rest, quotes_left cs rest, unquoted)

  escape_left : (text rest : List ℕ) → escape_stays text ≡ true → quotes_close rest ≡ true → escape_closes (text ++ rest) ≡ true
  escape_left [] rest h k = absurd (false≢true h)
  escape_left (c ∷ cs) rest h k = quotes_left cs rest h k

pub closed_quoted : (text : List ℕ) → stays_quoted text ≡ true → is_closed (in_quotation text) ≡ true
closed_quoted text h = quotes_left text (34 ∷ []) h refl

mutual
  pub stays_together : (x y : List ℕ) → stays_quoted x ≡ true → stays_quoted y ≡ true → stays_quoted (x ++ y) ≡ true
  stays_together [] y h k = k
  stays_together (c ∷ cs) y h k = grind (arith, escape_stays_together cs y, stays_together cs y, unless_first)

  escape_stays_together : (x y : List ℕ) → escape_stays x ≡ true → stays_quoted y ≡ true → escape_stays (x ++ y) ≡ true
  escape_stays_together [] y h k = absurd (false≢true h)
  escape_stays_together (c ∷ cs) y h k = stays_together cs y h k

-- 5. identifiers, also behind `r#`, before whatever no word goes on with
module _ (rest : List ℕ) (apart : ends_word_before rest ≡ true) where
  named_at : (b : Bool) (c : ℕ) (cs w : List ℕ) → begun c (lexed_from (cs ++ rest)) ≡ begun c (lexed_from cs) ++ lexed rest → lexed_from (cs ++ rest) (in_word (w ++ (c ∷ []))) ≡ lexed_from cs (in_word (w ++ (c ∷ []))) ++ lexed rest
      → word_goes_on b w c (lexed_from (cs ++ rest)) ≡ word_goes_on b w c (lexed_from cs) ++ lexed rest
  named_at b c cs w begins on = grind (arith, common_steps)

  named_read : (text : List ℕ) → all_named text ≡ true → (lexed (text ++ rest) ≡ lexed text ++ lexed rest) × ((w : List ℕ) → lexed_from (text ++ rest) (in_word w) ≡ lexed_from text (in_word w) ++ lexed rest)
  named_read [] h = (refl, λ w. word_stops w rest apart)
  named_read (c ∷ cs) h = grind (arith, common_steps, named_read cs, and_parts, named_at)

-- which texts are such
pub letters_named : (text : List ℕ) → all_letters text ≡ true → all_named text ≡ true
letters_named [] h = refl
letters_named (c ∷ cs) h = let hs = and_parts (is_letter c) (all_letters cs) h in and_from _ _ (ap (λ b. b || c == 35) hs.0) (letters_named cs hs.1)

pub named_before : (x y : List ℕ) → all_named x ≡ true → all_named y ≡ true → all_named (x ++ y) ≡ true
named_before [] y h k = k
named_before (c ∷ x) y h k = let hs = and_parts (is_letter c || c == 35) (all_named x) h in and_from _ _ hs.0 (named_before x y hs.1 k)

pub named_whole : (text : List ℕ) → all_named text ≡ true → IsWholeWord text
named_whole text h rest r = (named_read rest r text h).0

-- 6. the laws
pub closed_texts_lem : ClosedTexts
closed_texts_lem = record { whole = closed_whole; together = closed_together; plain = closed_plain; letters = closed_letters; quoted = closed_quoted; stay_together = stays_together }

pub closed_names_are_whole_lem : ClosedNamesAreWhole
closed_names_are_whole_lem names h = grind (arith, common_steps, closed_whole, named_whole)
