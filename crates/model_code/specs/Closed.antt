-- Texts that are read by themselves: what is in quotes ends in them, and outside quotes there is no `/`, which may begin a comment, and
-- no `.`, which a `.` may follow. One behind another is such a text too.
use Rattle.std.specs.Prelude.{◌≡◌, ◌≢◌, ◌&&◌, ◌||◌, ◌==◌, ◌++◌, ◌∷◌, [], ℕ, ℤ, Bool, true, false, not, Option, List, All, if◌then◌else◌}
use Rattle.model.specs.lists.Syntax.{Position}
use Rattle.model_code.specs.Tokens.{Owner}
use Rattle.model_code.specs.Spelling.{Names}
use Rattle.model_code.specs.Lexing.{is_letter, IsWholeText, AreWhole}

abbrev mutual
  pub is_closed : List ℕ → Bool
  is_closed [] = true
  is_closed (c ∷ cs) = if c == 34 then quotes_close cs else (not (c == 47) && not (c == 46)) && is_closed cs

  -- behind the first quote, and behind a backslash there
  pub quotes_close : List ℕ → Bool
  quotes_close [] = false
  quotes_close (c ∷ cs) = if c == 92 then escape_closes cs else if c == 34 then is_closed cs else quotes_close cs

  pub escape_closes : List ℕ → Bool
  escape_closes [] = false
  escape_closes (c ∷ cs) = quotes_close cs

-- a text that ends no quotes around it: `"` and `\` stand behind a `\`
abbrev mutual
  pub stays_quoted : List ℕ → Bool
  stays_quoted [] = true
  stays_quoted (c ∷ cs) = if c == 92 then escape_stays cs else not (c == 34) && stays_quoted cs

  pub escape_stays : List ℕ → Bool
  escape_stays [] = false
  escape_stays (c ∷ cs) = stays_quoted cs

abbrev pub in_quotation : List ℕ → List ℕ
in_quotation text = 34 ∷ (text ++ (34 ∷ []))

-- texts with letters, digits and `_` alone
abbrev pub all_letters : List ℕ → Bool
all_letters [] = true
all_letters (c ∷ cs) = is_letter c && all_letters cs

-- no quote, no slash and no dot
abbrev pub is_plain_mark : ℕ → Bool
is_plain_mark c = not (c == 34) && (not (c == 47) && not (c == 46))

abbrev pub all_plain : List ℕ → Bool
all_plain [] = true
all_plain (c ∷ cs) = is_plain_mark c && all_plain cs

-- letters and `#`: an identifier, as it is or behind `r#`
abbrev pub all_named : List ℕ → Bool
all_named [] = true
all_named (c ∷ cs) = (is_letter c || c == 35) && all_named cs

-- which texts are closed
pub record ClosedTexts : Type 0 where
  pub whole : (text : List ℕ) → is_closed text ≡ true → IsWholeText text
  pub together : (x y : List ℕ) → is_closed x ≡ true → is_closed y ≡ true → is_closed (x ++ y) ≡ true
  pub plain : (text : List ℕ) → all_plain text ≡ true → is_closed text ≡ true
  pub letters : (text : List ℕ) → all_letters text ≡ true → is_closed text ≡ true
  pub quoted : (text : List ℕ) → stays_quoted text ≡ true → is_closed (in_quotation text) ≡ true
  pub stay_together : (x y : List ℕ) → stays_quoted x ≡ true → stays_quoted y ≡ true → stays_quoted (x ++ y) ≡ true

-- names that are closed, and places that stay on their line
pub record AreClosedNames (names : Names) : Type 0 where
  pub owner : (o : Owner) → is_closed (names.owner o) ≡ true
  pub field : (o : Owner) (i : ℕ) → all_named (names.field o i) ≡ true
  pub function : (f : ℕ) → is_closed (names.function f) ≡ true
  pub list : (l : Option ℕ) → is_closed (names.list l) ≡ true
  pub constant : (name : ℕ) → is_closed (names.constant name) ≡ true
  pub number : (z : ℤ) (ending : ℕ) → is_closed (names.number z ending) ≡ true
  pub panic : is_closed names.panic ≡ true
  pub log : (at : Position) → is_closed (names.log at) ≡ true
  pub place : (at : Position) → All (λ c. c ≢ 10) (names.place at)

-- they are read by themselves
abbrev pub ClosedNamesAreWhole : Type 0
ClosedNamesAreWhole = (names : Names) → AreClosedNames names → AreWhole names
