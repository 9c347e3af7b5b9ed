-- Variables and parameters begin with a letter and a digit, or with three letters and one.
use Rattle.std.proofs.Common.{◌≡◌, ◌≢◌, ◌<◌, ◌^◌, ◌+◌, ◌-◌, ◌*◌, ℕ, Bool, true, false, cond, ◌&&◌, ◌||◌, List, [], ◌∷◌, ◌++◌, length, get_or, refl, sym, ap, subst, ◌∙◌, arith, rules, codes}
use Rattle.std.specs.Prelude.{◌==◌, drop, nat_eq, not}
use Rattle.std.specs.Char.{is_ascii_digit, is_ascii_alphanumeric}
use Rattle.std.specs.Fmt.{decimal}
use Rattle.std.specs.List.{list_all, starts_with}
use Rattle.std.specs.Str.{all_ascii_digits}
use Rattle.std.proofs.lemmas.Bool.Decides.{nat_tests}
use Rattle.std.proofs.lemmas.Fmt.{digits_decimal, decimal_nonempty}
use Rattle.std.specs.Str.{IsCharBoundary}
use Rattle.std.specs.Str.Pattern.{FindsTextPrefix, LacksTextAt, StripsPrefix}
use Rattle.std.proofs.lemmas.Str.Pattern.{starts_text}
use Rattle.std.proofs.lemmas.Str.Parse.{IsNumeralModel, numerals_by_fold}
use Rattle.model_code.specs.PrintedNames.{PrintedName, of_variable, of_parameter, number_in, printed_name}
use Rattle.rust_items.specs.NameLaws.{VariablesArePlain, is_plain}
use Rattle.rust_items.specs.OwnNames.{is_number, is_numbered, is_variable}
use Rattle.rust_items.specs.RustNames.{is_among, is_identifier, is_word, part, path_keywords, raw_keywords}

abbrev read_on : ℕ → List ℕ → ℕ
read_on n [] = n
read_on n (c ∷ cs) = read_on (10 * n + (c - 48)) cs

own : IsNumeralModel (λ ds. all_ascii_digits ds ≡ true) (read_on 0)
own = numerals_by_fold _ (search rules) read_on (search rules)

-- a text of digits, one at least
record AreDigits (ds : List ℕ) : Type 0 where
  first : ℕ
  more : List ℕ
  parts : ds ≡ first ∷ more
  digits : all_ascii_digits (first ∷ more) ≡ true

are_digits : (ds : List ℕ) → 0 < length ds → all_ascii_digits ds ≡ true → AreDigits ds
are_digits [] l h = absurd (omega (arith, l))
are_digits (d ∷ ds) l h = record { first = d; more = ds; parts = refl; digits = h }

decimal_digits : (n : ℕ) → n < 2 ^ 64 → AreDigits (decimal n)
decimal_digits n h = are_digits (decimal n) (decimal_nonempty n h) (digits_decimal own n h)

word_digit : (d : ℕ) → is_ascii_digit d ≡ true → is_word d ≡ true
word_digit d h = grind (arith, nat_tests)

all_words : (ds : List ℕ) → all_ascii_digits ds ≡ true → list_all is_word ds ≡ true
all_words [] h = refl
all_words (d ∷ ds) h =
    elim (is_ascii_digit d) as (λ b. is_ascii_digit d ≡ b → (b && all_ascii_digits ds) ≡ true → (is_word d && list_all is_word ds) ≡ true) [
      | true ↦ λ e k. rw (word_digit d e) (all_words ds k)
      | false ↦ λ e k. absurd (cc)
    ] refl h

no_letter : (d : ℕ) → is_ascii_digit d ≡ true → (105 == d) ≡ false
no_letter d h = grind (arith, nat_tests)

first_digit : (d : ℕ) (ds : List ℕ) → all_ascii_digits (d ∷ ds) ≡ true → is_ascii_digit d ≡ true
first_digit d ds h = elim (is_ascii_digit d) as (λ b. (b && all_ascii_digits ds) ≡ true → b ≡ true) [ true ↦ λ k. refl | false ↦ λ k. k ] h

-- a `v` and digits: of the keywords, only `virtual` begins so, and its next letter is no digit
plain_variable : (ds : List ℕ) → AreDigits ds → is_plain (118 ∷ ds) ≡ true
plain_variable ds h =
    let P : List ℕ → Type 0 = λ xs. is_plain (118 ∷ xs) ≡ true in
    subst P (sym h.parts) (rw (all_words (h.first ∷ h.more) h.digits, no_letter h.first (first_digit h.first h.more h.digits)) refl)

plain_parameter : (ds : List ℕ) → AreDigits ds → is_plain (97 ∷ (114 ∷ (103 ∷ ds))) ≡ true
plain_parameter ds h =
    let P : List ℕ → Type 0 = λ xs. is_plain (97 ∷ (114 ∷ (103 ∷ xs))) ≡ true in
    subst P (sym h.parts) (rw (all_words (h.first ∷ h.more) h.digits) refl)

plain : (v : PrintedName) → number_in v < 2 ^ 64 → is_plain (printed_name v) ≡ true
plain (of_variable v) h = plain_variable (decimal v) (decimal_digits v h)
plain (of_parameter i) h = plain_parameter (decimal i) (decimal_digits i h)

digits_all : (ds : List ℕ) → all_ascii_digits ds ≡ list_all is_ascii_digit ds
digits_all [] = refl
digits_all (d ∷ ds) = ap (λ b. is_ascii_digit d && b) (digits_all ds)

or_false : (b : Bool) → b ≡ true → (b || false) ≡ true
or_false b h = rw h refl

told_variable : (ds : List ℕ) → AreDigits ds → is_variable (118 ∷ ds) ≡ true
told_variable ds h =
    let P : List ℕ → Type 0 = λ xs. is_variable (118 ∷ xs) ≡ true in
    subst P (sym h.parts) (or_false _ (sym (digits_all (h.first ∷ h.more)) ∙ h.digits))

told_parameter : (ds : List ℕ) → AreDigits ds → is_variable (97 ∷ (114 ∷ (103 ∷ ds))) ≡ true
told_parameter ds h =
    let P : List ℕ → Type 0 = λ xs. is_variable (97 ∷ (114 ∷ (103 ∷ xs))) ≡ true in
    subst P (sym h.parts) (sym (digits_all (h.first ∷ h.more)) ∙ h.digits)

told : (v : PrintedName) → number_in v < 2 ^ 64 → is_variable (printed_name v) ≡ true
told (of_variable v) h = told_variable (decimal v) (decimal_digits v h)
told (of_parameter i) h = told_parameter (decimal i) (decimal_digits i h)

abbrev first_letter : List ℕ → ℕ
first_letter xs = get_or xs 0 0

no_function : (v : PrintedName) (name : List ℕ) → printed_name v ≢ codes "constructor_" ++ part name
no_function (of_variable v) name e = (let d : 118 ≡ 99 = ap first_letter e in omega (arith, d))
no_function (of_parameter i) name e = (let d : 97 ≡ 99 = ap first_letter e in omega (arith, d))

pub variables_are_plain_lem : VariablesArePlain
variables_are_plain_lem = record { plain = plain; told = told; no_function = no_function }

-- what is left of a text that begins with a word
pub numbered_some : (word s rest : List ℕ) → StripsPrefix (FindsTextPrefix word) s rest → is_numbered word s ≡ is_number rest
numbered_some word s rest h =
    let begins : true ≡ starts_with nat_eq s word = starts_text true word s (h.0, h.1, subst (IsCharBoundary s) (sym h.1.0) h.1.2) in
    ap (λ b. b && is_number (drop (length word) s)) (sym begins) ∙ ap is_number (ap (λ n. drop n s) (sym h.1.0) ∙ sym h.2)

pub numbered_none : (word s : List ℕ) → LacksTextAt word s 0 → is_numbered word s ≡ false
numbered_none word s h = ap (λ b. b && is_number (drop (length word) s)) (sym (starts_text false word s h))
