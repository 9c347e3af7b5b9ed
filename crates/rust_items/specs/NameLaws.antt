-- What written names are like.
use Rattle.std.specs.Prelude.{◌≡◌, ◌≢◌, ◌⊎◌, ◌<◌, ◌^◌, ℕ, Bool, true, false, ◌&&◌, List, ◌++◌, All, Contains, IsUtf8, codes, not}
use Rattle.model.specs.rules.Program.{Program}
use Rattle.model_code.specs.PrintedNames.{PrintedName, number_in, printed_name}
use Rattle.model_code.specs.PureAlike.{ArePureAlike}
use Rattle.rust_items.specs.Claims.{Claim, IsWellNamed}
use Rattle.rust_items.specs.NamedPrograms.{NamedProgram, constants_kind, functions_kind, kinds, terms_kind, types_kind}
use Rattle.rust_items.specs.OwnNames.{is_variable}
use Rattle.rust_items.specs.RustNames.{is_among, is_identifier, part, path_keywords, raw_keywords, spelled}

-- an identifier that is no keyword
abbrev pub is_plain : List ℕ → Bool
is_plain text = is_identifier text && not (is_among raw_keywords text) && not (is_among path_keywords text)

-- such an identifier, or `r#` and a keyword that may stand so
abbrev pub IsIdentifier : List ℕ → Type 0
IsIdentifier text = (is_plain text ≡ true) ⊎ ((keyword : List ℕ) × (is_among raw_keywords keyword ≡ true) × (text ≡ codes "r#" ++ keyword))

-- whatever a name is, it is written as an identifier
abbrev pub NamesAreIdentifiers : Type 0
NamesAreIdentifiers = (name : List ℕ) → IsUtf8 name → IsIdentifier (spelled name)

-- identifiers that differ are written differently: as parts, and as identifiers unless they can't stand as they are
pub record IdentifiersStayApart : Type 0 where
  pub parts : (a b : List ℕ) → is_identifier a ≡ true → is_identifier b ≡ true → part a ≡ part b → a ≡ b
  pub names : (a b : List ℕ) → is_identifier a ≡ true → is_identifier b ≡ true → is_among path_keywords a ≡ false → is_among path_keywords b ≡ false → spelled a ≡ spelled b → a ≡ b

-- variables and parameters are identifiers, no keywords, told by the test, and never the functions of terms
pub record VariablesArePlain : Type 0 where
  pub plain : (v : PrintedName) → number_in v < 2 ^ 64 → is_plain (printed_name v) ≡ true
  pub told : (v : PrintedName) → number_in v < 2 ^ 64 → is_variable (printed_name v) ≡ true
  pub no_function : (v : PrintedName) (name : List ℕ) → printed_name v ≢ codes "constructor_" ++ part name

-- where functions are told apart, what is one function from outside is pure alike
abbrev pub FunctionsApartArePureAlike : Type 0
FunctionsApartArePureAlike = (n : NamedProgram) (p : Program) → p.terms ≡ n.terms → IsWellNamed (functions_kind n) → ArePureAlike p

-- where names are told apart, nothing that the definitions name in values is written as a variable or a parameter
abbrev pub VariablesAreFree : Type 0
VariablesAreFree =
    (n : NamedProgram) → All IsWellNamed (kinds n) → (v : PrintedName) → number_in v < 2 ^ 64 → (c : Claim)
    → Contains ((types_kind n).claims ++ ((constants_kind n).claims ++ (terms_kind n).claims)) c → c.written ≢ printed_name v
