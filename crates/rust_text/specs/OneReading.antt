-- One text, one reading, for programs whose names are told apart.
use Rattle.std.specs.Prelude.{◌≡◌, ℕ, true, false, List, All}
use Rattle.std.specs.List.{list_all}
use Rattle.model_code.specs.Code.{Block}
use Rattle.model_code.specs.Notation.{Notation}
use Rattle.model_code.specs.OneReading.{IsReadInOrder, unnamed}
use Rattle.model_code.specs.Pieces.{tokens_of}
use Rattle.model_code.specs.ReadsBack.{writable}
use Rattle.model_code.specs.Spelling.{spelled}
use Rattle.model_code.specs.Written.{shown_code, function_body}
use Rattle.rust_items.specs.Claims.{IsWellNamed}
use Rattle.rust_items.specs.NamedPrograms.{NamedProgram, kinds}
use Rattle.rust_text.specs.ProgramNames.{NameSetting, names_of}
use Rattle.rust_text.specs.ProgramTokens.{NamesTell, is_of_program}

-- names are written by this program
pub record IsSettingOf (n : NamedProgram) (s : NameSetting) : Type 0 where
  pub names : s.names ≡ n.names
  pub types : s.types ≡ n.types
  pub terms : s.terms ≡ n.terms

-- and tell what they name
pub record IsNamedBy (n : NamedProgram) (s : NameSetting) : Type 0 where
  pub of : IsSettingOf n s
  pub tell : NamesTell s n.constants n.with_rules

-- a text is read as this code, by tokens of the program in order
abbrev pub IsReadIn : NamedProgram → NameSetting → Notation → List ℕ → Block → Type 0
IsReadIn n s p text code = IsReadInOrder (names_of s) p (is_of_program s n.constants n.with_rules) text code

-- where names are told apart, as in all code that `rust_code` gives, a text is read as one code at most
abbrev pub TextsAreReadOnce : Type 0
TextsAreReadOnce =
    (n : NamedProgram) (s : NameSetting) → All IsWellNamed (kinds n) → IsNamedBy n s
    → (p : Notation) (text : List ℕ) (a b : Block) → IsReadIn n s p text a → IsReadIn n s p text b → a ≡ b

-- and the text of code whose tokens are the program's is read as what it shows of the code
abbrev pub CodeIsReadOnce : Type 0
CodeIsReadOnce =
    (n : NamedProgram) (s : NameSetting) → All IsWellNamed (kinds n) → IsNamedBy n s
    → (p : Notation) (code : Block) → writable p false code ≡ true → unnamed p code ≡ true → list_all (is_of_program s n.constants n.with_rules) (tokens_of (function_body p code)) ≡ true
    → IsReadIn n s p (spelled (names_of s) (function_body p code)) (shown_code p code)
    × ((other : Block) → IsReadIn n s p (spelled (names_of s) (function_body p code)) other → other ≡ shown_code p code)
