-- What is printed of accepted definitions is read back.
use Rattle.std.specs.Prelude.{◌≡◌, ℕ, Bool, List, Contains}
use Rattle.model.specs.lists.Syntax.{Definition}
use Rattle.model.specs.lists.Elaborated.{TypedRules}
use Rattle.model.specs.rules.Program.{terms_with_rules}
use Rattle.model.specs.claims.Environments.{TypeEnvironment, TermEnvironment}
use Rattle.model.specs.claims.Layers.{own_program, LoweredTerm, LoweringAnswers}
use Rattle.model_code.specs.Notation.{ReturnForm}
use Rattle.model_code.specs.ProgramNotation.{notation_of}
use Rattle.model_code.specs.Written.{shown_code, function_body}
use Rattle.model_code.specs.Spelling.{spelled}
use Rattle.model_code.specs.ReadTexts.{IsReadAsCode}
use Rattle.laws_code.specs.AcceptedCode.{OfBestTrees}
use Rattle.laws_code.specs.TypedTrees.{code_by_types}
use Rattle.laws_code.specs.TextRuns.{HasCodeAndText}
use Rattle.rust_text.specs.ProgramNames.{NameSetting, names_of}

-- the text of a term's function, by the names of its program, has the words and marks of tokens that are read as what it shows of the
-- code
abbrev pub PrintedTextsAreReadBack : Type 0
PrintedTextsAreReadBack =
    OfBestTrees (λ p l. (s : NameSetting) (kind : ReturnForm) (is_logged : Bool) (deep : ℕ → Bool) (n : ℕ)
    → IsReadAsCode (names_of s) (notation_of p kind is_logged) (spelled (names_of s) (function_body (notation_of p kind is_logged) (code_by_types p l deep n))) (shown_code (notation_of p kind is_logged) (code_by_types p l deep n)))

-- and each term with rules of what lowering answers has code that means what its source rules do, and such a text, which is read as code
-- that has their outcomes
abbrev pub EachTermHasItsPrintedText : Type 0
EachTermHasItsPrintedText =
    (defs : List Definition) (expand : Bool) (types : TypeEnvironment) (terms : TermEnvironment) (rules : TypedRules) (lowered : List LoweredTerm)
    → LoweringAnswers defs expand types terms rules lowered
    → (t : ℕ) → Contains (terms_with_rules (own_program defs rules)) t
    → (l : LoweredTerm) × Contains lowered l × (l.term ≡ t)
    × ((s : NameSetting) (is_logged : Bool) (deep : ℕ → Bool) (d : ℕ) → HasCodeAndText (names_of s) is_logged (own_program defs rules) l deep d)
