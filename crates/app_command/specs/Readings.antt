-- What the texts of files are read as: the definitions that they spell, one text after another, or their first mistakes.
use Rattle.std.specs.Prelude.{Bool, true, false, ℕ, ◌+◌, ◌==◌, ◌≡◌, ◌≢◌, ◌&&◌, ◌||◌, List, [], ◌∷◌, ◌++◌, All, is_some, length, map, slice_get, Some, Result, Ok, Err}
use Rattle.cranelift_isle.specs.SyntaxViews.{definition_views}
use Rattle.cranelift_isle.specs.Syntax.{Definition}
use Rattle.cranelift_isle.specs.Lowerings.{AreAccepted}
use Rattle.text_reader.specs.declared.errors.ReadFault.TheVariants.{Text}
use Rattle.text_reader.specs.declared.errors.TextError.{TextError}
use Rattle.text_reader.specs.Faults.{FaultIsWithin}
use Rattle.text_reader.specs.Lexemes.{Wrong}
use Rattle.text_reader.specs.Views.{complaint}
use Rattle.text_reader.specs.Definitions.{Spells, reading}
use Rattle.text_reader.specs.Recovering.{Recovery, beside, nothing, recovering}
use Rattle.core_syntax.specs.SyntaxViews.{position}
use Rattle.text_reader.specs.Within.{DefinitionIsWithin}
use Rattle.app_command.specs.declared.reading.Reading.{Reading}
use Rattle.app_command.specs.declared.reading.Reading.TheVariants.{Defs, Unread}
use Rattle.app_words.specs.declared.request.Request.{Request}
use Rattle.app_words.specs.declared.tasks.Task.{Task}
use Rattle.app_words.specs.declared.tasks.Task.TheVariants as T

-- what an error says, and where
abbrev pub error_view : TextError → Wrong
error_view error = (complaint error.problem, position error.pos)

-- an error stands in the text of this number
abbrev pub StandsIn : ℕ → List ℕ → TextError → Type 0
StandsIn number text error = FaultIsWithin number (length text) (Text error)

-- or in one of these texts
abbrev pub StandsInSome : List (List ℕ) → TextError → Type 0
StandsInSome texts error = (number : ℕ) × (text : List ℕ) × (slice_get texts number ≡ Some text) × StandsIn number text error

-- a definition lies in one of these texts
abbrev pub LiesInSome : List (List ℕ) → Definition → Type 0
LiesInSome texts def = (number : ℕ) × (text : List ℕ) × (slice_get texts number ≡ Some text) × DefinitionIsWithin number (length text) def

-- whether the file of this number, the last, has printed trees or answers, and no definitions
abbrev pub is_comparison : Task → Bool
is_comparison T.Compare = true
is_comparison _ = false

abbrev pub has_no_definitions : Request → ℕ → Bool
has_no_definitions asked number = (is_comparison asked.task || is_some asked.answers) && (number + 1 == length asked.files.items)

-- each file has definitions
abbrev pub none_without : ℕ → Bool
none_without number = false

-- the definitions of one text, which may have none
abbrev pub AreOfText : (has_none : Bool) (number : ℕ) (text : List ℕ) → List Definition → Type 0
AreOfText true number text defs = defs ≡ []
AreOfText false number text defs = Spells number text defs

-- the definitions of texts, from this number on: those of each text, in order
abbrev pub AreOfTexts : (has_none : ℕ → Bool) (number : ℕ) → List (List ℕ) → List Definition → Type 0
AreOfTexts has_none number [] defs = defs ≡ []
AreOfTexts has_none number (text ∷ texts) defs =
    (these : List Definition) × (others : List Definition) × (defs ≡ these ++ others)
    × AreOfText (has_none number) number text these × AreOfTexts has_none (number + 1) texts others

-- the mistake that a text gives where it gives no definitions
abbrev pub mistake_in : Result (List Definition) Wrong → List Wrong
mistake_in (Ok defs) = []
mistake_in (Err mistake) = mistake ∷ []

-- the mistake of one text, which may have no definitions, and then has none
abbrev pub mistake_of_text : (has_none : Bool) (number : ℕ) (text : List ℕ) → List Wrong
mistake_of_text true number text = []
mistake_of_text false number text = mistake_in (reading number text)

-- the mistakes of texts, from this number on: the first one of each text that has one, in order
abbrev pub mistakes_of_texts : (has_none : ℕ → Bool) (number : ℕ) → List (List ℕ) → List Wrong
mistakes_of_texts has_none number [] = []
mistakes_of_texts has_none number (text ∷ texts) =
    mistake_of_text (has_none number) number text ++ mistakes_of_texts has_none (number + 1) texts

-- what can be read of one text, which may have no definitions
abbrev pub recovered_text : (has_none : Bool) (number : ℕ) (text : List ℕ) → Recovery
recovered_text true number text = nothing
recovered_text false number text = recovering number text

-- what can be read of texts, from this number on: of each, in order
abbrev pub recovered_texts : (has_none : ℕ → Bool) (number : ℕ) → List (List ℕ) → Recovery
recovered_texts has_none number [] = nothing
recovered_texts has_none number (text ∷ texts) = beside (recovered_text (has_none number) number text) (recovered_texts has_none (number + 1) texts)

-- the definitions are those of the texts, and lie in them; or there are mistakes, exactly those of the texts, and they stand in
-- them
abbrev pub IsReadingOf : (has_none : ℕ → Bool) → List (List ℕ) → Reading → Type 0
IsReadingOf has_none texts (Defs defs) = AreOfTexts has_none 0 texts (definition_views defs.items) × All (LiesInSome texts) (definition_views defs.items)
IsReadingOf has_none texts (Unread mistakes) =
    (mistakes.items ≢ []) × (map error_view mistakes.items ≡ mistakes_of_texts has_none 0 texts) × All (StandsInSome texts) mistakes.items

-- all texts were read, and their definitions are accepted
abbrev pub IsAcceptedReading : Bool → Reading → Type 0
IsAcceptedReading expand (Defs defs) = AreAccepted (definition_views defs.items) expand
IsAcceptedReading expand (Unread mistakes) = ⊥
