-- What comes of wanting Rust code.
use Rattle.std.specs.Prelude.{ℕ, ◌≡◌, ◌≢◌, ◌++◌, ⊤, Bool, true, false, List, [], ◌∷◌, Option, Some, None, codes, string_bytes}
use Rattle.cranelift_isle.specs.Syntax.{Definition}
use Rattle.cranelift_isle.specs.SyntaxViews.{definition_views}
use Rattle.cranelift_isle.specs.declared.lower.Lowered.{Lowered}
use Rattle.cranelift_isle.specs.Lowerings.{AreAccepted, IsLowered}
use Rattle.core_syntax.specs.declared.syntax.Files.{Files}
use Rattle.rust_items.specs.SourceViews.{sources_view}
use Rattle.rust_items.specs.declared.faults.CodeError.{CodeError}
use Rattle.rust_items.specs.declared.faults.CodeError.TheVariants as E
use Rattle.rust_items.specs.declared.options.CodegenOptions.{CodegenOptions}
use Rattle.rust_text.specs.Settings.{setting_by_options}
use Rattle.rust_text.specs.WholeCode.{IsWholeCode, TellsNames}
use Rattle.app_command.specs.declared.answers.Answer.{Answer}
use Rattle.app_command.specs.declared.code.Code.{Code}
use Rattle.app_command.specs.declared.code.Code.TheVariants.{Names, Text}
use Rattle.app_command.specs.declared.reading.Reading.{Reading}
use Rattle.app_command.specs.declared.reading.Reading.TheVariants.{Defs, Unread}

-- the line that says why there is no code
abbrev pub names_line : List ℕ → List ℕ
names_line why = (codes "error[names]: " ++ why) ++ 10 ∷ []

abbrev pub IsNamesLine : List ℕ → Type 0
IsNamesLine text = (why : List ℕ) × (text ≡ names_line why)

-- a line that says this
abbrev pub IsNamesLineOf : (List ℕ → Type 0) → List ℕ → Type 0
IsNamesLineOf Says text = (why : List ℕ) × Says why × (text ≡ names_line why)

-- what comes of lowered definitions: their whole code, or which names would be one
abbrev pub IsCode : Lowered → Files → CodegenOptions → Code → Type 0
IsCode l files options (Text text) = IsWholeCode l (setting_by_options l files options) options.exclude_global_allow_pragmas (string_bytes text)
IsCode l files options (Names why) = IsNamesLineOf (TellsNames l (sources_view files options.prefixes.items)) (string_bytes why)

-- of stubs it is only said that there is a text
abbrev pub AreStubs : Code → Type 0
AreStubs (Text text) = string_bytes text ≢ []
AreStubs (Names why) = IsNamesLine (string_bytes why)

abbrev pub IsCodeOrStubs : (stubs : Bool) → Lowered → Files → CodegenOptions → Code → Type 0
IsCodeOrStubs true l files options code = AreStubs code
IsCodeOrStubs false l files options code = IsCode l files options code

-- no code was made, for names
abbrev pub AreNames : CodeError → Code → Type 0
AreNames E.Memory code = ⊥
AreNames (E.Names text) (Text code) = ⊥
AreNames (E.Names text) (Names why) = string_bytes why ≡ names_line (string_bytes text)

-- what comes of wanting the Rust code of definitions: where they are accepted the code, or why there is none
abbrev pub IsCodedBy : List Definition → Bool → Files → CodegenOptions → Option Code → Type 0
IsCodedBy defs expand files options (Some code) = (l : Lowered) × IsLowered defs expand l × IsCode l files options code
IsCodedBy defs expand files options None = AreAccepted defs expand → ⊥

-- nothing comes of texts that can't be read
abbrev pub IsNothing : Option Code → Type 0
IsNothing (Some code) = ⊥
IsNothing None = ⊤

-- of what was read
abbrev pub IsCodeOf : Bool → Reading → Files → CodegenOptions → Option Code → Type 0
IsCodeOf expand (Defs defs) files options code = IsCodedBy (definition_views defs.items) expand files options code
IsCodeOf expand (Unread mistakes) files options code = IsNothing code

-- the code of what was read, or why there is none, for some files of it and some options
abbrev pub IsCodeOfReading : Bool → Reading → Code → Type 0
IsCodeOfReading expand reading code = (files : Files) × ((options : CodegenOptions) × IsCodeOf expand reading files options (Some code))

-- code is answered with the status 0 and its text alone; where there is none, the status is 1 and standard error alone says why
abbrev pub IsAnswerOfCode : Code → Answer → Type 0
IsAnswerOfCode (Text text) answer = (answer.status ≡ 0) × (string_bytes answer.out ≡ string_bytes text) × (string_bytes answer.err ≡ [])
IsAnswerOfCode (Names why) answer = (answer.status ≡ 1) × (string_bytes answer.out ≡ []) × (string_bytes answer.err ≡ string_bytes why)

-- Rust code of the lowered definitions of files is answered, or stubs of what it asks for
abbrev pub IsAnswerOfRust : Lowered → Files → CodegenOptions → (stubs : Bool) → Answer → Type 0
IsAnswerOfRust l files options stubs answer = (code : Code) × IsCodeOrStubs stubs l files options code × IsAnswerOfCode code answer
