-- What the command answers to definitions, by what it is asked.
use Rattle.std.specs.Prelude.{ℕ, ◌≡◌, ◌≢◌, ◌≤◌, ◌⊎◌, ◌||◌, ◌++◌, ⊤, Bool, true, false, List, [], ◌∷◌, drop, length, map, option_map, None, Option, Some, string_bytes, take, Ok, Err}
use Rattle.cranelift_isle.specs.SyntaxViews.{definition_views}
use Rattle.cranelift_isle.specs.Syntax.{Definition}
use Rattle.model.specs.lists.Syntax.{Position}
use Rattle.cranelift_isle.specs.declared.lower.Lowered.{Lowered}
use Rattle.cranelift_isle.specs.declared.lower.LoweredTerm.{LoweredTerm}
use Rattle.cranelift_isle.specs.Lowerings.{AreAccepted, IsLowered}
use Rattle.core_syntax.specs.declared.syntax.Files.{Files}
use Rattle.core_syntax.specs.declared.syntax.Pos.{Pos}
use Rattle.report_print.specs.PlaceTexts.{texts_of}
use Rattle.report_print.specs.declared.report.Report.{Report}
use Rattle.report_queries.specs.TermTexts.{terms_text}
use Rattle.text_json.specs.JsonLine.{IsJsonLine}
use Rattle.text_writer.specs.Contents.{contents_of_texts, TextContents}
use Rattle.text_writer.specs.ReadsBack.{ReadsBackAs}
use Rattle.text_writer.specs.Saying.{ReadsBackVerification}
use Rattle.text_writer.specs.Woven.{unspelled, woven}
use Rattle.app_command.specs.declared.answers.Answer.{Answer}
use Rattle.app_command.specs.declared.calls.Told.{Told}
use Rattle.app_command.specs.declared.calls.Told.TheVariants.{Text, Wrong}
use Rattle.app_command.specs.declared.reading.Reading.{Reading}
use Rattle.app_command.specs.declared.reading.Reading.TheVariants.{Defs, Unread}
use Rattle.app_words.specs.declared.values.Format.{Format}
use Rattle.app_words.specs.declared.values.Format.TheVariants as F
use Rattle.app_words.specs.declared.request.Request.{Request}
use Rattle.app_words.specs.declared.tasks.Task.{Task}
use Rattle.app_words.specs.declared.tasks.Task.TheVariants as T
use Rattle.app_command.specs.CallTexts.{IsTextOfRun}
use Rattle.app_command.specs.Codes.{IsAnswerOfRust}
use Rattle.app_command.specs.Compared.{last_has_trees}
use Rattle.app_command.specs.Readings.{has_no_definitions, IsAcceptedReading, IsReadingOf}
use Rattle.app_command.specs.WantedTerms.{missing_name, wanted_terms}

-- nothing stands on standard error
abbrev pub IsOnOut : Answer → Type 0
IsOnOut answer = string_bytes answer.err ≡ []

-- nothing stands on standard output
abbrev pub IsOnErr : Answer → Type 0
IsOnErr answer = string_bytes answer.out ≡ []

-- what is asked is done, and standard output alone says what comes of it
abbrev pub IsDone : Answer → Type 0
IsDone answer = (answer.status ≡ 0) × IsOnOut answer

-- with a text
abbrev pub IsDoneWithText : Answer → Type 0
IsDoneWithText answer = IsDone answer × (string_bytes answer.out ≢ [])

-- and without
abbrev pub IsDoneWithoutText : Answer → Type 0
IsDoneWithoutText answer = IsDone answer × IsOnErr answer

-- it isn't done, and standard error alone says why
abbrev pub IsFailed : Answer → Type 0
IsFailed answer = (answer.status ≡ 1) × IsOnErr answer × (string_bytes answer.err ≢ [])

-- two versions differ, and standard output alone says how
abbrev pub IsDifferent : Answer → Type 0
IsDifferent answer = (answer.status ≡ 1) × IsOnOut answer × (string_bytes answer.out ≢ [])

-- reports may stand on one side: as a line of JSON on standard output, else on standard error
abbrev pub AreReports : Format → Answer → Type 0
AreReports F.Json answer = IsOnOut answer × IsJsonLine (string_bytes answer.out)
AreReports F.Text answer = IsOnErr answer
AreReports F.Line answer = IsOnErr answer
AreReports F.Dot answer = IsOnErr answer

-- no report stands there, or one does: of a JSON document neither is said
abbrev pub HasNoReport : Format → Answer → Type 0
HasNoReport F.Json answer = ⊤
HasNoReport F.Text answer = string_bytes answer.err ≡ []
HasNoReport F.Line answer = string_bytes answer.err ≡ []
HasNoReport F.Dot answer = string_bytes answer.err ≡ []

abbrev pub HasReport : Format → Answer → Type 0
HasReport F.Json answer = ⊤
HasReport F.Text answer = string_bytes answer.err ≢ []
HasReport F.Line answer = string_bytes answer.err ≢ []
HasReport F.Dot answer = string_bytes answer.err ≢ []

-- something is wrong with texts or definitions: the status says so, and reports may
abbrev pub IsRefusal : Request → Answer → Type 0
IsRefusal asked answer = (answer.status ≡ 1) × AreReports asked.format answer

-- the text of the trees of some terms: exactly the texts of the terms, in order. It is a line of JSON, or graphs of which none is
-- empty, where that is asked for
abbrev pub AreTrees : Format → Files → Lowered → List LoweredTerm → (text : List ℕ) → Type 0
AreTrees F.Json files l terms text = IsJsonLine text
AreTrees F.Dot files l terms text = length terms ≤ length text
AreTrees F.Text files l terms text = text ≡ terms_text files l terms
AreTrees F.Line files l terms text = text ≡ terms_text files l terms

-- the text of how large terms are
abbrev pub AreSizes : Format → (text : List ℕ) → Type 0
AreSizes F.Json text = IsJsonLine text
AreSizes F.Text text = text ≢ []
AreSizes F.Line text = text ≢ []
AreSizes F.Dot text = text ≢ []

-- the names of the terms that are asked for, as a text; none where all are
abbrev pub asked_names : Request → Option (List ℕ)
asked_names asked = option_map (λ names. names.now) asked.terms

-- whether there is one of something
abbrev pub has_one : {T : Type 0} → List T → Bool
has_one [] = false
has_one (x ∷ xs) = true

-- whether warnings may count as errors: all do, or those of some kinds
abbrev pub denies : Request → Bool
denies asked = asked.deny || has_one asked.denied.items

-- the status 0 says that there is no warning, where all count as errors; the status 1 that there is one, where some may
abbrev pub IsStatusOfWarnings : Request → Answer → Type 0
IsStatusOfWarnings asked answer =
    ((answer.status ≡ 0) × (asked.deny ≡ true → HasNoReport asked.format answer))
    ⊎ ((denies asked ≡ true) × (answer.status ≡ 1) × HasReport asked.format answer)

-- what is told of a call is answered as a line: what is asked for, or what is wrong
abbrev pub IsAnswerOfTold : Told → Answer → Type 0
IsAnswerOfTold (Text text) answer = IsDone answer × (string_bytes answer.out ≡ string_bytes text ++ (10 ∷ []))
IsAnswerOfTold (Wrong why) answer = IsFailed answer

-- the run of a call is told on a line that ends standard output, or it is told what is wrong
abbrev pub IsAnswerOfRun : Request → Lowered → Answer → Type 0
IsAnswerOfRun asked l answer =
    (IsDone answer × ((text : List ℕ) × IsTextOfRun asked l text × (string_bytes answer.out ≡ text ++ (10 ∷ [])))) ⊎ IsFailed answer

-- the last of some texts is compared with printed trees: it is silent, and the status is 0, exactly where it has just these
abbrev pub IsAnswerOfComparing : List (List ℕ) → (trees : List ℕ) → Answer → Type 0
IsAnswerOfComparing texts trees answer =
    ((last_has_trees texts trees ≡ true) × IsDoneWithoutText answer) ⊎ ((last_has_trees texts trees ≡ false) × IsFailed answer)

-- what the lowered definitions of files are answered, by the task. `lower` and `compare` fail where no term has a name that is asked for. Of the
-- other tasks that may fail it isn't said when they do
abbrev pub IsAnswerBy : Task → Request → Files → Lowered → Answer → Type 0
IsAnswerBy T.Lower asked files l answer =
    ((missing_name (asked_names asked) l ≡ None)
    × IsDone answer × AreTrees asked.format files l (wanted_terms (asked_names asked) l) (string_bytes answer.out))
    ⊎ ((missing_name (asked_names asked) l ≢ None) × IsFailed answer)
IsAnswerBy T.Rust asked files l answer = IsAnswerOfRust l files asked.code asked.stubs answer
IsAnswerBy T.Check asked files l answer = AreReports asked.format answer × IsStatusOfWarnings asked answer
IsAnswerBy T.Explain asked files l answer = IsDoneWithText answer ⊎ IsFailed answer
IsAnswerBy T.Stats asked files l answer = IsDone answer × AreSizes asked.format (string_bytes answer.out)
IsAnswerBy T.Compare asked files l answer =
    ((missing_name (asked_names asked) l ≡ None) × IsAnswerOfComparing (map string_bytes files.texts.items)
    (terms_text files l (wanted_terms (asked_names asked) l)) answer)
    ⊎ ((missing_name (asked_names asked) l ≢ None) × IsFailed answer)
IsAnswerBy T.Diff asked files l answer = IsDoneWithoutText answer
IsAnswerBy T.Print asked files l answer = IsDoneWithoutText answer
IsAnswerBy T.Samples asked files l answer = IsDoneWithoutText answer
IsAnswerBy T.Run asked files l answer = IsAnswerOfRun asked l answer
IsAnswerBy T.Why asked files l answer = IsDoneWithText answer ⊎ IsFailed answer

-- definitions are accepted and the task is done or fails, or they aren't and are refused
abbrev pub IsAnswerToDefinitions : List Definition → Request → Files → Answer → Type 0
IsAnswerToDefinitions defs asked files answer =
    ((l : Lowered) × IsLowered defs asked.expand l × IsAnswerBy asked.task asked files l answer)
    ⊎ ((AreAccepted defs asked.expand → ⊥) × IsRefusal asked answer)

-- what was read is answered: definitions, or mistakes of texts, which are told
abbrev pub IsAnswerToReading : Request → Files → Reading → Answer → Type 0
IsAnswerToReading asked files (Defs defs) answer = IsAnswerToDefinitions (definition_views defs.items) asked files answer
IsAnswerToReading asked files (Unread mistakes) answer = IsRefusal asked answer × (mistakes.items ≢ [] → HasReport asked.format answer)

-- files are answered as something that their texts are read as
abbrev pub IsAnswerToOneReading : Request → Files → Answer → Type 0
IsAnswerToOneReading asked files answer =
    (reading : Reading) × IsReadingOf (has_no_definitions asked) (texts_of files) reading × IsAnswerToReading asked files reading answer

-- two versions, each accepted or not, are answered: both are, and nothing is said, or how they differ; or one isn't, and is refused
abbrev pub IsAnswerToBoth : (Old New : Type 0) → Request → Answer → Type 0
IsAnswerToBoth Old New asked answer =
    (Old × New × (IsDoneWithoutText answer ⊎ IsDifferent answer)) ⊎ ((Old → New → ⊥) × IsRefusal asked answer)

-- so many texts are answered as the old version, and the others as the new one
abbrev pub IsAnswerToVersions : Request → List (List ℕ) → Answer → Type 0
IsAnswerToVersions asked texts answer =
    (old : Reading) × (new : Reading) × IsReadingOf (has_no_definitions asked) (take asked.old texts) old
    × IsReadingOf (has_no_definitions asked) (drop asked.old texts) new
    × IsAnswerToBoth (IsAcceptedReading asked.expand old) (IsAcceptedReading asked.expand new) asked answer

-- a text of what texts have: each definition and each tree for a verifier on a line, in order. It is read as these, but for places
abbrev pub IsTextOf : TextContents → (text : List ℕ) → Type 0
IsTextOf contents text =
    (contents.mistakes ≡ []) × (woven 0 contents.definitions contents.trees ≡ Ok text)
    × ReadsBackAs text contents.definitions × ReadsBackVerification text contents.trees

-- there is none: texts have mistakes, or else the definition or the tree that stands there can't be spelled
abbrev pub HasNoText : TextContents → Type 0
HasNoText contents =
    (contents.mistakes ≢ []) ⊎ ((at : Position) × (woven 0 contents.definitions contents.trees ≡ Err (unspelled at)))

-- what texts have is printed, and nothing else, if it has a text; else it is told why it has none
abbrev pub IsPrintOfContents : TextContents → Request → Answer → Type 0
IsPrintOfContents contents asked answer =
    (IsDone answer × IsTextOf contents (string_bytes answer.out))
    ⊎ (HasNoText contents × IsRefusal asked answer × HasReport asked.format answer)

abbrev pub IsPrintOfTexts : Request → List (List ℕ) → Answer → Type 0
IsPrintOfTexts asked texts answer = IsPrintOfContents (contents_of_texts 0 texts) asked answer

-- the places of a report
abbrev pub label_places : Report → List Pos
label_places report = map (λ label. label.pos) report.labels.items

-- files are answered together, or as two versions, or as one text of all their definitions, by the task
abbrev pub IsAnswerToFiles : Request → Files → Answer → Type 0
IsAnswerToFiles asked files answer =
    ((asked.task ≢ T.Diff) × (asked.task ≢ T.Print) × IsAnswerToOneReading asked files answer)
    ⊎ (((asked.task ≡ T.Diff) × IsAnswerToVersions asked (texts_of files) answer) ⊎ ((asked.task ≡ T.Print) × IsPrintOfTexts asked (texts_of files) answer))
