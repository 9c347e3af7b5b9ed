-- What a call answers to what the texts of files were read as, and with which text.
use Rattle.std.specs.Prelude.{ℕ, ◌<◌, ◌≤◌, ◌≡◌, ◌⊎◌, false, true, List, [], ◌∷◌, is_none, length, nat_eq, string_bytes, take, if◌then◌else◌}
use Rattle.core_syntax.specs.declared.syntax.Files.{Files}
use Rattle.app_command.specs.declared.answers.Answer.{Answer}
use Rattle.app_command.specs.declared.reading.Reading.{Reading}
use Rattle.app_words.specs.declared.values.Format as CommandFormat
use Rattle.app_words.specs.declared.values.Format.TheVariants as C
use Rattle.app_words.specs.declared.request.Request.{Request}
use Rattle.app_words.specs.declared.tasks.Task as CommandTask
use Rattle.app_words.specs.declared.tasks.Task.TheVariants as T
use Rattle.app_command.specs.declared.code.Code.{Code}
use Rattle.app_command.specs.declared.code.Code.TheVariants.{Names, Text}
use Rattle.app_command.specs.Codes.{IsCodeOfReading}
use Rattle.app_command.specs.Readings.{none_without, IsAcceptedReading, IsReadingOf}
use Rattle.app_command.specs.Statuses.{IsStatusOfReading}
use Rattle.app_command.specs.TaskAnswers.{IsAnswerToReading}
use Rattle.app_calls.specs.declared.options.CallRequest.{CallRequest}
use Rattle.app_calls.specs.declared.options.ReportFormat.{ReportFormat}
use Rattle.app_calls.specs.declared.options.ReportFormat.TheVariants as F
use Rattle.app_calls.specs.declared.options.Options.{Options}
use Rattle.app_calls.specs.declared.options.CallTask.{CallTask}
use Rattle.app_calls.specs.declared.options.CallTask.TheVariants as A
use Rattle.app_calls.specs.declared.output.Sizes.{Sizes}
use Rattle.app_calls.specs.declared.statuses.TheConstants.{DONE, ERRORS, NO_CODE, NO_MEMORY, NO_ROOM}
use Rattle.app_calls.specs.Known.{IsAskedBy}

-- what the command is asked for a task of a call: where Rust code is wanted, it says what is wrong
abbrev pub command_task : CallTask → CommandTask.Task
command_task A.Trees = T.Lower
command_task A.Check = T.Check
command_task A.Code = T.Check

-- and in which form
abbrev pub command_format : ReportFormat → CommandFormat.Format
command_format F.Text = C.Text
command_format F.Line = C.Line
command_format F.Colored = C.Text
command_format F.Json = C.Json

-- what the command is asked for a call: all terms, warnings count as no errors, and each text has definitions
pub record IsRequestOf (asked : CallRequest) (request : Request) : Type 0 where
  pub task : request.task ≡ command_task asked.task
  pub format : request.format ≡ command_format asked.format
  pub expand : request.expand ≡ asked.expand
  pub deny : request.deny ≡ false
  pub denied : request.denied.items ≡ []
  pub terms : is_none request.terms ≡ true
  pub answers : is_none request.answers ≡ true

-- what the command answers to what was read, for a call and some files of what was read
pub record IsCommandAnswer (asked : CallRequest) (reading : Reading) (answer : Answer) : Type 0 where
  pub request : Request
  pub files : Files
  pub asks : IsRequestOf asked request
  pub answers : IsAnswerToReading request files reading answer
  pub says : IsStatusOfReading request reading answer.status

-- the status of a call for an answer of the command
abbrev pub status_of : Answer → ℕ
status_of answer = if nat_eq answer.status 0 then DONE else ERRORS

-- one text, or where it is empty the other
abbrev pub first_text : List ℕ → List ℕ → List ℕ
first_text [] other = other
first_text (byte ∷ text) other = byte ∷ text

-- the text of an answer of the command, which stands on one side alone
abbrev pub text_of : Answer → List ℕ
text_of answer = first_text (string_bytes answer.out) (string_bytes answer.err)

-- a status and a text are those of an answer of the command
abbrev pub IsToldByCommand : CallRequest → Reading → (status : ℕ) → (text : List ℕ) → Type 0
IsToldByCommand asked reading status text =
    (answer : Answer) × IsCommandAnswer asked reading answer × (status ≡ status_of answer) × (text ≡ text_of answer)

-- what a status that comes with a text says of what was read: DONE that all texts were read and their definitions are accepted,
-- ERRORS that not all were read, or that they aren't, NO_CODE that they are and that their code was wanted
pub record StatusSays (asked : CallRequest) (reading : Reading) (status : ℕ) : Type 0 where
  pub done : status ≡ DONE → IsAcceptedReading asked.expand reading
  pub errors : status ≡ ERRORS → IsAcceptedReading asked.expand reading → ⊥
  pub no_code : status ≡ NO_CODE → IsAcceptedReading asked.expand reading × (asked.task ≡ A.Code)

-- code comes with its text, and that there is none with the line that says why
abbrev pub IsTextOfCode : Code → (status : ℕ) → (text : List ℕ) → Type 0
IsTextOfCode (Text code) status text = (status ≡ DONE) × (text ≡ string_bytes code)
IsTextOfCode (Names why) status text = (status ≡ NO_CODE) × (text ≡ string_bytes why)

-- the text that comes with a status
abbrev pub IsTextOf : CallTask → CallRequest → Reading → (status : ℕ) → (text : List ℕ) → Type 0
IsTextOf A.Trees asked reading status text = IsToldByCommand asked reading status text
IsTextOf A.Check asked reading status text = IsToldByCommand asked reading status text
IsTextOf A.Code asked reading status text =
    ((IsAcceptedReading asked.expand reading → ⊥) × IsToldByCommand asked reading status text)
    ⊎ ((code : Code) × IsCodeOfReading asked.expand reading code × IsTextOfCode code status text)

-- a status and a text are made of what was read
abbrev pub IsMadeOfReading : CallRequest → Reading → (status : ℕ) → (text : List ℕ) → Type 0
IsMadeOfReading asked reading status text = StatusSays asked reading status × IsTextOf asked.task asked reading status text

-- a text is handed over with its status: it is written whole, or nothing is where the buffer is too small
pub record HandsOver (out out' : List ℕ) (sizes : Sizes) (status : ℕ) (text : List ℕ) (result : ℕ) : Type 0 where
  pub needed : sizes.needed ≡ length text
  pub room : length text ≤ length out → result ≡ status
  pub written : length text ≤ length out → take (length text) out' ≡ text
  pub short : length out < length text → result ≡ NO_ROOM

-- what the command says of what was read is answered
abbrev pub IsSaidTo : CallRequest → Reading → (out out' : List ℕ) → Sizes → ℕ → Type 0
IsSaidTo asked reading out out' sizes result =
    (result ≡ NO_MEMORY)
    ⊎ ((answer : Answer) × IsCommandAnswer asked reading answer × HandsOver out out' sizes (status_of answer) (text_of answer) result)

-- what was read is answered: memory was refused, or a text that is made of it is handed over
abbrev pub IsToldOf : CallRequest → Reading → (out out' : List ℕ) → Sizes → ℕ → Type 0
IsToldOf asked reading out out' sizes result =
    (result ≡ NO_MEMORY)
    ⊎ ((status : ℕ) × (text : List ℕ) × IsMadeOfReading asked reading status text × HandsOver out out' sizes status text result)

-- texts are answered as something that they are read as
abbrev pub IsToldOfTexts : CallRequest → List (List ℕ) → (out out' : List ℕ) → Sizes → ℕ → Type 0
IsToldOfTexts asked texts out out' sizes result =
    (result ≡ NO_MEMORY) ⊎ ((reading : Reading) × IsReadingOf none_without texts reading × IsToldOf asked reading out out' sizes result)

-- and a call, as its options ask
abbrev pub IsToldByCall : Options → List (List ℕ) → (out out' : List ℕ) → Sizes → ℕ → Type 0
IsToldByCall options texts out out' sizes result =
    (asked : CallRequest) × IsAskedBy options asked × IsToldOfTexts asked texts out out' sizes result
