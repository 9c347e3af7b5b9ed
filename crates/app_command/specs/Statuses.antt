-- What the command's statuses say, and what is written with them.
use Rattle.std.specs.Prelude.{ℕ, ◌≡◌, ◌≤◌, ◌⊎◌, Bool, true, false, List, Option, is_some, string_bytes}
use Rattle.core_syntax.specs.declared.syntax.Files.{Files}
use Rattle.app_command.specs.declared.answers.Answer.{Answer}
use Rattle.app_command.specs.declared.inputs.Unread as U
use Rattle.app_command.specs.declared.inputs.Unread.TheVariants as V
use Rattle.app_command.specs.declared.output.Ending.{Ending}
use Rattle.app_command.specs.declared.reading.Reading.{Reading}
use Rattle.app_words.specs.declared.request.Request.{Request}
use Rattle.app_words.specs.declared.tasks.Task.{Task}
use Rattle.app_words.specs.declared.tasks.Task.TheVariants as T
use Rattle.app_command.specs.Outputs.{IsNothingWritten, IsWrittenOut}
use Rattle.app_command.specs.Readings.{IsAcceptedReading}
use Rattle.app_command.specs.TaskAnswers.{denies, IsAnswerToFiles}

-- whether a task may fail on accepted definitions
abbrev pub may_fail : Task → Request → Bool
may_fail T.Lower asked = is_some asked.terms
may_fail T.Rust asked = true
may_fail T.Check asked = denies asked
may_fail T.Explain asked = true
may_fail T.Stats asked = false
may_fail T.Compare asked = true
may_fail T.Diff asked = false
may_fail T.Print asked = false
may_fail T.Samples asked = false
may_fail T.Run asked = true
may_fail T.Why asked = true

-- an answer's status is 0 only for texts that are accepted, and 1 only for others, unless the task may fail by itself
pub record IsStatusOfReading (asked : Request) (reading : Reading) (status : ℕ) : Type 0 where
  pub known : status ≤ 1
  pub done : status ≡ 0 → IsAcceptedReading asked.expand reading
  pub refused : status ≡ 1 → may_fail asked.task asked ≡ false → IsAcceptedReading asked.expand reading → ⊥

-- the status where files can't be read: 3 for refused memory, 1 for a text that isn't UTF-8, 4 for any other reason; and 3 where
-- memory is refused to what says so
abbrev pub IsStatusOfUnread : U.Unread → ℕ → Type 0
IsStatusOfUnread V.Memory status = status ≡ 3
IsStatusOfUnread (V.Text name) status = (status ≡ 1) ⊎ (status ≡ 3)
IsStatusOfUnread (V.File name) status = (status ≡ 4) ⊎ (status ≡ 3)

-- files are answered: an answer to them is written; or memory was refused, or a rule takes more stack than there is, and nothing is
-- written
abbrev pub IsEndingFor : Request → Files → (old new : Option (List ℕ)) → Ending → Type 0
IsEndingFor asked files old new ending =
    IsNothingWritten old new 3 ending
    ⊎ ((answer : Answer) × IsAnswerToFiles asked files answer × IsWrittenOut old new (string_bytes answer.out) answer.status ending)

-- what is asked of files is done: they can't be read, and nothing is written, or they are answered
abbrev pub IsEndingOf : Request → (old new : Option (List ℕ)) → Ending → Type 0
IsEndingOf asked old new ending =
    ((why : U.Unread) × ((status : ℕ) × IsStatusOfUnread why status × IsNothingWritten old new status ending))
    ⊎ ((files : Files) × IsEndingFor asked files old new ending)
