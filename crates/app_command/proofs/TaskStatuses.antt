-- What the status of an answer says, and what lowered definitions are answered.
use Rattle.std.proofs.Common.{◌≡◌, ◌≢◌, ◌≤◌, ◌⊎◌, ℕ, Bool, true, false, List, Option, Some, None, is_some, option_map, inl, inr, refl, arith, Bor, Result, Ok, Err, IfOk, MatchResult}
use Rattle.std.specs.Prelude.{string_bytes}
use Rattle.cranelift_isle.specs.Syntax.{Definition}
use Rattle.cranelift_isle.specs.declared.lower.Lowered.{Lowered}
use Rattle.cranelift_isle.specs.Lowerings.{IsLowered}
use Rattle.core_syntax.specs.declared.syntax.Files.{Files}
use Rattle.report_print.specs.PlaceTexts.{texts_of}
use Rattle.text_writer.specs.Contents.{contents_of_texts, TextContents}
use Rattle.app_command.specs.declared.answers.Answer.{Answer}
use Rattle.app_command.specs.declared.code.Code.{Code}
use Rattle.app_command.specs.declared.code.Code.TheVariants.{Names, Text}
use Rattle.app_command.specs.declared.output.Ending.{Ending}
use Rattle.app_command.specs.declared.progress.Unanswered.{Unanswered}
use Rattle.app_command.specs.declared.reading.Reading.{Reading}
use Rattle.app_command.specs.declared.reading.Reading.TheVariants.{Defs, Unread}
use Rattle.app_words.specs.declared.request.Request.{Request}
use Rattle.app_words.specs.declared.tasks.Task.{Task}
use Rattle.app_words.specs.declared.tasks.Task.TheVariants as T
use Rattle.app_command.specs.Codes.{IsAnswerOfCode}
use Rattle.app_command.specs.Outputs.{IsNothingWritten, IsWrittenOut}
use Rattle.app_command.specs.TaskAnswers.{IsAnswerBy, IsAnswerToBoth, IsAnswerToDefinitions, IsAnswerToFiles, IsAnswerToReading, IsPrintOfContents}
use Rattle.app_command.specs.Statuses.{may_fail, IsEndingFor, IsStatusOfReading}
use Rattle.app_command.specs.WantedTerms.{missing_name}

-- code is answered with the status 0, and that there is none with the status 1
status_of_code : (code : Code) (answer : Answer) → IsAnswerOfCode code answer → (answer.status ≡ 0) ⊎ ((answer.status ≡ 1) × (true ≡ true))
status_of_code (Text text) answer done = inl done.0
status_of_code (Names why) answer failed = inr (failed.0, refl)

-- a name that no term has is asked for by name
named_where_missing : (terms : Option (Bor (List ℕ))) (l : Lowered) → missing_name (option_map (λ names. names.now) terms) l ≢ None → is_some terms ≡ true
named_where_missing None l missing = absurd (missing refl)
named_where_missing (Some names) l missing = refl

-- what a task answers has the status 1 only where it may fail
pub status_of_task : (task : Task) (asked : Request) (files : Files) (l : Lowered) (answer : Answer)
    → IsAnswerBy task asked files l answer → (answer.status ≡ 0) ⊎ ((answer.status ≡ 1) × (may_fail task asked ≡ true))
status_of_task T.Lower asked files l answer (inl done) = inl done.1.0
status_of_task T.Lower asked files l answer (inr failed) = inr (failed.1.0, named_where_missing asked.terms l failed.0)
status_of_task T.Rust asked files l answer told = status_of_code told.0 answer told.2
status_of_task T.Check asked files l answer told = elim told.1 [ inl none ↦ inl none.0 | inr denied ↦ inr (denied.1, denied.0) ]
status_of_task T.Explain asked files l answer (inl done) = inl done.0.0
status_of_task T.Explain asked files l answer (inr failed) = inr (failed.0, refl)
status_of_task T.Stats asked files l answer done = inl done.0.0
status_of_task T.Compare asked files l answer (inl (known, inl same)) = inl same.1.0.0
status_of_task T.Compare asked files l answer (inl (known, inr different)) = inr (different.1.0, refl)
status_of_task T.Compare asked files l answer (inr failed) = inr (failed.1.0, refl)
status_of_task T.Diff asked files l answer done = inl done.0.0
status_of_task T.Print asked files l answer done = inl done.0.0
status_of_task T.Samples asked files l answer done = inl done.0.0
status_of_task T.Run asked files l answer (inl done) = inl done.0.0
status_of_task T.Run asked files l answer (inr failed) = inr (failed.0, refl)
status_of_task T.Why asked files l answer (inl done) = inl done.0.0
status_of_task T.Why asked files l answer (inr failed) = inr (failed.0, refl)

-- a status that is 0 or 1 is at most 1
at_most_one : (status : ℕ) (P : Type 0) → (status ≡ 0) ⊎ ((status ≡ 1) × P) → status ≤ 1
at_most_one status P (inl e) = omega (arith, e)
at_most_one status P (inr e) = omega (arith, e.0)

-- and 1 only where it may be
may_be_one : (status : ℕ) (b : Bool) → (status ≡ 0) ⊎ ((status ≡ 1) × (b ≡ true)) → status ≡ 1 → b ≡ false → ⊥
may_be_one status b (inl e) one not = omega (arith, e, one)
may_be_one status b (inr e) one not = cc

-- the status says whether the definitions are accepted
pub status_of_answer : (asked : Request) (files : Files) (reading : Reading) (answer : Answer)
    → IsAnswerToReading asked files reading answer → IsStatusOfReading asked reading answer.status
status_of_answer asked files (Defs defs) answer (inl accepted) =
    let status = status_of_task asked.task asked files accepted.0 answer accepted.2 in
    record {
      known = at_most_one answer.status _ status;
      done = λ _. (accepted.1.0, accepted.1.1.accepted);
      refused = λ one not _. may_be_one answer.status _ status one not;
    }
status_of_answer asked files (Defs defs) answer (inr refused) =
    record {
      known = omega (arith, refused.1.0);
      done = λ none. absurd (omega (arith, refused.1.0, none));
      refused = λ _ _. refused.0;
    }
status_of_answer asked files (Unread mistakes) answer refused =
    record {
      known = omega (arith, refused.0.0);
      done = λ none. absurd (omega (arith, refused.0.0, none));
      refused = λ _ _ h. h;
    }

-- lowered definitions are answered
pub answer_of_lowered : (defs : List Definition) (asked : Request) (files : Files) (l : Lowered) (answer : Answer)
    → IsLowered defs asked.expand l → IsAnswerBy asked.task asked files l answer → IsAnswerToDefinitions defs asked files answer
answer_of_lowered defs asked files l answer lowered by = inl (l, lowered, by)

-- what two versions are answered has the status 0 or 1
status_of_both : (Old New : Type 0) (asked : Request) (answer : Answer) → IsAnswerToBoth Old New asked answer → answer.status ≤ 1
status_of_both Old New asked answer (inl (old, new, inl done)) = let e = done.0.0 in omega (arith, e)
status_of_both Old New asked answer (inl (old, new, inr different)) = let e = different.0 in omega (arith, e)
status_of_both Old New asked answer (inr refused) = let e = refused.1.0 in omega (arith, e)

-- and so has what is printed
status_of_print : (contents : TextContents) (asked : Request) (answer : Answer) → IsPrintOfContents contents asked answer → answer.status ≤ 1
status_of_print contents asked answer (inl done) = let e = done.0.0 in omega (arith, e)
status_of_print contents asked answer (inr refused) = let e = refused.1.0 in omega (arith, e)

-- and so has what files are answered
status_of_files : (asked : Request) (files : Files) (answer : Answer) → IsAnswerToFiles asked files answer → answer.status ≤ 1
status_of_files asked files answer (inl one) = (status_of_answer asked files one.2.0 answer one.2.2).known
status_of_files asked files answer (inr (inl two)) = status_of_both _ _ asked answer two.1.4
status_of_files asked files answer (inr (inr text)) = status_of_print (contents_of_texts 0 (texts_of files)) asked answer text.1

-- an answer to files that is written, or isn't made
module _ (asked : Request) (files : Files) (old new : Option (List ℕ)) (ending : Ending) where
  abbrev IsWritten : Result Answer Unanswered → Type 0
  IsWritten answer = MatchResult answer (λ a. IsWrittenOut old new (string_bytes a.out) a.status ending) (λ _. IsNothingWritten old new 3 ending)

  pub ending_written : (answer : Result Answer Unanswered) → IfOk answer (IsAnswerToFiles asked files) → IsWritten answer → IsEndingFor asked files old new ending
  ending_written (Ok answer) of written = inr (answer, of, written)
  ending_written (Err e) of refused = inl refused

  -- its status is never 2, and never greater than 4
  pub status_written : (answer : Result Answer Unanswered) → IfOk answer (IsAnswerToFiles asked files) → IsWritten answer → (ending.status ≤ 4) × (ending.status ≢ 2)
  status_written (Ok answer) of (inl whole) =
      let low = status_of_files asked files answer of in
      let same = whole.0 in
      (omega (arith, same, low), λ two. omega (arith, same, low, two))
  status_written (Ok answer) of (inr (some, inl cut)) =
      let low = status_of_files asked files answer of in
      let same = cut.0 in
      (omega (arith, same, low), λ two. omega (arith, same, low, two))
  status_written (Ok answer) of (inr (some, inr failed)) = let e = failed.0 in (omega (arith, e), λ two. omega (arith, e, two))
  status_written (Err e) of refused = let e = refused.0 in (omega (arith, e), λ two. omega (arith, e, two))
