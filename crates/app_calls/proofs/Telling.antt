-- What a status and a text that are handed over say of what was read.
use Rattle.std.proofs.Common.{◌≡◌, ◌≤◌, ◌⊎◌, ℕ, Bool, true, false, List, [], Option, Some, None, inl, inr, refl, sym, ap, ◌∙◌, ◌||◌, subst, arith, is_none, is_some, nat_eq, if◌then◌else◌, Result, Ok, Err, IfOk}
use Rattle.std.proofs.lemmas.Bool.{eqb-false, eqb-true}
use Rattle.std.specs.Prelude.{string_bytes}
use Rattle.std.specs.declared.alloc.AllocError.{AllocError}
use Rattle.core_syntax.specs.declared.syntax.Files.{Files}
use Rattle.app_command.specs.declared.answers.Answer.{Answer}
use Rattle.app_command.specs.declared.reading.Reading.{Reading}
use Rattle.app_words.specs.declared.request.Request.{Request}
use Rattle.app_command.specs.declared.code.Code.{Code}
use Rattle.app_command.specs.declared.code.Code.TheVariants.{Names, Text}
use Rattle.app_command.specs.Codes.{IsCodeOfReading}
use Rattle.app_command.proofs.CodeMade.{accepted_of_code}
use Rattle.app_command.specs.Readings.{IsAcceptedReading}
use Rattle.app_command.specs.Statuses.{may_fail, IsStatusOfReading}
use Rattle.app_command.specs.TaskAnswers.{denies, has_one, IsAnswerToReading}
use Rattle.app_calls.specs.declared.options.CallRequest.{CallRequest}
use Rattle.app_calls.specs.declared.options.CallTask.{CallTask}
use Rattle.app_calls.specs.declared.options.CallTask.TheVariants as A
use Rattle.app_calls.specs.declared.output.Sizes.{Sizes}
use Rattle.app_calls.specs.declared.statuses.TheConstants.{DONE, ERRORS, NO_CODE}
use Rattle.app_calls.specs.Told.{command_task, status_of, text_of, HandsOver, IsCommandAnswer, IsRequestOf, IsSaidTo, IsTextOf, IsTextOfCode, IsToldOf, StatusSays}

-- an answer of the command to a request for a call
pub command_answer : (asked : CallRequest) (reading : Reading) (request : Request) (files : Files) (answer : Result Answer AllocError)
    → IsRequestOf asked request → IfOk answer (IsAnswerToReading request files reading)
    → IfOk answer (λ a. IsStatusOfReading request reading a.status) → IfOk answer (IsCommandAnswer asked reading)
command_answer asked reading request files (Ok answer) asks answers says =
    record { request = request; files = files; asks = asks; answers = answers; says = says }
command_answer asked reading request files (Err e) asks answers says = tt

pub none_is_not_some : {T : Type 0} (o : Option T) → is_none o ≡ true → is_some o ≡ false
none_is_not_some None e = refl
none_is_not_some (Some x) e = cc

-- no warnings are denied
denies_none : (request : Request) → request.deny ≡ false → request.denied.items ≡ [] → denies request ≡ false
denies_none request deny denied = ap (λ b. b || has_one request.denied.items) deny ∙ ap has_one denied

-- a task of a call can't fail by itself
cannot_fail : (task : CallTask) (request : Request) → request.task ≡ command_task task → denies request ≡ false → is_none request.terms ≡ true
    → may_fail request.task request ≡ false
cannot_fail A.Trees request e deny terms = subst (λ t. may_fail t request ≡ false) (sym e) (none_is_not_some request.terms terms)
cannot_fail A.Check request e deny terms = subst (λ t. may_fail t request ≡ false) (sym e) deny
cannot_fail A.Code request e deny terms = subst (λ t. may_fail t request ≡ false) (sym e) deny

-- DONE is the status of 0 alone, ERRORS of no 0, and NO_CODE of none
true_if_done : (b : Bool) → (if b then DONE else ERRORS) ≡ DONE → b ≡ true
true_if_done true e = refl
true_if_done false e = absurd (omega (arith, e))

false_if_errors : (b : Bool) → (if b then DONE else ERRORS) ≡ ERRORS → b ≡ false
false_if_errors true e = absurd (omega (arith, e))
false_if_errors false e = refl

never_no_code : (b : Bool) → (if b then DONE else ERRORS) ≡ NO_CODE → ⊥
never_no_code true e = omega (arith, e)
never_no_code false e = omega (arith, e)

none_if_done : (s : ℕ) → (if nat_eq s 0 then DONE else ERRORS) ≡ DONE → s ≡ 0
none_if_done s e = eqb-true s 0 (true_if_done (nat_eq s 0) e)

one_if_errors : (s : ℕ) → s ≤ 1 → (if nat_eq s 0 then DONE else ERRORS) ≡ ERRORS → s ≡ 1
one_if_errors s most e =
    let some : s ≡ 0 → ⊥ = eqb-false s 0 (false_if_errors (nat_eq s 0) e) in
    omega (arith, most, some)

-- so the status of an answer of the command says what a status says
pub says_of_command : (asked : CallRequest) (reading : Reading) (answer : Answer)
    → IsCommandAnswer asked reading answer → StatusSays asked reading (status_of answer)
says_of_command asked reading answer h =
    record {
      done = λ e. subst (λ x. IsAcceptedReading x reading) h.asks.expand (h.says.done (none_if_done answer.status e));
      errors = λ e accepted.
          h.says.refused (one_if_errors answer.status h.says.known e)
          (cannot_fail asked.task h.request h.asks.task (denies_none h.request h.asks.deny h.asks.denied) h.asks.terms)
          (subst (λ x. IsAcceptedReading x reading) (sym h.asks.expand) accepted);
      no_code = λ e. absurd (never_no_code (nat_eq answer.status 0) e);
    }

-- what comes of Rust code that is made
pub says_done : (asked : CallRequest) (reading : Reading) → IsAcceptedReading asked.expand reading → StatusSays asked reading DONE
says_done asked reading accepted =
    record { done = λ _. accepted; errors = λ e _. omega (arith, e); no_code = λ e. absurd (omega (arith, e)) }

-- and of names that would be one
pub says_no_code : (asked : CallRequest) (reading : Reading) → asked.task ≡ A.Code → IsAcceptedReading asked.expand reading → StatusSays asked reading NO_CODE
says_no_code asked reading code accepted =
    record { done = λ _. accepted; errors = λ e _. omega (arith, e); no_code = λ _. (accepted, code) }

-- the text of an answer of the command, where no Rust code is wanted
text_of_said : (task : CallTask) (asked : CallRequest) (reading : Reading) (answer : Answer)
    → (task ≡ A.Code → ⊥) → IsCommandAnswer asked reading answer → IsTextOf task asked reading (status_of answer) (text_of answer)
text_of_said A.Trees asked reading answer other h = (answer, h, refl, refl)
text_of_said A.Check asked reading answer other h = (answer, h, refl, refl)
text_of_said A.Code asked reading answer other h = absurd (other refl)

-- trees are no code, nor are warnings
pub is_no_code : (task : CallTask) → (task ≡ A.Trees) ⊎ (task ≡ A.Check) → task ≡ A.Code → ⊥
is_no_code task (inl e) f = cc
is_no_code task (inr e) f = cc

module _ (asked : CallRequest) (reading : Reading) (out out' : List ℕ) (sizes : Sizes) (result : ℕ) where
  -- what the command says is told
  pub told_of_said : (asked.task ≡ A.Code → ⊥) → IsSaidTo asked reading out out' sizes result → IsToldOf asked reading out out' sizes result
  told_of_said other (inl refused) = inl refused
  told_of_said other (inr said) =
      inr (status_of said.0, text_of said.0, (says_of_command asked reading said.0 said.1, text_of_said asked.task asked reading said.0 other said.1), said.2)

  -- and where Rust code is wanted and something is wrong too
  pub told_of_wrong : asked.task ≡ A.Code → (IsAcceptedReading asked.expand reading → ⊥) → IsSaidTo asked reading out out' sizes result
      → IsToldOf asked reading out out' sizes result
  told_of_wrong code wrong (inl refused) = inl refused
  told_of_wrong code wrong (inr said) =
      inr (
        status_of said.0,
        text_of said.0,
        (
          says_of_command asked reading said.0 said.1,
          subst (λ t. IsTextOf t asked reading (status_of said.0) (text_of said.0)) (sym code) (inl (wrong, (said.0, said.1, refl, refl))),
        ),
        said.2,
      )

  -- Rust code is told
  pub told_of_code : (code : Code) (text : _) → asked.task ≡ A.Code → IsCodeOfReading asked.expand reading code → code ≡ Text text
      → HandsOver out out' sizes DONE (string_bytes text) result → IsToldOf asked reading out out' sizes result
  told_of_code code text task made is hands =
      inr (
        DONE,
        string_bytes text,
        (
          says_done asked reading (accepted_of_code asked.expand reading code made),
          subst (λ t. IsTextOf t asked reading DONE (string_bytes text)) (sym task)
              (inr (code, made, subst (λ c. IsTextOfCode c DONE (string_bytes text)) (sym is) (refl, refl))),
        ),
        hands,
      )

  -- and that there is none
  pub told_of_names : (code : Code) (why : _) → asked.task ≡ A.Code → IsCodeOfReading asked.expand reading code → code ≡ Names why
      → HandsOver out out' sizes NO_CODE (string_bytes why) result → IsToldOf asked reading out out' sizes result
  told_of_names code why task made is hands =
      inr (
        NO_CODE,
        string_bytes why,
        (
          says_no_code asked reading task (accepted_of_code asked.expand reading code made),
          subst (λ t. IsTextOf t asked reading NO_CODE (string_bytes why)) (sym task)
              (inr (code, made, subst (λ c. IsTextOfCode c NO_CODE (string_bytes why)) (sym is) (refl, refl))),
        ),
        hands,
      )
