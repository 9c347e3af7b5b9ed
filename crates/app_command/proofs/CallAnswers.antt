-- What is told of a call is what is answered.
use Rattle.std.proofs.Common.{◌≢◌, ◌⊎◌, inl, inr, List, ℕ, [], ◌∷◌, ◌++◌, ◌∙◌, sym, string_bytes}
use Rattle.cranelift_isle.specs.declared.lower.Lowered.{Lowered}
use Rattle.core_syntax.specs.declared.syntax.Files.{Files}
use Rattle.app_command.specs.declared.answers.Answer.{Answer}
use Rattle.app_command.specs.declared.calls.Told.{Told}
use Rattle.app_command.specs.declared.calls.Told.TheVariants.{Text, Wrong}
use Rattle.app_words.specs.declared.request.Request.{Request}
use Rattle.app_words.specs.declared.tasks.Task.TheVariants.{Run}
use Rattle.app_command.specs.CallTexts.{IsToldOfRun}
use Rattle.app_command.specs.TaskAnswers.{IsAnswerBy, IsAnswerOfTold, IsDoneWithText, IsFailed}

pub run_answered_lem : (asked : Request) (files : Files) (l : Lowered) (told : Told) (a : Answer) → IsToldOfRun asked l told → IsAnswerOfTold told a → IsAnswerBy Run asked files l a
run_answered_lem asked files l (Text text) a is made = inl (made.0, (string_bytes text, is, made.1))
run_answered_lem asked files l (Wrong why) a is made = inr made

-- a line isn't empty
some_line : (text : List ℕ) → text ++ (10 ∷ []) ≢ []
some_line [] none = absurd (cc none)
some_line (b ∷ text) none = absurd (cc none)

pub why_answered_lem : (told : Told) (a : Answer) → IsAnswerOfTold told a → IsDoneWithText a ⊎ IsFailed a
why_answered_lem (Text text) a made = inl (made.0, λ none. some_line (string_bytes text) (sym made.1 ∙ none))
why_answered_lem (Wrong why) a made = inr made
