-- What `isle rust` prints where its status is 0.
use Rattle.std.specs.Prelude.{◌≡◌, ℕ, false, List, string_bytes}
use Rattle.cranelift_isle.specs.Elaborated.{TypedRules}
use Rattle.cranelift_isle.specs.Layers.{own_program, IsAccepted}
use Rattle.cranelift_isle.specs.Syntax.{Definition}
use Rattle.core_syntax.specs.declared.syntax.Files.{Files}
use Rattle.report_print.specs.PlaceTexts.{texts_of}
use Rattle.rust_text.specs.CodeOfTerms.{IsTextOfProgram}
use Rattle.rust_text.specs.WrittenFunctions.{TextSetting}
use Rattle.app_command.specs.declared.answers.Answer.{Answer}
use Rattle.app_words.specs.declared.request.Request.{Request}
use Rattle.app_words.specs.declared.tasks.Task.TheVariants.{Rust}
use Rattle.app_command.specs.Readings.{has_no_definitions, AreOfTexts}
use Rattle.app_command.specs.TaskAnswers.{IsAnswerToFiles}

-- a text is code of what these texts spell: definitions that are accepted, with one function of each of their terms with rules, whose
-- first lines are the term's signature and whose body is read as code that gives what trying the term's rules by priority gives
pub record IsRustCodeOf (asked : Request) (texts : List (List ℕ)) (text : List ℕ) : Type 0 where
  pub defs : List Definition
  pub rules : TypedRules
  pub setting : TextSetting
  pub spelled : AreOfTexts (has_no_definitions asked) 0 texts defs
  pub accepted : IsAccepted defs asked.expand rules
  pub names : setting.names ≡ rules.names
  pub code : IsTextOfProgram setting (own_program defs rules) text

-- so is standard output where Rust code is wanted and the answer's status is 0
abbrev pub RustCodeIsOfTexts : Type 0
RustCodeIsOfTexts =
    (asked : Request) (files : Files) (answer : Answer) → asked.task ≡ Rust → asked.stubs ≡ false
    → IsAnswerToFiles asked files answer → answer.status ≡ 0 → IsRustCodeOf asked (texts_of files) (string_bytes answer.out)
