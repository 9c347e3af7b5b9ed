-- Standard output is code of what the texts spell.
use Rattle.std.proofs.Common.{◌≡◌, ◌∙◌, ℕ, Bool, true, false, List, inl, inr, refl, sym, subst, arith}
use Rattle.std.specs.Prelude.{string_bytes}
use Rattle.cranelift_isle.specs.SyntaxViews.{definition_views}
use Rattle.cranelift_isle.specs.declared.lower.Lowered.{Lowered}
use Rattle.cranelift_isle.specs.Lowerings.{IsLowered}
use Rattle.core_syntax.specs.declared.syntax.Files.{Files}
use Rattle.report_print.specs.PlaceTexts.{texts_of}
use Rattle.rust_items.specs.declared.options.CodegenOptions.{CodegenOptions}
use Rattle.rust_text.specs.CodeOfTerms.{EachTermIsInItsCode, IsTextOfProgram}
use Rattle.rust_text.specs.Settings.{setting_by_options}
use Rattle.app_command.specs.declared.answers.Answer.{Answer}
use Rattle.app_command.specs.declared.code.Code.{Code}
use Rattle.app_command.specs.declared.code.Code.TheVariants.{Names, Text}
use Rattle.app_command.specs.declared.reading.Reading.{Reading}
use Rattle.app_command.specs.declared.reading.Reading.TheVariants.{Defs, Unread}
use Rattle.app_words.specs.declared.request.Request.{Request}
use Rattle.app_words.specs.declared.tasks.Task.{Task}
use Rattle.app_words.specs.declared.tasks.Task.TheVariants as T
use Rattle.app_command.specs.Codes.{IsAnswerOfCode, IsCode, IsCodeOrStubs}
use Rattle.app_command.specs.Readings.{has_no_definitions, IsReadingOf}
use Rattle.app_command.specs.RustCode.{IsRustCodeOf, RustCodeIsOfTexts}
use Rattle.app_command.specs.TaskAnswers.{IsAnswerBy, IsAnswerToReading}

module _ (each : EachTermIsInItsCode) (asked : Request) (files : Files) (answer : Answer) (done : answer.status ≡ 0) where
  of_code : (defs : _) (l : Lowered) (code : Code) → IsReadingOf (has_no_definitions asked) (texts_of files) (Defs defs) → IsLowered (definition_views defs.items) asked.expand l
      → IsCode l files asked.code code → IsAnswerOfCode code answer → IsRustCodeOf asked (texts_of files) (string_bytes answer.out)
  of_code defs l (Text text) read lowered code said = record {
    defs = definition_views defs.items;
    rules = lowered.0;
    setting = setting_by_options l files asked.code;
    spelled = read.0;
    accepted = lowered.1.accepted;
    names = lowered.1.environments.types.names;
    code = subst (IsTextOfProgram (setting_by_options l files asked.code) _) (sym said.1)
        (each l (setting_by_options l files asked.code) asked.code.exclude_global_allow_pragmas (string_bytes text) code (definition_views defs.items) asked.expand lowered.0 lowered.1);
  }
  of_code defs l (Names why) read lowered code said = absurd (omega (arith, done, said.0))

  of_reading : asked.task ≡ T.Rust → asked.stubs ≡ false → (reading : Reading) → IsReadingOf (has_no_definitions asked) (texts_of files) reading → IsAnswerToReading asked files reading answer
      → IsRustCodeOf asked (texts_of files) (string_bytes answer.out)
  of_reading task stubs (Defs defs) read (inl lowered) =
      let by = subst (λ t. IsAnswerBy t asked files lowered.0 answer) task lowered.2 in
      of_code defs lowered.0 by.0 read lowered.1 (subst (λ b. IsCodeOrStubs b lowered.0 files asked.code by.0) stubs by.1) by.2
  of_reading task stubs (Defs defs) read (inr refused) = absurd (omega (arith, done, refused.1.0))
  of_reading task stubs (Unread mistakes) read refused = absurd (omega (arith, done, refused.0.0))

other_task : (task : Task) → task ≡ T.Rust → task ≡ T.Diff → ⊥
other_task task a b = cc

printing : (task : Task) → task ≡ T.Rust → task ≡ T.Print → ⊥
printing task a b = cc

pub rust_code_is_of_texts_lem : EachTermIsInItsCode → RustCodeIsOfTexts
rust_code_is_of_texts_lem each asked files answer task stubs (inl one) done = of_reading each asked files answer done task stubs one.2.0 one.2.1 one.2.2
rust_code_is_of_texts_lem each asked files answer task stubs (inr (inl two)) done = absurd (other_task asked.task task two.0)
rust_code_is_of_texts_lem each asked files answer task stubs (inr (inr text)) done = absurd (printing asked.task task text.0)
