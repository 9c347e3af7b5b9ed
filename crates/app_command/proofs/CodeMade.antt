-- What comes of making code.
use Rattle.std.proofs.Common.{◌≡◌, ◌≢◌, [], Bool, Option, Some, None, Result, Ok, Err, IfOk, sym, subst, refl}
use Rattle.std.specs.Prelude.{IfErr, string_bytes, String}
use Rattle.std.proofs.lemmas.Result.{IfOk-weaker}
use Rattle.std.specs.declared.alloc.AllocError.{AllocError}
use Rattle.cranelift_isle.specs.declared.lower.Lowered.{Lowered}
use Rattle.core_syntax.specs.declared.syntax.Files.{Files}
use Rattle.rust_items.specs.Faults.{TellsOf}
use Rattle.rust_items.specs.SourceViews.{sources_view}
use Rattle.rust_items.specs.declared.faults.CodeError.{CodeError}
use Rattle.rust_items.specs.declared.faults.CodeError.TheVariants as E
use Rattle.rust_items.specs.declared.options.CodegenOptions.{CodegenOptions}
use Rattle.rust_text.specs.Settings.{setting_by_options}
use Rattle.rust_text.specs.WholeCode.{IsWholeCode, TellsNames}
use Rattle.app_command.specs.declared.code.Code.{Code}
use Rattle.app_command.specs.declared.code.Code.TheVariants.{Names, Text}
use Rattle.app_command.specs.declared.reading.Reading.{Reading}
use Rattle.app_command.specs.declared.reading.Reading.TheVariants.{Defs, Unread}
use Rattle.app_command.specs.Codes.{AreNames, AreStubs, IsCode, IsCodeOf, IsCodeOfReading}
use Rattle.app_command.specs.Readings.{IsAcceptedReading}

module _ (l : Lowered) (files : Files) (options : CodegenOptions) where
  names_of : (e : CodeError) (code : Code) → TellsOf e (TellsNames l (sources_view files options.prefixes.items)) → AreNames e code → IsCode l files options code
  names_of E.Memory code told named = absurd named
  names_of (E.Names text) (Text made) told named = absurd named
  names_of (E.Names text) (Names why) told named = (string_bytes text, told, named)

  pub code_made : (made : Result _ CodeError) (code : Result Code AllocError)
      → IfOk made (λ text. IsWholeCode l (setting_by_options l files options) options.exclude_global_allow_pragmas (string_bytes text))
      → IfErr made (λ e. TellsOf e (TellsNames l (sources_view files options.prefixes.items)))
      → IfOk made (λ text. code ≡ Ok (Text text)) → IfErr made (λ e. IfOk code (AreNames e)) → IfOk code (IsCode l files options)
  code_made (Ok text) code written wrong made none = subst (λ r. IfOk r (IsCode l files options)) (sym made) written
  code_made (Err e) code written wrong made none = IfOk-weaker code (AreNames e) (IsCode l files options) (λ c named. names_of e c wrong named) none

stub_names : (e : CodeError) (code : Code) → AreNames e code → AreStubs code
stub_names E.Memory code named = absurd named
stub_names (E.Names text) (Text made) named = absurd named
stub_names (E.Names text) (Names why) named = (string_bytes text, named)

pub stubs_made : (made : Result _ CodeError) (code : Result Code AllocError) → IfOk made (λ text. string_bytes text ≢ []) → IfOk made (λ text. code ≡ Ok (Text text)) → IfErr made (λ e. IfOk code (AreNames e)) → IfOk code AreStubs
stubs_made (Ok text) code some made none = subst (λ r. IfOk r AreStubs) (sym made) some
stubs_made (Err e) code some made none = IfOk-weaker code (AreNames e) AreStubs (stub_names e) none

-- what has code, or lacks it for its names, is accepted
accepted_of : (expand : Bool) (reading : Reading) (files : Files) (options : CodegenOptions) (code : Code) → IsCodeOf expand reading files options (Some code) → IsAcceptedReading expand reading
accepted_of expand (Defs defs) files options code made = (made.1.0, made.1.1.accepted)
accepted_of expand (Unread mistakes) files options code made = absurd made

pub accepted_of_code : (expand : Bool) (reading : Reading) (code : Code) → IsCodeOfReading expand reading code → IsAcceptedReading expand reading
accepted_of_code expand reading code made = accepted_of expand reading made.0 made.1.0 code made.1.1

-- and where nothing comes of it, it isn't
pub wrong_of_none : (expand : Bool) (reading : Reading) (files : Files) (options : CodegenOptions) → IsCodeOf expand reading files options None → IsAcceptedReading expand reading → ⊥
wrong_of_none expand (Defs defs) files options none accepted = none accepted
wrong_of_none expand (Unread mistakes) files options none accepted = accepted
