-- What the texts of a call are read as: each has definitions.
use Rattle.std.proofs.Common.{◌≡◌, ℕ, Bool, false, List, refl, ap, ◌∙◌, Result, IfOk}
use Rattle.std.specs.declared.alloc.AllocError.{AllocError}
use Rattle.app_command.specs.declared.reading.Reading.{Reading}
use Rattle.app_words.specs.declared.request.Request.{Request}
use Rattle.app_command.specs.Readings.{has_no_definitions, is_comparison, none_without, IsReadingOf}
use Rattle.app_command.proofs.AllRead.{all_read}
use Rattle.app_calls.specs.declared.options.CallRequest.{CallRequest}
use Rattle.app_calls.specs.declared.options.CallTask.{CallTask}
use Rattle.app_calls.specs.declared.options.CallTask.TheVariants as A
use Rattle.app_calls.specs.Told.{command_task, IsRequestOf}
use Rattle.app_calls.proofs.Telling.{none_is_not_some}

no_comparison : (task : CallTask) → is_comparison (command_task task) ≡ false
no_comparison A.Trees = refl
no_comparison A.Check = refl
no_comparison A.Code = refl

-- so they are read by the request for a call
pub read_for_call : (asked : CallRequest) (request : Request) (texts : List (List ℕ)) (reading : Result Reading AllocError) → IsRequestOf asked request
    → IfOk reading (IsReadingOf (has_no_definitions request) texts) → IfOk reading (IsReadingOf none_without texts)
read_for_call asked request texts reading asks is =
    all_read request texts reading (ap is_comparison asks.task ∙ no_comparison asked.task) (none_is_not_some request.answers asks.answers) is
