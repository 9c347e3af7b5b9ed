-- Which numbers of options mean something.
use Rattle.std.specs.Prelude.{ℕ, ◌≡◌, Bool, false, true, nat_lt, nat_eq, ◌&&◌, ◌||◌, not}
use Rattle.app_calls.specs.declared.options.CallRequest.{CallRequest}
use Rattle.app_calls.specs.declared.options.ReportFormat.{ReportFormat}
use Rattle.app_calls.specs.declared.options.ReportFormat.TheVariants as F
use Rattle.app_calls.specs.declared.options.Options.{Options}
use Rattle.app_calls.specs.declared.options.CallTask.{CallTask}
use Rattle.app_calls.specs.declared.options.CallTask.TheVariants as T

abbrev pub is_task : ℕ → Bool
is_task n = nat_lt n 3

abbrev pub is_format : ℕ → Bool
is_format n = nat_lt n 4

abbrev pub is_truth : ℕ → Bool
is_truth n = nat_lt n 2

-- Rust code (task 2) is wanted of definitions whose internal extractors are expanded
abbrev pub go_together : Options → Bool
go_together o = not (nat_eq o.task 2) || nat_eq o.expand 1

abbrev pub are_options : Options → Bool
are_options o =
    go_together o
    && (is_task o.task && (is_format o.format && (is_truth o.expand && (is_truth o.exclude_global_allow_pragmas && is_truth o.emit_logging))))

abbrev pub AreOptions : Options → Type 0
AreOptions o = are_options o ≡ true

-- the numbers of tasks, formats and truth values
abbrev pub task_number : CallTask → ℕ
task_number T.Trees = 0
task_number T.Check = 1
task_number T.Code = 2

abbrev pub format_number : ReportFormat → ℕ
format_number F.Text = 0
format_number F.Line = 1
format_number F.Colored = 2
format_number F.Json = 3

abbrev pub truth_number : Bool → ℕ
truth_number false = 0
truth_number true = 1

-- options have the numbers of what is asked
pub record IsAskedBy (options : Options) (asked : CallRequest) : Type 0 where
  pub task : options.task ≡ task_number asked.task
  pub format : options.format ≡ format_number asked.format
  pub expand : options.expand ≡ truth_number asked.expand
  pub exclude_global_allow_pragmas : options.exclude_global_allow_pragmas ≡ truth_number asked.exclude_global_allow_pragmas
  pub emit_logging : options.emit_logging ≡ truth_number asked.emit_logging
