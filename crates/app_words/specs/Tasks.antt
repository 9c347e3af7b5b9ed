-- The words that name what is to be done.
use Rattle.std.specs.Prelude.{ℕ, Bool, true, false, List, Option, codes, find}
use Rattle.std.specs.Str.{bytes_eq}
use Rattle.app_words.specs.declared.tasks.Job.{Job}
use Rattle.app_words.specs.declared.tasks.Job.TheVariants as J
use Rattle.app_words.specs.declared.tasks.Task.{Task}
use Rattle.app_words.specs.declared.tasks.Task.TheVariants as T
use Rattle.app_words.specs.declared.tasks.TheConstants.{JOBS}

abbrev pub task_word : Task → List ℕ
task_word T.Lower = codes "lower"
task_word T.Rust = codes "rust"
task_word T.Check = codes "check"
task_word T.Explain = codes "explain"
task_word T.Stats = codes "stats"
task_word T.Compare = codes "compare"
task_word T.Diff = codes "diff"
task_word T.Print = codes "print"
task_word T.Samples = codes "samples"
task_word T.Run = codes "run"
task_word T.Why = codes "why"

-- whether it is about a rule, which its first word names
abbrev pub has_rule : Task → Bool
has_rule T.Explain = true
has_rule T.Why = true
has_rule _ = false

abbrev pub job_word : Job → List ℕ
job_word (J.Task task) = task_word task
job_word J.Formatting = codes "fmt"
job_word J.Conditions = codes "conditions"
job_word J.Server = codes "lsp"

-- what a word names
unfoldable pub job_named : List ℕ → Option Job
job_named word = find (λ job. bytes_eq (job_word job) word) JOBS

abbrev pub is_task : Job → Bool
is_task (J.Task task) = true
is_task _ = false

-- whether it is about a call, whose words stand behind `--`
abbrev pub has_call : Job → Bool
has_call (J.Task T.Run) = true
has_call (J.Task T.Why) = true
has_call _ = false
