-- Why words ask nothing, and what is told of it.
use Rattle.std.specs.Prelude.{ℕ, ◌≡◌, ⊤, ◌++◌, List, codes, string_bytes, Option, None, Some, Result, Ok, Err}
use Rattle.std.specs.List.{join_by}
use Rattle.report_warnings.specs.Kinds.{kind_name}
use Rattle.report_warnings.specs.declared.kinds.TheConstants.{WARNINGS}
use Rattle.app_words.specs.declared.tasks.Job.{Job}
use Rattle.app_words.specs.declared.tasks.Task.{Task}
use Rattle.app_words.specs.declared.tasks.Task.TheVariants as T
use Rattle.app_words.specs.declared.unasked.Unasked.{Unasked}
use Rattle.app_words.specs.declared.unasked.Unasked.TheVariants as U
use Rattle.app_words.specs.Tasks.{job_word, task_word}

pub data Refusal : Type 0 where
  -- the first word is missing, empty, or names nothing
  no_task : Refusal
  no_task_called : (word : List ℕ) → Refusal
  -- an option that there isn't, or that this has not
  no_option : (word : List ℕ) → Refusal
  has_no_option : (job : Job) (word : List ℕ) → Refusal
  given_twice : (option : List ℕ) → Refusal
  nothing_after : (word : List ℕ) → Refusal
  -- a value that an option doesn't take
  no_format : (value : List ℕ) → Refusal
  has_no_format : (task : Task) (value : List ℕ) → Refusal
  only_json : (value : List ℕ) → Refusal
  no_color : (value : List ℕ) → Refusal
  no_renaming : (value : List ℕ) → Refusal
  no_warning : (name : List ℕ) → Refusal
  no_columns : (value : List ℕ) → Refusal
  -- a file's name, or a sample's
  no_name : Refusal
  no_sample : (word : List ℕ) → Refusal
  line_break : Refusal
  file_twice : (word : List ℕ) → Refusal
  takes_no_file : Refusal
  -- `--` where it isn't wanted
  no_call_of : (task : Task) → Refusal
  no_old_version : Refusal
  more_versions : Refusal
  -- what isn't there when all words are read
  no_rule : (task : Task) → Refusal
  second_sample : Refusal
  no_file : Refusal
  no_trees : Refusal
  no_new_version : Refusal
  no_call : Refusal

-- a word in quotes between others
abbrev pub quoting : List ℕ → List ℕ → List ℕ → List ℕ
quoting before word behind = before ++ (word ++ behind)

abbrev pub rule_missing : Task → List ℕ
rule_missing T.Why = codes "no rule to ask about"
rule_missing _ = codes "no rule to explain"

-- what is told
abbrev pub text_of : Refusal → List ℕ
text_of no_task = codes "no task"
text_of (no_task_called word) = quoting (codes "no task is called '") word (codes "'")
text_of (no_option word) = quoting (codes "no option is called '") word (codes "'")
text_of (has_no_option job word) = job_word job ++ quoting (codes " has no option '") word (codes "'")
text_of (given_twice option) = quoting (codes "the option '") option (codes "' is given twice")
text_of (nothing_after word) = quoting (codes "nothing after '") word (codes "'")
text_of (no_format value) = quoting (codes "no format is called '") value (codes "'")
text_of (has_no_format task value) = task_word task ++ (codes " has no format " ++ value)
text_of (only_json value) = quoting (codes "conditions has no format '") value (codes "', but json")
text_of (no_color value) = quoting (codes "--color is always, never or auto, not '") value (codes "'")
text_of (no_renaming value) = quoting (codes "--prefix is FROM=TO, not '") value (codes "'")
text_of (no_warning name) =
    quoting (codes "no warning is called '") name (codes "'. The warnings are " ++ join_by kind_name (codes ", ") WARNINGS)
text_of (no_columns value) = quoting (codes "--indent is 2, not '") value (codes "'")
text_of no_name = codes "a file without a name"
text_of (no_sample word) = quoting (codes "no sample is called '") word (codes "'")
text_of line_break = codes "the name of a file has a line break"
text_of (file_twice word) = quoting (codes "the file '") word (codes "' is given twice")
text_of takes_no_file = codes "lsp takes no file"
text_of (no_call_of task) = task_word task ++ codes " runs no call"
text_of no_old_version = codes "no old version before '--'"
text_of more_versions = codes "more than two versions"
text_of (no_rule task) = rule_missing task
text_of second_sample = codes "more than one sample"
text_of no_file = codes "no file"
text_of no_trees = codes "no trees to compare"
text_of no_new_version = codes "no new version after the files, such as -- new.isle"
text_of no_call = codes "no call after the files, such as -- f 1 2"

-- what is told is this text, unless memory was refused
abbrev pub Tells : List ℕ → Unasked → Type 0
Tells text U.Memory = ⊤
Tells text (U.Words why) = string_bytes why ≡ text

-- something is told exactly where there is a reason, and it is what is told of that; or memory was refused
abbrev pub TellsOf : Option Refusal → Unasked → Type 0
TellsOf reason U.Memory = ⊤
TellsOf None (U.Words why) = ⊥
TellsOf (Some refusal) (U.Words why) = string_bytes why ≡ text_of refusal

abbrev pub IsRightUnless : {X : Type 0} → Option Refusal → Result X Unasked → Type 0
IsRightUnless reason (Ok x) = reason ≡ None
IsRightUnless reason (Err why) = TellsOf reason why
