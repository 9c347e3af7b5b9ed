-- What is wrong with an item behind others, and with all of them.
use Rattle.std.specs.Prelude.{ℕ, ◌==◌, ◌-◌, ◌&&◌, ◌||◌, ◌++◌, Bool, true, false, List, [], ◌∷◌, Option, Some, None, codes, length, not, if◌then◌else◌}
use Rattle.std.specs.List.{list_any}
use Rattle.std.specs.Option.{option_or}
use Rattle.std.specs.Str.{bytes_eq}
use Rattle.report_queries.specs.Samples.{is_sample}
use Rattle.app_words.specs.declared.items.Item.{Item}
use Rattle.app_words.specs.declared.items.Item.TheVariants as I
use Rattle.app_words.specs.declared.options.Takes.{Takes}
use Rattle.app_words.specs.declared.options.Takes.TheVariants as K
use Rattle.app_words.specs.declared.options.TaskOption.{TaskOption}
use Rattle.app_words.specs.declared.tasks.Job.{Job}
use Rattle.app_words.specs.declared.tasks.Job.TheVariants as J
use Rattle.app_words.specs.declared.tasks.Task.{Task}
use Rattle.app_words.specs.declared.tasks.Task.TheVariants as T
use Rattle.app_words.specs.Items.{files_of, has_file, is_option, is_separator, name_in, newest}
use Rattle.app_words.specs.Options.{is_option_of_tasks, takes_next}
use Rattle.app_words.specs.Refusals as R
use Rattle.app_words.specs.Refusals.{Refusal}
use Rattle.app_words.specs.Values.{wrong_value}

-- there is no such option
abbrev pub unknown : Job → List ℕ → Refusal
unknown (J.Task task) word = R.no_option word
unknown job word = R.has_no_option job word

-- this task has no such option
abbrev pub foreign : Job → List ℕ → Refusal
foreign job word = if is_option_of_tasks (name_in word) then R.has_no_option job word else unknown job word

-- an option that may be given once is given before
abbrev pub wrong_again : List Item → List ℕ → TaskOption → Option Refusal
wrong_again before word o = if not o.repeats && list_any (is_option word) before then Some (R.given_twice word) else None

-- a file is given before
abbrev pub wrong_file_again : List Item → List ℕ → Option Refusal
wrong_file_again before word = if has_file word before then Some (R.file_twice word) else None

-- an option that takes the next word is the last one
abbrev pub wrong_alone : List Item → List ℕ → TaskOption → Option Refusal
wrong_alone before word o =
    if takes_next o.takes then Some (R.nothing_after word) else
    if bytes_eq word (codes "--stdin") then wrong_file_again before (codes "-") else None

-- a value is joined to an option that takes none, or is wrong
abbrev pub takes_nothing : Takes → Bool
takes_nothing K.Nothing = true
takes_nothing _ = false

abbrev pub wrong_joined : Job → List ℕ → TaskOption → List ℕ → Option Refusal
wrong_joined job word o value = if takes_nothing o.takes then Some (unknown job (word ++ (61 ∷ value))) else wrong_value job o.takes value

-- `--` stands between two versions
abbrev pub wrong_versions : List Item → Option Refusal
wrong_versions before =
    if length (files_of before) == 0 then Some R.no_old_version else
    if list_any is_separator before then Some R.more_versions else None

abbrev pub wrong_separator : Job → List Item → Option Refusal
wrong_separator (J.Task T.Diff) before = wrong_versions before
wrong_separator (J.Task task) before = Some (R.no_call_of task)
wrong_separator job before = Some (R.has_no_option job (codes "--"))

-- whether a word looks like an option
abbrev pub is_dashed : List ℕ → Bool
is_dashed [] = false
is_dashed (b ∷ []) = false
is_dashed (b ∷ (c ∷ cs)) = b == 45

abbrev pub has_line_break : List ℕ → Bool
has_line_break word = list_any (λ b. b == 10) word

unfoldable pub names_sample : List ℕ → Bool
names_sample word = is_sample word

-- what is wrong with a word as the name of a sample, of a file, and of one that may be given once
abbrev pub wrong_sample : List ℕ → Option Refusal
wrong_sample word = if not (names_sample word) then Some (R.no_sample word) else if has_line_break word then Some R.line_break else None

abbrev pub wrong_line : List ℕ → Option Refusal
wrong_line word = if has_line_break word then Some R.line_break else None

abbrev pub wrong_name : Job → List Item → List ℕ → Option Refusal
wrong_name (J.Task T.Samples) before word = wrong_sample word
wrong_name (J.Task task) before word = option_or (wrong_line word) (wrong_file_again before word)
wrong_name J.Formatting before word = wrong_file_again before word
wrong_name J.Conditions before word = None
wrong_name J.Server before word = Some R.takes_no_file

-- what is wrong with a word that is no option
abbrev pub wrong_word : Job → List Item → List ℕ → Option Refusal
wrong_word job before word =
    if bytes_eq word (codes "--") then wrong_separator job before else
    if length word == 0 then Some R.no_name else
    if is_dashed word then Some (foreign job word) else wrong_name job before word

-- what is wrong with an item behind others
abbrev pub wrong_item : Job → (before : List Item) → Item → Option Refusal
wrong_item job before (I.Alone word o) = option_or (wrong_again before word.now o) (wrong_alone before word.now o)
wrong_item job before (I.Joined word o value) = option_or (wrong_again before word.now o) (wrong_joined job word.now o value.now)
wrong_item job before (I.Apart word o value) = option_or (wrong_again before word.now o) (wrong_value job o.takes value.now)
wrong_item job before (I.Plain word) = wrong_word job before word.now

-- how many files are of the old version
abbrev pub old_count : List Item → ℕ
old_count items = length (files_of items) - length (files_of (newest items))

-- what is wrong with the files of a task; those of other tasks may be a project's
abbrev pub wrong_files : Task → (count old : ℕ) → Option Refusal
wrong_files T.Samples count old = if count == 0 then None else if count == 1 then None else Some R.second_sample
wrong_files T.Compare count old = if count == 0 then Some R.no_file else if count == 1 then Some R.no_trees else None
wrong_files T.Diff count old = if count == 0 then Some R.no_file else if old == 0 || old == count then Some R.no_new_version else None
wrong_files task count old = None

-- and with the words of its call
abbrev pub wrong_call : Option (List (List ℕ)) → Option Refusal
wrong_call None = Some R.no_call
wrong_call (Some []) = Some (R.nothing_after (codes "--"))
wrong_call (Some (word ∷ words)) = None

-- what isn't there when all items are read
abbrev pub missing : Task → List Item → Option (List (List ℕ)) → Option Refusal
missing T.Run items call = wrong_call call
missing T.Why items call = wrong_call call
missing task items call = wrong_files task (length (files_of items)) (old_count items)
