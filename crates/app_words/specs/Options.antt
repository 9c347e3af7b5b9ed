-- The options that there are.
use Rattle.std.specs.Prelude.{ℕ, ◌&&◌, Bool, true, false, List, [], ◌∷◌, Option, None, Some, codes, if◌then◌else◌, not}
use Rattle.std.specs.Str.{bytes_eq}
use Rattle.app_words.specs.declared.options.Owners.{Owners}
use Rattle.app_words.specs.declared.options.Owners.TheVariants as O
use Rattle.app_words.specs.declared.options.Takes.{Takes}
use Rattle.app_words.specs.declared.options.Takes.TheVariants as K
use Rattle.app_words.specs.declared.options.TaskOption.{TaskOption}
use Rattle.app_words.specs.declared.tasks.Job.{Job}
use Rattle.app_words.specs.declared.tasks.Job.TheVariants as J
use Rattle.app_words.specs.declared.tasks.Task.TheVariants as T
use Rattle.app_words.specs.Tasks.{has_call, is_task}

-- whether the next word is what it takes, where nothing is joined to it by `=`
abbrev pub takes_next : Takes → Bool
takes_next K.Nothing = false
takes_next K.MaybeKinds = false
takes_next _ = true

abbrev pub is_rust : Job → Bool
is_rust (J.Task T.Rust) = true
is_rust _ = false

abbrev pub is_about_trees : Job → Bool
is_about_trees (J.Task T.Lower) = true
is_about_trees (J.Task T.Compare) = true
is_about_trees _ = false

abbrev pub is_run : Job → Bool
is_run (J.Task T.Run) = true
is_run _ = false

abbrev pub is_check : Job → Bool
is_check (J.Task T.Check) = true
is_check _ = false

abbrev pub is_formatting : Job → Bool
is_formatting J.Formatting = true
is_formatting _ = false

abbrev pub is_about_conditions : Job → Bool
is_about_conditions J.Conditions = true
is_about_conditions _ = false

abbrev pub is_server : Job → Bool
is_server J.Server = true
is_server _ = false

-- whether an option with these owners is one of this task's
abbrev pub is_of : Job → Owners → Bool
is_of job O.AllButServer = not (is_server job)
is_of job O.Tasks = is_task job
is_of job O.Expanding = is_task job && not (is_rust job)
is_of job O.Trees = is_about_trees job
is_of job O.Rust = is_rust job
is_of job O.Calls = has_call job
is_of job O.Run = is_run job
is_of job O.Check = is_check job
is_of job O.Formatting = is_formatting job
is_of job O.Conditions = is_about_conditions job

-- whether it is one of some task's, but for `fmt` and `conditions`
abbrev pub has_tasks : Owners → Bool
has_tasks O.Formatting = false
has_tasks O.Conditions = false
has_tasks _ = true

-- an option that may be given once, and one that may be given often
abbrev pub once : List ℕ → Takes → Owners → List ℕ × TaskOption
once word takes owners = (word, record { takes = takes; repeats = false; owners = owners })

abbrev pub often : List ℕ → Takes → Owners → List ℕ × TaskOption
often word takes owners = (word, record { takes = takes; repeats = true; owners = owners })

-- all options
unfoldable pub table : List (List ℕ × TaskOption)
table =
    once (codes "--terms") K.Text O.Trees ∷
    often (codes "--prefix") K.Renaming O.Rust ∷
    once (codes "--log") K.Nothing O.Rust ∷
    once (codes "--stubs") K.Nothing O.Rust ∷
    once (codes "--with-allows") K.Nothing O.Rust ∷
    once (codes "--answers") K.Text O.Calls ∷
    once (codes "--trace") K.Nothing O.Run ∷
    once (codes "--no-expand") K.Nothing O.Expanding ∷
    often (codes "--deny") K.MaybeKinds O.Check ∷
    often (codes "--allow") K.Kinds O.Check ∷
    once (codes "--all") K.Nothing O.Tasks ∷
    once (codes "--format") K.Format O.Tasks ∷
    once (codes "--color") K.Color O.Tasks ∷
    once (codes "--progress") K.Nothing O.Tasks ∷
    once (codes "--check") K.Nothing O.Formatting ∷
    once (codes "--diff") K.Nothing O.Formatting ∷
    once (codes "--indent") K.Columns O.Formatting ∷
    often (codes "--stdin") K.Nothing O.Formatting ∷
    once (codes "--rule") K.Text O.Conditions ∷
    once (codes "--above") K.Nothing O.Conditions ∷
    once (codes "--lax") K.Nothing O.Conditions ∷
    once (codes "--answers") K.Text O.Conditions ∷
    once (codes "--deny") K.Nothing O.Conditions ∷
    once (codes "--expect") K.Text O.Conditions ∷
    once (codes "--format") K.Format O.Conditions ∷
    once (codes "--open") K.Nothing O.Conditions ∷
    once (codes "--asked") K.Nothing O.Conditions ∷
    once (codes "-C") K.Text O.AllButServer ∷ []

-- the option of a word
abbrev pub option_among : Job → List ℕ → List (List ℕ × TaskOption) → Option TaskOption
option_among job word [] = None
option_among job word (row ∷ rows) = if bytes_eq row.0 word && is_of job row.1.owners then Some row.1 else option_among job word rows

unfoldable pub option_of : Job → List ℕ → Option TaskOption
option_of job word = option_among job word table

-- whether some task has an option of this word
abbrev pub is_among_tasks : List ℕ → List (List ℕ × TaskOption) → Bool
is_among_tasks word [] = false
is_among_tasks word (row ∷ rows) = if bytes_eq row.0 word && has_tasks row.1.owners then true else is_among_tasks word rows

unfoldable pub is_option_of_tasks : List ℕ → Bool
is_option_of_tasks word = is_among_tasks word table
