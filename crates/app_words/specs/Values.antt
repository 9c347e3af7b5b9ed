-- The values that options take.
use Rattle.std.specs.Prelude.{ℕ, ◌==◌, Bool, true, false, List, [], ◌∷◌, Option, Some, None, codes, find, is_some, if◌then◌else◌}
use Rattle.std.specs.List.{list_any, slice_split}
use Rattle.std.specs.Str.{bytes_eq}
use Rattle.report_warnings.specs.Kinds.{kind_name}
use Rattle.report_warnings.specs.declared.kinds.TheConstants.{WARNINGS}
use Rattle.report_warnings.specs.declared.kinds.Warning.{Warning}
use Rattle.app_words.specs.declared.options.Takes.{Takes}
use Rattle.app_words.specs.declared.options.Takes.TheVariants as K
use Rattle.app_words.specs.declared.tasks.Job.{Job}
use Rattle.app_words.specs.declared.tasks.Job.TheVariants as J
use Rattle.app_words.specs.declared.tasks.Task.{Task}
use Rattle.app_words.specs.declared.tasks.Task.TheVariants as T
use Rattle.app_words.specs.declared.values.Format.{Format}
use Rattle.app_words.specs.declared.values.Format.TheVariants as F
use Rattle.app_words.specs.Refusals.{Refusal, has_no_format, no_color, no_columns, no_format, no_renaming, no_warning, only_json}

-- the form of an answer that a word names
abbrev pub format_named : List ℕ → Option Format
format_named word =
    if bytes_eq word (codes "text") then Some F.Text else
    if bytes_eq word (codes "line") then Some F.Line else
    if bytes_eq word (codes "json") then Some F.Json else
    if bytes_eq word (codes "dot") then Some F.Dot else None

-- whether a task has answers of it
abbrev pub has_json : Task → Bool
has_json T.Lower = true
has_json T.Check = true
has_json T.Stats = true
has_json _ = false

abbrev pub has_graphs : Task → Bool
has_graphs T.Lower = true
has_graphs _ = false

abbrev pub has_format : Task → Format → Bool
has_format task F.Text = true
has_format task F.Line = true
has_format task F.Json = has_json task
has_format task F.Dot = has_graphs task

abbrev pub wrong_format_of : Task → List ℕ → Option Format → Option Refusal
wrong_format_of task value None = Some (no_format value)
wrong_format_of task value (Some format) = if has_format task format then None else Some (has_no_format task value)

-- what is wrong with a form: `conditions` has but one
abbrev pub wrong_format : Job → List ℕ → Option Refusal
wrong_format (J.Task task) value = wrong_format_of task value (format_named value)
wrong_format _ value = if bytes_eq value (codes "json") then None else Some (only_json value)

-- whether a word says when errors have colours, and what it says: `auto` leaves it to where they are told
abbrev pub is_color : List ℕ → Bool
is_color word = list_any (λ w. bytes_eq word w) (codes "always" ∷ (codes "never" ∷ (codes "auto" ∷ [])))

abbrev pub colored_by : (colors : Bool) → Option (List ℕ) → Bool
colored_by colors None = colors
colored_by colors (Some word) = if bytes_eq word (codes "always") then true else if bytes_eq word (codes "never") then false else colors

-- the kind of warnings of a name, and the names that commas part
unfoldable pub kind_named : List ℕ → Option Warning
kind_named name = find (λ kind. bytes_eq (kind_name kind) name) WARNINGS

abbrev pub names_in : List ℕ → List (List ℕ)
names_in value = slice_split (λ b. b == 44) value

-- the first name of no kind is wrong
abbrev pub wrong_names : List (List ℕ) → Option Refusal
wrong_names [] = None
wrong_names (name ∷ names) = if is_some (kind_named name) then wrong_names names else Some (no_warning name)

-- what is wrong with a value
abbrev pub wrong_value : Job → Takes → List ℕ → Option Refusal
wrong_value job K.Nothing value = None
wrong_value job K.Text value = None
wrong_value job K.Format value = wrong_format job value
wrong_value job K.Color value = if is_color value then None else Some (no_color value)
wrong_value job K.Renaming value = if list_any (λ b. b == 61) value then None else Some (no_renaming value)
wrong_value job K.Kinds value = wrong_names (names_in value)
wrong_value job K.MaybeKinds value = wrong_names (names_in value)
wrong_value job K.Columns value = if bytes_eq value (codes "2") then None else Some (no_columns value)
