-- When the last of some texts has just the printed trees of another one.
use Rattle.std.specs.Prelude.{◌-◌, ℕ, Bool, true, List, length, Option, Some, None, slice_get}
use Rattle.report_compare.specs.Agreement.{has_trees}
use Rattle.report_compare.specs.SaidLines.{said_lines}

-- where there is no text, nothing is compared
abbrev pub has_trees_if_there : Option (List ℕ) → List ℕ → Bool
has_trees_if_there None trees = true
has_trees_if_there (Some text) trees = has_trees (said_lines text) (said_lines trees)

abbrev pub last_has_trees : List (List ℕ) → List ℕ → Bool
last_has_trees texts trees = has_trees_if_there (slice_get texts (length texts - 1)) trees
