-- A rule of a set, by a list of its classes.
use Rattle.std.specs.Prelude.{◌≡◌, ℕ, List}
use Rattle.model.specs.sites.Sites.{SetRule}
use Rattle.model.specs.trees.Places.{joins_in}

-- classes join the same sites
abbrev pub JoinAlike : List (List ℕ) → List (List ℕ) → Type 0
JoinAlike these those = (a b : ℕ) → joins_in these a b ≡ joins_in those a b

-- a rule with these classes
abbrev pub with_classes : SetRule → List (List ℕ) → SetRule
with_classes r classes = record r { classes = classes }
