-- What a rule demands of sites, by their numbers.
use Rattle.std.specs.Prelude.{◌≡◌, ℕ, Bool, ◌&&◌, ◌||◌, List, [], ◌∷◌, Option, Some, None, if◌then◌else◌, nat_eq}
use Rattle.core_containers.specs.Partition.{together}
use Rattle.model.specs.sites.Sites as Sites
use Rattle.model.specs.sites.Closure.{conflict, conflict_with}
use Rattle.model.specs.trees.Places.{constraint_at}
use Rattle.core_rule_sets.specs.SiteViews.{constraint_view, constraint_views}
use Rattle.core_rule_sets.specs.declared.trie_again.Constraint.{Constraint}
use Rattle.core_rule_sets.specs.declared.demanded.Demanded.{Demanded}

-- what is asked of a site
abbrev pub constraint_held : Demanded → ℕ → Option Sites.Constraint
constraint_held d s = constraint_at (constraint_views d.constraints) s

-- a site keeps its first constraint
abbrev pub first_kept : Option Sites.Constraint → Sites.Constraint → Sites.Constraint
first_kept None c = c
first_kept (Some b) c = b

-- the conflict of a constraint with the one that a site has: with this one, or there is none
abbrev pub IsConflict : Option Sites.Constraint → Sites.Constraint → Option Constraint → Type 0
IsConflict had c None = conflict_with had c ≡ []
IsConflict had c (Some b) = conflict_with had c ≡ conflict (constraint_view b) c ∷ []

-- whether two sites must be equal
abbrev pub are_equated : Demanded → ℕ → ℕ → Bool
are_equated d a b = together nat_eq d.equals a b

-- whether a site is x, or must equal it
abbrev pub is_or_equals : (ℕ → ℕ → Bool) → ℕ → ℕ → Bool
is_or_equals test x a = nat_eq x a || test x a

-- which sites must be equal once x and y must, where they are two
abbrev pub equated_too : (ℕ → ℕ → Bool) → ℕ → ℕ → ℕ → ℕ → Bool
equated_too test x y a b =
    if nat_eq x y
    then test a b
    else (((is_or_equals test x a || is_or_equals test y a) && (is_or_equals test x b || is_or_equals test y b)) || test a b)

-- once the two of each pair must, one pair after another
abbrev pub equated_each : (ℕ → ℕ → Bool) → List (ℕ × ℕ) → ℕ → ℕ → Bool
equated_each test [] a b = test a b
equated_each test (p ∷ ps) a b = equated_each (equated_too test p.0 p.1) ps a b
