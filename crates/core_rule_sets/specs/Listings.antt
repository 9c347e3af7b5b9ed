-- Lists of sites that a rule keeps in order: the sites of its constraints, and its classes.
use Rattle.std.specs.Prelude.{ℕ, Bool, true, ◌&&◌, List, [], ◌∷◌, length, map, nat_lt, take}
use Rattle.std.specs.List.{flat_map, list_all}
use Rattle.std.specs.Global.{Vec}

-- whether a number is below the first of a list
abbrev pub is_below_first : ℕ → List ℕ → Bool
is_below_first n [] = true
is_below_first n (x ∷ xs) = nat_lt n x

-- whether each number of a list is below the next
abbrev pub ascends : List ℕ → Bool
ascends [] = true
ascends (x ∷ xs) = is_below_first x xs && ascends xs

-- the sites of constraints
abbrev pub sites_of : {X : Type 0} → List (ℕ × X) → List ℕ
sites_of cs = map (λ c. c.0) cs

-- classes of sites, without where they lie in memory
abbrev pub class_lists : List (Vec ℕ) → List (List ℕ)
class_lists cs = map (λ c. c.items) cs

-- whether a class ascends and has two sites or more
abbrev pub is_listed_class : List ℕ → Bool
is_listed_class c = ascends c && nat_lt 1 (length c)

-- whether classes are listed as such, by their least sites
abbrev pub are_listed : List (List ℕ) → Bool
are_listed cs = list_all is_listed_class cs && ascends (flat_map (take 1) cs)
