-- Lists of numbers, and tables of their places.
use Rattle.std.specs.Prelude.{◌≡◌, ◌≢◌, ℕ, Bool, false, List, ◌++◌, Some, None, slice_get}
use Rattle.std.specs.Bool.{◌==◌}
use Rattle.std.specs.List.{list_any}

-- whether a list has a number
abbrev pub is_in : ℕ → List ℕ → Bool
is_in n list = list_any (λ m. m == n) list

-- whether the number stands at that place
abbrev pub is_at : List ℕ → ℕ → ℕ → Bool
is_at list p n = elim (slice_get list p) [ None ↦ false | Some m ↦ m == n ]

-- the table has the place of each number of the list
abbrev pub HasPlaces : List ℕ → List ℕ → Type 0
HasPlaces list places = (i n : ℕ) → slice_get list i ≡ Some n → slice_get places n ≡ Some i

-- a table has all that another one has
abbrev pub KeepsPlaces : List ℕ → List ℕ → Type 0
KeepsPlaces old new = (i p : ℕ) → slice_get old i ≡ Some p → slice_get new i ≡ Some p

-- but for one place
abbrev pub KeepsOthers : ℕ → List ℕ → List ℕ → Type 0
KeepsOthers n old new = (i p : ℕ) → i ≢ n → slice_get old i ≡ Some p → slice_get new i ≡ Some p

-- a list with more at its end
abbrev pub Extends : List ℕ → List ℕ → Type 0
Extends old new = (more : List ℕ) × (new ≡ old ++ more)
