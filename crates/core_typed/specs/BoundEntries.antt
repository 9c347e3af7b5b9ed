-- Variables with what each is bound to, as code lists them.
use Rattle.std.specs.Prelude.{◌≡◌, ℕ, ◌<◌, ◌≤◌, List, length, map, slice_index_or}
use Rattle.core_types.specs.declared.ids.VarId.{VarId}
use Rattle.model.specs.visits.Runs.{BoundIds}

-- the entries, by the variables' numbers
abbrev pub by_number : {P : Type 0} → List (VarId × P) → BoundIds P
by_number vs = map (λ b. (b.0.0, b.1)) vs

-- the entry at that place is of the variable x
abbrev pub StandsAt : {P : Type 0} → List (VarId × P) → ℕ → ℕ → Type 0
StandsAt {P} vs x i = (i < length vs) × ((d : VarId × P) → (slice_index_or vs i d).0.0 ≡ x)

-- the variables in front of that place are less than x, and those from there on are greater
abbrev pub FitsAt : {P : Type 0} → List (VarId × P) → ℕ → ℕ → Type 0
FitsAt {P} vs x i = (i ≤ length vs)
    × ((k : ℕ) (d : VarId × P) → k < i → (slice_index_or vs k d).0.0 < x)
    × ((k : ℕ) (d : VarId × P) → i ≤ k → k < length vs → x < (slice_index_or vs k d).0.0)
