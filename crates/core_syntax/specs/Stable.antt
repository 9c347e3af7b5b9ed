-- What a map and a set have. The list that carries them is no part of what can be named, so no clause sees an order.
use Rattle.std.specs.Prelude.{◌≡◌, ℕ, Bool, List, length, reverse, Option, None, MatchOption, IsSomeAnd, refl}
use Rattle.std.specs.Coded.{Coded, code_by, coded×, coded_list}
use Rattle.std.specs.List.{list_any}
use Rattle.std.specs.Map.{lookup, keys_of}
use Rattle.std.specs.Set.{distinct_count}

-- a set of values
pub record Members (T : Type 0) : Type 0 where
  listed : List T

-- keys and their values
pub record Entries (K V : Type 0) : Type 0 where
  listed : List (K × V)

abbrev pub stable_set : {T : Type 0} → List T → Members T
stable_set xs = record { listed = xs }

abbrev pub stable_map : {K V : Type 0} → List (K × V) → Entries K V
stable_map es = record { listed = es }

-- a set and a map are stored as their lists
abbrev pub members_code : {T : Type 0} → Coded T → Coded (Members T)
members_code {T} c = code_by (List T) (coded_list c) (λ s. s.listed) stable_set (λ _. refl)

abbrev pub entries_code : {K V : Type 0} → Coded K → Coded V → Coded (Entries K V)
entries_code {K} {V} c d = code_by (List (K × V)) (coded_list (coded× c d)) (λ m. m.listed) stable_map (λ _. refl)

-- the set has the value
abbrev pub contains : {T : Type 0} → (T → T → Bool) → Members T → T → Bool
contains eq s x = list_any (eq x) s.listed

-- what the map has at the key
abbrev pub look_up : {K V : Type 0} → (K → K → Bool) → Entries K V → K → Option V
look_up eq m k = lookup (eq k) m.listed

-- how many values
abbrev pub member_count : {T : Type 0} → Members T → ℕ
member_count s = length s.listed

-- how many keys
abbrev pub entry_count : {K V : Type 0} → Entries K V → ℕ
entry_count m = length m.listed

-- the map that the pairs make: each key has the value of the last pair with a key equal to it, and each key among the
-- pairs counts once, as the last of those that are equal to it
abbrev pub IsMadeOf : {K V : Type 0} → (K → K → Bool) → List (K × V) → Entries K V → Type 0
IsMadeOf {K} eq pairs m = ((k : K) → look_up eq m k ≡ lookup (eq k) (reverse pairs)) × (entry_count m ≡ distinct_count eq (keys_of pairs))

-- a clone is its source
abbrev pub ClonesAreSame : {T : Type 0} → (T → T → Type 0) → Type 0
ClonesAreSame {T} clones = (x y : T) → clones x y → y ≡ x

-- the copy has a clone of what the map has at each key, and nothing where the map has nothing
abbrev pub HasClones : {K V : Type 0} → (K → K → Bool) → (V → V → Type 0) → Entries K V → Entries K V → Type 0
HasClones {K} eq clones m copy = (k : K) → MatchOption (look_up eq m k) (look_up eq copy k ≡ None) (λ v. IsSomeAnd (look_up eq copy k) (λ w. clones v w))
