-- Sets of items, where a test says which items are one.
use Rattle.std.specs.Prelude.{◌≡◌, ℕ, ◌≤◌, Bool, IsTrue, IsFalse, cond, if◌then◌else◌, ◌||◌, ◌&&◌, List, [], ◌∷◌, All, length, slice_index_or}
use Rattle.std.specs.List.{list_any, IsDistinct}

-- the sets that have an item
unfoldable pub filled : {T : Type 0} → List (List T) → List (List T)
filled [] = []
filled ([] ∷ ss) = filled ss
filled ((x ∷ s) ∷ ss) = (x ∷ s) ∷ filled ss

module _ {T : Type 0} (eq : T → T → Bool) where
  -- the set has the item
  abbrev pub in_set : List T → T → Bool
  in_set s x = list_any (eq x) s

  -- the set that has the item, or the empty one
  unfoldable pub set_of : List (List T) → T → List T
  set_of [] x = []
  set_of (s ∷ ss) x = cond (in_set s x) s (set_of ss x)

  -- the two items are in one set
  abbrev pub together : List (List T) → T → T → Bool
  together sets x y = in_set (set_of sets x) y

  -- the sets share no item, none has an item twice, each has two items or more, and equal items are one item
  pub record IsPartition (sets : List (List T)) : Type 0 where
    pub equal_first : (x y z : T) → IsTrue (eq x y) → together sets x z ≡ together sets y z
    pub equal_second : (x y z : T) → IsTrue (eq x y) → together sets z x ≡ together sets z y
    pub symmetric : (x y : T) → together sets x y ≡ together sets y x
    pub transitive : (x y z : T) → IsTrue (together sets x y) → IsTrue (together sets y z) → IsTrue (together sets x z)
    pub one_set : (x y : T) → IsTrue (together sets x y) → set_of sets y ≡ set_of sets x
    pub another : (x : T) → IsTrue (together sets x x) → (y : T) × IsFalse (eq x y) × IsTrue (together sets x y)
    pub plural : All (λ s. 2 ≤ length s) sets
    pub distinct : All (IsDistinct eq) sets
    pub disjoint : (x : T) (j k : ℕ) → IsTrue (in_set (slice_index_or sets j []) x) → IsTrue (in_set (slice_index_or sets k []) x) → j ≡ k

  -- a is x, or in the set of x
  abbrev pub joined : List (List T) → T → T → Bool
  joined sets x a = eq x a || together sets x a

  -- a is in the one set that takes the place of the sets of x and of y
  abbrev pub merged : List (List T) → T → T → T → Bool
  merged sets x y a = joined sets x a || joined sets y a

  -- a and b are in one set once the sets of x and of y are one
  abbrev pub together_after : List (List T) → T → T → T → T → Bool
  together_after sets x y a b = (merged sets x y a && merged sets x y b) || together sets a b

  -- how many items x adds to the sets: one where it is in none
  abbrev pub added_by : List (List T) → T → ℕ
  added_by sets x = if together sets x x then 0 else 1
