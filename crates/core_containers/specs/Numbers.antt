-- Sets that stand at numbers: each item has the number of its set, and what a set that is gone leaves is free for another.
use Rattle.std.specs.Prelude.{◌≡◌, ◌≢◌, ℕ, ◌+◌, ◌==◌, Bool, true, false, cond, ◌||◌, List, [], ◌∷◌, length, sum_by, count_by, map, Option, Some, None, slice_get, slice_index_or, Vec}
use Rattle.std.specs.List.{IsDistinct}
use Rattle.std.specs.HashMap.{HashMap, get, hash_map_len}
use Rattle.std.specs.declared.alloc.Global.{Global}
use Rattle.core_containers.specs.Partition.{in_set}

-- both have a number, and it is one number
abbrev pub same_number : Option ℕ → Option ℕ → Bool
same_number None p = false
same_number (Some a) None = false
same_number (Some a) (Some b) = a == b

-- how often the number of this place is to stand among the free ones: once where the set is empty
abbrev pub vacancies : {T : Type 0} → Option (List T) → ℕ
vacancies None = 0
vacancies (Some []) = 1
vacancies (Some (x ∷ s)) = 0

-- each place of an empty set stands among the free ones, once, and nothing else does
abbrev pub Vacant : {T : Type 0} → List ℕ → List (List T) → Type 0
Vacant free sets = (k : ℕ) → count_by (λ n. n == k) free ≡ vacancies (slice_get sets k)

-- the sets that the vectors hold
abbrev pub sets_of : {T : Type 0} → List (Vec T Global) → List (List T)
sets_of vs = map (λ v. v.items) vs

-- tables of sets at numbers: the number of each item, how many items have one, the free places, and the set at each place
pub record Numbering (T : Type 0) : Type 0 where
  pub number : T → Option ℕ
  pub count : ℕ
  pub free : List ℕ
  pub sets : List (List T)

-- what the three tables of a partition hold
abbrev pub numbering : {T S : Type 0} → (T → T → Bool) → HashMap T ℕ S → List (Vec T Global) → List ℕ → Numbering T
numbering eq classes members free = record { number = get eq classes; count = hash_map_len classes; free = free; sets = sets_of members }

module _ {T : Type 0} (eq : T → T → Bool) where
  -- each item's number is that of the one set that has it
  pub record IsNumbered (n : Numbering T) : Type 0 where
    pub numbered : (x : T) (k : ℕ) → in_set eq (slice_index_or n.sets k []) x ≡ same_number (n.number x) (Some k)
    pub counted : n.count ≡ sum_by length n.sets
    pub distinct : (k : ℕ) → IsDistinct eq (slice_index_or n.sets k [])
    pub plural : (k : ℕ) → length (slice_index_or n.sets k []) ≢ 1
    pub vacant : Vacant n.free n.sets

  -- the three tables of a partition fit each other
  abbrev pub Fit : {S : Type 0} → HashMap T ℕ S → List (Vec T Global) → List ℕ → Type 0
  Fit classes members free = IsNumbered (numbering eq classes members free)

  -- q is x or y, or has the number of one of them
  abbrev pub touches : (T → Option ℕ) → T → T → T → Bool
  touches number x y q = (eq x q || same_number (number x) (number q)) || (eq y q || same_number (number y) (number q))

  -- the new numbers give one number to x and y and all that had a number with one of them
  pub record IsMerge (number changed : T → Option ℕ) (x y : T) : Type 0 where
    pub class : ℕ
    pub moved : (q : T) → changed q ≡ cond (touches number x y q) (Some class) (number q)
    pub own : (q : T) → number q ≡ Some class → touches number x y q ≡ true

-- ys has y at the place i, which is one of xs or the next one, and the other lists of xs where they were
pub record IsPut {T : Type 0} (xs ys : List (List T)) (i : ℕ) (y : List T) : Type 0 where
  pub here : slice_get ys i ≡ Some y
  pub others : (k : ℕ) → k ≢ i → slice_get ys k ≡ slice_get xs k
  pub total : sum_by length ys + length (slice_index_or xs i []) ≡ sum_by length xs + length y
