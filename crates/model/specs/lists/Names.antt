-- Names by number: a name's number is the place where it was first met.
use Rattle.std.specs.Prelude.{◌≡◌, ℕ, suc, Bool, false, ◌||◌, List, [], ◌∷◌, ◌++◌, Option, Some, None, slice_get, if◌then◌else◌, true, not, ◌&&◌}
use Rattle.std.specs.Str.{bytes_eq}

-- the place of a text among names, or their count where it isn't there
abbrev pub number : List (List ℕ) → List ℕ → ℕ
number [] x = 0
number (y ∷ ys) x = if bytes_eq y x then 0 else suc (number ys x)

abbrev pub has_name : List (List ℕ) → List ℕ → Bool
has_name [] x = false
has_name (y ∷ ys) x = bytes_eq y x || has_name ys x

-- the names after one more was met
abbrev pub with_name : List (List ℕ) → List ℕ → List (List ℕ)
with_name names x = if has_name names x then names else names ++ x ∷ []

abbrev pub with_names : List (List ℕ) → List (List ℕ) → List (List ℕ)
with_names names [] = names
with_names names (x ∷ xs) = with_names (with_name names x) xs

-- no element of a list stands twice
abbrev pub IsDistinct : {X : Type 0} → List X → Type 0
IsDistinct xs = (j k : ℕ) (x : _) → slice_get xs j ≡ Some x → slice_get xs k ≡ Some x → j ≡ k

-- whether no text stands twice
abbrev pub all_different : List (List ℕ) → Bool
all_different [] = true
all_different (x ∷ xs) = not (has_name xs x) && all_different xs

-- the number of a text, where it is among the names
abbrev pub number_if_met : List (List ℕ) → List ℕ → Option ℕ
number_if_met names x = if has_name names x then Some (number names x) else None

-- look-ups find each name at its place and no other text, so that each name stands once
pub record AreNumbersOf (names : List (List ℕ)) (number_of : List ℕ → Option ℕ) : Type 0 where
  pub numbered : (name : List ℕ) (k : ℕ) → slice_get names k ≡ Some name → number_of name ≡ Some k
  pub named : (name : List ℕ) (k : ℕ) → number_of name ≡ Some k → slice_get names k ≡ Some name
