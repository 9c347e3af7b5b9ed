-- What stands at a position, in a list and in a longer one, and lists in which nothing stands twice.
use Rattle.std.proofs.Common.{◌≡◌, ℕ, suc, ◌<◌, List, [], ◌∷◌, ◌++◌, length, None, Some, slice_get, refl, ap, arith, inl, inr, ◌⊎◌, ⊎_elim}
use Rattle.std.proofs.lemmas.Grind.{common_steps}
use Rattle.model.specs.lists.Names.{IsDistinct}

module _ {X : Type 0} where
  pub past_end : (xs : List X) → slice_get xs (length xs) ≡ None
  past_end [] = refl
  past_end (x ∷ xs) = past_end xs

  pub get_front : (xs ys : List X) (k : ℕ) (z : X) → slice_get xs k ≡ Some z → slice_get (xs ++ ys) k ≡ Some z
  get_front (x ∷ xs) ys (suc k) z e = get_front xs ys k z e
  get_front xs ys k z e = grind (arith, common_steps)

  pub get_middle : (xs : List X) (y : X) (ys : List X) → slice_get (xs ++ y ∷ ys) (length xs) ≡ Some y
  get_middle [] y ys = refl
  get_middle (x ∷ xs) y ys = get_middle xs y ys

  -- what stands in a list with one more element stood there before, or is the last
  pub get_push_cases : (xs : List X) (y z : X) (k : ℕ) → slice_get (xs ++ y ∷ []) k ≡ Some z → (slice_get xs k ≡ Some z) ⊎ ((k ≡ length xs) × (y ≡ z))
  get_push_cases (x ∷ xs) y z (suc k) e = ⊎_elim (λ h. inl h) (λ h. inr (ap suc h.0, h.1)) (get_push_cases xs y z k e)
  get_push_cases xs y z k e = grind arith

  pub distinct_nil : IsDistinct {X = X} []
  distinct_nil j k x p q = absurd (cc)

  pub distinct_one : (y : X) → IsDistinct (y ∷ [])
  distinct_one y h k x p q = grind (arith, common_steps)

  pub distinct_push : (xs : List X) (x : X) → IsDistinct xs → ((j : ℕ) → slice_get xs j ≡ Some x → ⊥) → IsDistinct (xs ++ x ∷ [])
  distinct_push xs x once new j k a p q = grind (arith, get_push_cases)

  -- what stands before itself stands twice
  pub twice : (xs rest whole : List X) (x : X) (j : ℕ) → IsDistinct whole → xs ++ x ∷ rest ≡ whole → j < length xs → slice_get xs j ≡ Some x → ⊥
  twice xs rest whole x j once e before at = grind (arith, common_steps, get_front xs (x ∷ rest) j x at, get_middle xs x rest, get_front, get_middle)
