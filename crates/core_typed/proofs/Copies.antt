-- A loop that makes of each item one that says the same.
use Rattle.std.proofs.Common.{◌≡◌, ℕ, ◌+◌, ◌<◌, ◌≤◌, List, [], ◌∷◌, ◌++◌, length, get_or, drop, map, refl, arith}
use Rattle.std.specs.List.{AllZip}
use Rattle.std.proofs.lemmas.List.{at_drop_more, at_drop_all, map-append}
use Rattle.std.proofs.lemmas.Grind.{common_steps}

module _ {A B : Type 0} (f : A → B) where
  pub step_copies : (out new parts : List A) (q x : A) (i : ℕ) → i < length parts → x ≡ get_or parts i x → f q ≡ f x → new ≡ out ++ q ∷ [] → map f out ++ map f (drop i parts) ≡ map f parts → map f new ++ map f (drop (i + 1) parts) ≡ map f parts
  step_copies out new parts q x i h at same is inv = grind (arith, common_steps, at_drop_more, map-append)

  pub end_copies : (out parts : List A) (i : ℕ) → length parts ≤ i → map f out ++ map f (drop i parts) ≡ map f parts → map f out ≡ map f parts
  end_copies out parts i h inv = grind (arith, common_steps, at_drop_all)

  -- a vector's clone, where an item's clone says the same as the item
  pub clone_says : (R : A → A → Type 0) → ((x y : A) → R x y → f y ≡ f x) → (xs ys : List A) → AllZip R xs ys → map f ys ≡ map f xs
  clone_says R same (x ∷ xs) (y ∷ ys) h = rw (same x y h.0, clone_says R same xs ys h.1) refl
  clone_says R same xs ys h = grind arith
