-- The names after one more was met, by whether it has a place.
use Rattle.std.proofs.Common.{◌≡◌, ℕ, false, List, [], ◌∷◌, ◌++◌, length, Some, None, refl, arith}
use Rattle.std.proofs.lemmas.Grind.{common_steps}
use Rattle.model.specs.lists.Names.{number, has_name, with_name, number_if_met}
use Rattle.model.proofs.Names.{last}

module _ (names : List (List ℕ)) (x : List ℕ) where
  pub known_number : (k : ℕ) → Some k ≡ number_if_met names x → k ≡ number names x
  known_number k h = grind (arith, common_steps)

  pub known_names : (k : ℕ) → Some k ≡ number_if_met names x → names ≡ with_name names x
  known_names k h = grind (arith, common_steps)

  new_name : None ≡ number_if_met names x → has_name names x ≡ false
  new_name h = grind (arith, common_steps)

  pub new_names : None ≡ number_if_met names x → names ++ x ∷ [] ≡ with_name names x
  new_names h = rw (new_name h) refl

  pub new_number : None ≡ number_if_met names x → length names ≡ number names x
  new_number h = last names x (new_name h)
