-- What stands in a list whose elements are mapped.
use Rattle.std.proofs.Common.{◌≡◌, ℕ, List, [], ◌∷◌, map, Option, Some, option_map, slice_get, refl, sym, ap, ◌∙◌, arith}
use Rattle.std.proofs.lemmas.Grind.{common_steps}
use Rattle.std.proofs.lemmas.Option.{none-some, same_Some, slice_get-map}

module _ {X Y : Type 0} (f : X → Y) where
  pub mapped_some : (o : Option X) (y : Y) → option_map f o ≡ Some y → (x : X) × (o ≡ Some x) × (f x ≡ y)
  mapped_some o y e = grind (arith, common_steps, none-some, same_Some)

  pub get_mapped : (xs : List X) (i : ℕ) (y : Y) → slice_get (map f xs) i ≡ Some y → (x : X) × (slice_get xs i ≡ Some x) × (f x ≡ y)
  get_mapped xs i y e = mapped_some (slice_get xs i) y (sym (slice_get-map f xs i) ∙ e)

  pub get_map : (xs : List X) (i : ℕ) (x : X) → slice_get xs i ≡ Some x → slice_get (map f xs) i ≡ Some (f x)
  get_map xs i x e = slice_get-map f xs i ∙ ap (option_map f) e

  pub nothing_mapped : (xs : List X) → map f xs ≡ [] → xs ≡ []
  nothing_mapped [] e = refl
  nothing_mapped (x ∷ xs) e = absurd (cc)
