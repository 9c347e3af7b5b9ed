-- The types of fields, found at a place or not.
use Rattle.std.proofs.Common.{◌≡◌, ◌∙◌, ℕ, ◌<◌, ◌≤◌, List, Some, None, length, get_or, map, option_map, slice_get, refl, ap}
use Rattle.std.proofs.lemmas.Option.{slice_get-map, slice_get_past, slice_get_read}

module _ {X : Type 0} (xs : List X) (i : ℕ) {Y : Type 0} (view : X → Y) (ty : Y → ℕ) where
  pub field_found : (x : X) → i < length xs → x ≡ get_or xs i x → slice_get (map ty (map view xs)) i ≡ Some (ty (view x))
  field_found x h at = slice_get-map ty (map view xs) i ∙ ap (option_map ty) (slice_get-map view xs i ∙ ap (option_map view) (slice_get_read xs (length xs) i x refl h at))

  pub field_missing : length xs ≤ i → slice_get (map ty (map view xs)) i ≡ None
  field_missing h = slice_get-map ty (map view xs) i ∙ ap (option_map ty) (slice_get-map view xs i ∙ ap (option_map view) (slice_get_past xs i h))
