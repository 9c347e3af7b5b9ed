-- The trees of the first of several sets.
use Rattle.std.proofs.Common.{◌≡◌, List, [], ◌∷◌, ◌++◌, map, refl, sym, ap, ◌∙◌}
use Rattle.std.proofs.lemmas.List.{map-append}

append_one : {X : Type 0} (xs : List X) (x : X) (ys : List X) → (xs ++ x ∷ []) ++ ys ≡ xs ++ x ∷ ys
append_one [] x ys = refl
append_one (z ∷ xs) x ys = ap (λ l. z ∷ l) (append_one xs x ys)

-- one more of what was left is done
module _ {X Y Z : Type 0} (f : X → Z) (g : Y → Z) where
  pub moved : (done new : List X) (x : X) (left rest : List Y) (y : Y) (whole : List Z) → left ≡ y ∷ rest → new ≡ done ++ x ∷ [] → f x ≡ g y
      → map f done ++ map g left ≡ whole → map f new ++ map g rest ≡ whole
  moved done new x left rest y whole l n s e =
      ap (λ k. map f k ++ map g rest) n
      ∙ ap (λ k. k ++ map g rest) (map-append f done (x ∷ []))
      ∙ append_one (map f done) (f x) (map g rest)
      ∙ ap (λ z. map f done ++ z ∷ map g rest) s
      ∙ sym (ap (λ k. map f done ++ map g k) l)
      ∙ e
