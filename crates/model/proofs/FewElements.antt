-- Lists of no element, and of one.
use Rattle.std.proofs.Common.{◌≡◌, List, [], ◌∷◌, ◌++◌, refl, subst, inl, arith}
use Rattle.std.proofs.lemmas.Grind.{common_steps}
use Rattle.model.proofs.Elements.{In}

module _ {X : Type 0} where
  pub not_empty : (x : X) (xs : List X) → (x ∷ xs) ≡ [] → ⊥
  not_empty x xs e = absurd (cc)

  pub not_nothing : (xs : List X) (x : X) → xs ++ x ∷ [] ≡ [] → ⊥
  not_nothing xs x e = grind (arith, common_steps)

  pub none_in : (xs : List X) → xs ≡ [] → (x : X) → In xs x → ⊥
  none_in xs e x i = subst (λ l. In l x) e i

  pub nothing_if_none : (xs : List X) → ((x : X) → In xs x → ⊥) → xs ≡ []
  nothing_if_none [] f = refl
  nothing_if_none (x ∷ xs) f = absurd (f x (inl refl))

  pub in_one : (x y : X) → In (x ∷ []) y → x ≡ y
  in_one x y h = grind (arith, common_steps)
