-- How long lists are in which nothing stands twice.
use Rattle.std.proofs.Common.{◌≡◌, ◌⊎◌, ◌≤◌, suc, List, [], ◌∷◌, length, refl, sym, ap, ◌∙◌, inl, inr, arith}
use Rattle.std.proofs.lemmas.Grind.{common_steps}
use Rattle.model.specs.lists.Names.{IsDistinct}
use Rattle.model.proofs.Elements.{In, contains_from_in}
use Rattle.model.proofs.DistinctJoined.{distinct_tail, not_in_tail}

module _ {X : Type 0} where
  -- a list without one place of an element
  pub dropped : (xs : List X) (x : X) → In xs x → (ys : List X) × (length xs ≡ suc (length ys)) × ((y : X) → In xs y → (x ≡ y) ⊎ In ys y)
  dropped [] x i = absurd i
  dropped (z ∷ xs) x (inl e) = (xs, refl, λ y j. elim j [ inl f ↦ inl (sym e ∙ f) | inr k ↦ inr k ])
  dropped (z ∷ xs) x (inr i) =
      let r = dropped xs x i in
      (z ∷ r.0, ap suc r.1, λ y j. elim j [ inl f ↦ inr (inl f) | inr k ↦ elim (r.2 y k) [ inl e ↦ inl e | inr l ↦ inr (inr l) ] ])

  -- different elements are no more than those of a list that has them all
  pub no_more_distinct : (xs ys : List X) → IsDistinct xs → ((x : X) → In xs x → In ys x) → length xs ≤ length ys
  no_more_distinct [] ys d h = omega arith
  no_more_distinct (x ∷ xs) ys d h =
      let r = dropped ys x (h x (inl refl)) in
      let l = no_more_distinct xs r.0 (distinct_tail x xs d)
      (λ y i. grind (arith, common_steps, not_in_tail, contains_from_in)) in
      let e = r.1 in
      omega (arith, e, l)
