-- Lists in which nothing stands twice, from their parts.
use Rattle.std.proofs.Common.{◌≡◌, suc, Bool, List, [], ◌∷◌, ◌++◌, map, filter, Contains, flat_map, refl, sym, subst, inl, inr, arith}
use Rattle.std.proofs.lemmas.Grind.{common_steps}
use Rattle.std.proofs.lemmas.Bool.{cases_Bool, cond-true, cond-false}
use Rattle.std.proofs.lemmas.Option.{same_Some}
use Rattle.std.proofs.lemmas.List.Elements.{Contains-append_cases}
use Rattle.model.specs.lists.Names.{IsDistinct}
use Rattle.model.proofs.Members.{in_head, in_tail, member_from_get, get_from_member, from_filter, from_map, from_flat_map}
use Rattle.model.proofs.Positions.{distinct_nil}

module _ {X : Type 0} where
  pub distinct_cons : (x : X) (xs : List X) → (Contains xs x → ⊥) → IsDistinct xs → IsDistinct (x ∷ xs)
  distinct_cons x xs n d h i y e f = grind (arith, common_steps, same_Some, member_from_get)

  pub distinct_tail : (x : X) (xs : List X) → IsDistinct (x ∷ xs) → IsDistinct xs
  distinct_tail x xs d j k y e f = let s = d (suc j) (suc k) y e f in omega (arith, s)

  pub not_in_tail : (x : X) (xs : List X) → IsDistinct (x ∷ xs) → Contains xs x → ⊥
  not_in_tail x xs d h = let g = get_from_member xs x h in let s = d 0 (suc g.0) x refl g.1 in omega (arith, s)

  pub distinct_append : (xs ys : List X) → IsDistinct xs → IsDistinct ys → ((x : X) → Contains xs x → Contains ys x → ⊥) → IsDistinct (xs ++ ys)
  distinct_append [] ys d e n = e
  distinct_append (x ∷ xs) ys d e n =
      distinct_cons x (xs ++ ys)
      (λ h. elim (Contains-append_cases xs ys x h) [ inl a ↦ not_in_tail x xs d a | inr b ↦ n x (in_head x xs) b ])
      (distinct_append xs ys (distinct_tail x xs d) e (λ y a b. n y (in_tail x y xs a) b))

pub distinct_flat : {X Y : Type 0} (f : X → List Y) (xs : List X) → IsDistinct xs → ((x : X) → IsDistinct (f x))
    → ((x z : X) (y : Y) → Contains (f x) y → Contains (f z) y → x ≡ z) → IsDistinct (flat_map f xs)
distinct_flat f [] d each apart = distinct_nil
distinct_flat f (x ∷ xs) d each apart =
    distinct_append (f x) (flat_map f xs) (each x) (distinct_flat f xs (distinct_tail x xs d) each apart)
    (λ y a b. let r = from_flat_map f xs y b in not_in_tail x xs d (subst (Contains xs) (sym (apart x r.0 y a r.2)) r.1))

pub distinct_filter : {X : Type 0} (p : X → Bool) (xs : List X) → IsDistinct xs → IsDistinct (filter p xs)
distinct_filter p [] d = distinct_nil
distinct_filter p (x ∷ xs) d =
    elim (cases_Bool (p x)) [
      | inl t ↦
          subst IsDistinct (sym (cond-true (p x) (x ∷ filter p xs) (filter p xs) t))
          (distinct_cons x (filter p xs) (λ h. not_in_tail x xs d (from_filter p xs x h).0) (distinct_filter p xs (distinct_tail x xs d)))
      | inr n ↦ subst IsDistinct (sym (cond-false (p x) (x ∷ filter p xs) (filter p xs) n)) (distinct_filter p xs (distinct_tail x xs d))
    ]

-- where a function tells the elements apart
pub distinct_map : {X Y : Type 0} (f : X → Y) (xs : List X) → IsDistinct xs → ((a b : X) → Contains xs a → Contains xs b → f a ≡ f b → a ≡ b) → IsDistinct (map f xs)
distinct_map f [] d apart = distinct_nil
distinct_map f (x ∷ xs) d apart =
    distinct_cons (f x) (map f xs)
    (λ h. let r = from_map f xs (f x) h in not_in_tail x xs d (subst (Contains xs) (apart r.0 x (in_tail x r.0 xs r.1) (in_head x xs) r.2) r.1))
    (distinct_map f xs (distinct_tail x xs d) (λ a b i j e. apart a b (in_tail x a xs i) (in_tail x b xs j) e))
