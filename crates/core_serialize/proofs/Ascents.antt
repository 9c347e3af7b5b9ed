-- Numbers that ascend: those that a filter keeps do, and so do all numbers below n.
use Rattle.std.proofs.Common.{◌≡◌, ℕ, zero, suc, ◌<◌, ◌≤◌, Bool, true, nat_lt, List, [], ◌∷◌, ◌++◌, drop, get_or, length, Contains, filter, refl, ap, ◌∙◌, subst, inl, inr, arith, ltb-true, lt-ltb}
use Rattle.std.proofs.lemmas.Bool.{cases_Bool, cond-true, cond-false, and_parts, and_from}
use Rattle.std.proofs.lemmas.Grind.{common_steps}
use Rattle.model.specs.trees.Tests.{up_to}
use Rattle.model.proofs.Members.{nothing_in, in_head, in_tail, in_cases, in_alone, from_filter, from_up_to}
use Rattle.core_rule_sets.specs.Listings.{is_below_first, ascends}

-- each is below all behind it
pub ascends_head : (x : ℕ) (xs : List ℕ) → ascends (x ∷ xs) ≡ true → (y : ℕ) → Contains xs y → x < y
ascends_head x [] h y c = absurd (nothing_in y c)
ascends_head x (z ∷ zs) h y c =
    let q = and_parts (nat_lt x z) (ascends (z ∷ zs)) h in
    let l = ltb-true x z q.0 in
    elim (in_cases z y zs c) [
      | inl e ↦ subst (λ w. x < w) e l
      | inr d ↦ let m = ascends_head z zs q.1 y d in omega (arith, l, m)
    ]

pub ascends_tail : (x : ℕ) (xs : List ℕ) → ascends (x ∷ xs) ≡ true → ascends xs ≡ true
ascends_tail x xs h = (and_parts (is_below_first x xs) (ascends xs) h).1

below_first : (x : ℕ) (xs : List ℕ) → ((y : ℕ) → Contains xs y → x < y) → is_below_first x xs ≡ true
below_first x [] f = refl
below_first x (y ∷ ys) f = lt-ltb x y (f y (in_head y ys))

pub ascends_kept : (p : ℕ → Bool) (xs : List ℕ) → ascends xs ≡ true → ascends (filter p xs) ≡ true
ascends_kept p [] h = refl
ascends_kept p (x ∷ xs) h =
    let rest = ascends_kept p xs (ascends_tail x xs h) in
    elim (cases_Bool (p x)) [
      | inl t ↦
          ap ascends (cond-true (p x) (x ∷ filter p xs) (filter p xs) t)
          ∙ and_from (is_below_first x (filter p xs)) (ascends (filter p xs)) (below_first x (filter p xs) (λ y c. ascends_head x xs h y (from_filter p xs y c).0)) rest
      | inr f ↦ ap ascends (cond-false (p x) (x ∷ filter p xs) (filter p xs) f) ∙ rest
    ]

-- none behind a place is below the number that stands there
pub ascends_behind : (xs : List ℕ) (k x y : ℕ) → ascends xs ≡ true → k < length xs → x ≡ get_or xs k x → Contains (drop k xs) y → x ≤ y
ascends_behind [] k x y a l e m = omega (arith, l)
ascends_behind (z ∷ zs) zero x y a l e m = grind (arith, common_steps, in_cases z y zs m, ascends_head z zs a y)
ascends_behind (z ∷ zs) (suc k) x y a l e m = ascends_behind zs k x y (ascends_tail z zs a) (omega (arith, l)) e m

ascends_push : (xs : List ℕ) (n : ℕ) → ascends xs ≡ true → ((y : ℕ) → Contains xs y → y < n) → ascends (xs ++ n ∷ []) ≡ true
ascends_push [] n h f = refl
ascends_push (x ∷ xs) n h f =
    and_from (is_below_first x (xs ++ n ∷ [])) (ascends (xs ++ n ∷ []))
    (grind (arith, common_steps, below_first x (xs ++ n ∷ []), ascends_head x xs h, in_alone n, in_head x xs, f x (in_head x xs)))
    (ascends_push xs n (ascends_tail x xs h) (λ y c. f y (in_tail x y xs c)))

pub ascends_up_to : (n : ℕ) → ascends (up_to n) ≡ true
ascends_up_to zero = refl
ascends_up_to (suc n) = ascends_push (up_to n) n (ascends_up_to n) (λ y c. from_up_to n y c)
