-- Distinct numbers among others: there are at most as many, and their sum is at most that of the others.
use Rattle.std.proofs.Common.{◌≡◌, ◌≢◌, ℕ, ◌+◌, ◌≤◌, ◌==◌, true, false, not, List, [], ◌∷◌, length, Contains, sum_by, refl, sym, ◌∙◌, subst, inl, inr, arith, eqb-true}
use Rattle.std.proofs.lemmas.Bool.{cases_Bool, cond-true, cond-false, and_parts, false≢true}
use Rattle.std.proofs.lemmas.List.Sums.{sum_by-cons}
use Rattle.std.specs.Prelude.{if◌then◌else◌}
use Rattle.std.proofs.lemmas.Grind.{common_steps}
use Rattle.model.specs.trees.Places.{is_in}
use Rattle.model.specs.trees.Best.{are_distinct}
use Rattle.model.proofs.Members.{nothing_in, in_head, in_tail, in_cases, member_is_in}
use Rattle.laws_trees.proofs.JudgeExactness.{not_exact}

-- the list without the first place of a number
abbrev without : ℕ → List ℕ → List ℕ
without x [] = []
without x (y ∷ ys) = if y == x then ys else y ∷ without x ys

without_same : (x y : ℕ) (ys : List ℕ) → (y == x) ≡ true → without x (y ∷ ys) ≡ ys
without_same x y ys t = cond-true (y == x) ys (y ∷ without x ys) t

without_other : (x y : ℕ) (ys : List ℕ) → (y == x) ≡ false → without x (y ∷ ys) ≡ y ∷ without x ys
without_other x y ys f = cond-false (y == x) ys (y ∷ without x ys) f

sum_without : (f : ℕ → ℕ) (x : ℕ) (ys : List ℕ) → Contains ys x → sum_by f ys ≡ f x + sum_by f (without x ys)
sum_without f x [] c = absurd (nothing_in x c)
sum_without f x (y ∷ ys) c = grind (arith, common_steps, sum_without f x ys, sum_by-cons, without_same, in_cases, without_other)

others_stay : (x z : ℕ) (ys : List ℕ) → Contains ys z → z ≢ x → Contains (without x ys) z
others_stay x z [] c d = absurd (nothing_in z c)
others_stay x z (y ∷ ys) c d =
    elim (cases_Bool (y == x)) [
      | inl t ↦
          elim (in_cases y z ys c) [
            | inl e ↦ absurd (d (sym e ∙ eqb-true y x t))
            | inr k ↦ subst (λ l. Contains l z) (sym (without_same x y ys t)) k
          ]
      | inr n ↦
          subst (λ l. Contains l z) (sym (without_other x y ys n))
          (elim (in_cases y z ys c) [ inl e ↦ subst (Contains (y ∷ without x ys)) e (in_head y (without x ys)) | inr k ↦ in_tail y z (without x ys) (others_stay x z ys k d) ])
    ]

pub distinct_sum : (f : ℕ → ℕ) (xs ys : List ℕ) → are_distinct xs ≡ true → ((x : ℕ) → Contains xs x → Contains ys x) → sum_by f xs ≤ sum_by f ys
distinct_sum f [] ys h sub = omega arith
distinct_sum f (x ∷ xs) ys h sub =
    let p = and_parts (not (is_in x xs)) (are_distinct xs) h in
    let away = (not_exact (is_in x xs)).0 p.0 in
    let rest = distinct_sum f xs (without x ys) p.1 (λ z c. others_stay x z ys (sub z (in_tail x z xs c)) (λ e. false≢true (sym away ∙ member_is_in x xs (subst (Contains xs) e c)))) in
    let a = sum_by-cons f x xs in
    let b = sum_without f x ys (sub x (in_head x xs)) in
    omega arith

ones : (xs : List ℕ) → sum_by (λ x. 1) xs ≡ length xs
ones [] = refl
ones (x ∷ xs) = (let a = sum_by-cons (λ (y : ℕ). 1) x xs in let b = ones xs in omega arith)

pub distinct_within : (xs ys : List ℕ) → are_distinct xs ≡ true → ((x : ℕ) → Contains xs x → Contains ys x) → length xs ≤ length ys
distinct_within xs ys h sub = (let a = ones xs in let b = ones ys in let s = distinct_sum (λ x. 1) xs ys h sub in omega arith)
