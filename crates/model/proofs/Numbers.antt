-- Numbers in lists: in one list or another, and the numbers of a list's elements, in order.
use Rattle.std.proofs.Common.{◌≡◌, ◌⊎◌, ℕ, suc, ◌+◌, ◌<◌, ◌≤◌, ◌==◌, Bool, true, false, List, [], ◌∷◌, ◌++◌, length, filter, Contains, refl, ap, ◌∙◌, inl, inr, eqb-true, eq-eqb, arith}
use Rattle.std.proofs.lemmas.Grind.{common_steps}
use Rattle.std.proofs.lemmas.Bool.{cases_Bool, cond-true, cond-false, cases_lt, or_cases, or_left, or_right}
use Rattle.std.proofs.lemmas.List.Folds.{list_any-append}
use Rattle.std.specs.Cmp.{unsigned_tied}
use Rattle.std.specs.Ordering.{nat_cmp, is_eq}
use Rattle.model.specs.lists.Names.{IsDistinct}
use Rattle.model.specs.rules.Program.{numbers_from}
use Rattle.model.specs.trees.Places.{is_in}
use Rattle.model.proofs.Positions.{distinct_nil}
use Rattle.model.proofs.DistinctJoined.{distinct_cons}
use Rattle.model.proofs.Members.{nothing_in, in_head, in_tail, in_cases, member_found, member_is_in}

-- 1. in one list or the other
pub in_either : (t : ℕ) (xs ys : List ℕ) → is_in t (xs ++ ys) ≡ true → Contains xs t ⊎ (is_in t ys ≡ true)
in_either t xs ys h = grind (arith, common_steps, or_cases (is_in t xs) (is_in t ys), member_found t xs, or_cases, list_any-append, member_found)

pub in_first : (t : ℕ) (xs ys : List ℕ) → Contains xs t → is_in t (xs ++ ys) ≡ true
in_first t xs ys c = list_any-append (λ y. y == t) xs ys ∙ or_left (is_in t xs) (is_in t ys) (member_is_in t xs c)

pub in_second : (t : ℕ) (xs ys : List ℕ) → is_in t ys ≡ true → is_in t (xs ++ ys) ≡ true
in_second t xs ys h = list_any-append (λ y. y == t) xs ys ∙ or_right (is_in t xs) (is_in t ys) h

-- 2. the numbers of a list's elements, from i on
pub numbers_below : {X : Type 0} (i : ℕ) (xs : List X) (n : ℕ) → Contains (numbers_from i xs) n → (i ≤ n) × (n < i + length xs)
numbers_below i (x ∷ xs) n h = grind (arith, common_steps, numbers_below (suc i) xs n, in_cases i n (numbers_from (suc i) xs) h, in_cases)
numbers_below i [] n h = absurd (nothing_in n h)

pub numbers_all : {X : Type 0} (i : ℕ) (xs : List X) (n : ℕ) → n < length xs → Contains (numbers_from i xs) (i + n)
numbers_all i (x ∷ xs) (suc n) h = grind (arith, common_steps, numbers_all (suc i) xs n, in_tail i (suc i + n) (numbers_from (suc i) xs), in_tail)
numbers_all i xs n h = grind (arith, common_steps, in_head)

pub numbers_distinct : {X : Type 0} (i : ℕ) (xs : List X) → IsDistinct (numbers_from i xs)
numbers_distinct i (x ∷ xs) = grind (arith, common_steps, numbers_distinct (suc i) xs, distinct_cons i (numbers_from (suc i) xs), numbers_below (suc i) xs i, distinct_cons, numbers_below)
numbers_distinct i [] = distinct_nil

-- those that pass
pub none_pass : {X : Type 0} (P : ℕ → Bool) (i : ℕ) (xs : List X) → ((t : ℕ) → P t ≡ false) → filter P (numbers_from i xs) ≡ []
none_pass P i [] h = refl
none_pass P i (x ∷ xs) h = cond-false (P i) (i ∷ filter P (numbers_from (suc i) xs)) (filter P (numbers_from (suc i) xs)) (h i) ∙ none_pass P (suc i) xs h

module _ {X : Type 0} (P Q : ℕ → Bool) where
  pub filters_same : (i : ℕ) (xs : List X) → ((t : ℕ) → i ≤ t → Q t ≡ P t) → filter Q (numbers_from i xs) ≡ filter P (numbers_from i xs)
  filters_same i (x ∷ xs) h = grind (arith, common_steps, filters_same (suc i) xs)
  filters_same i [] h = refl

  pub record TakenOut (s i : ℕ) (xs : List X) : Type 0 where
    pub first : List ℕ
    pub after : List ℕ
    pub all : filter P (numbers_from i xs) ≡ first ++ s ∷ after
    pub others : filter Q (numbers_from i xs) ≡ first ++ after
    pub less : (t : ℕ) → Contains first t → t < s

  pub taken_out : (s i : ℕ) (xs : List X) → i ≤ s → s < i + length xs → P s ≡ true → Q s ≡ false → ((t : ℕ) → (t ≡ s → ⊥) → Q t ≡ P t) → TakenOut s i xs
  taken_out s i [] l m p q h = absurd (omega arith)
  taken_out s i (x ∷ xs) l m p q h =
      elim (cases_lt i s) [
        | inl g ↦
            let r = taken_out s (suc i) xs g (omega arith) p q h in
            let e = h i (λ d. absurd (omega (arith, d, g))) in
            elim (cases_Bool (P i)) [
              | inl t ↦ record {
                first = i ∷ r.first;
                after = r.after;
                all = cond-true (P i) (i ∷ rest_p) rest_p t ∙ ap (λ y. i ∷ y) r.all;
                others = cond-true (Q i) (i ∷ rest_q) rest_q (e ∙ t) ∙ ap (λ y. i ∷ y) r.others;
                less = λ t k. elim (in_cases i t r.first k) [ inl d ↦ omega (arith, d, g) | inr d ↦ r.less t d ];
              }
              | inr n ↦ grind (arith, common_steps)
            ]
        | inr g ↦ grind (arith, common_steps, filters_same, nothing_in)
      ]
    where
      rest_p : List ℕ
      rest_p = filter P (numbers_from (suc i) xs)

      rest_q : List ℕ
      rest_q = filter Q (numbers_from (suc i) xs)

-- 3. compared
-- a test of numbers by their order is one by whether they are the same
pub tied : (a b : ℕ) → is_eq (nat_cmp a b) ≡ (b == a)
tied a b = grind (arith, common_steps, eq-eqb b a, eqb-true a b, eq-eqb a b, eqb-true b a, eq-eqb, eqb-true, unsigned_tied)
