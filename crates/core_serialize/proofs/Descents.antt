-- Rules in order: those that a filter keeps are, and those that reach a bar stand first.
use Rattle.std.proofs.Common.{◌≡◌, ℕ, suc, ℤ, Bool, true, false, List, [], ◌∷◌, Option, Contains, drop, filter, refl, sym, ap, ◌∙◌, inl, inr, arith, ◌≤ℤ◌}
use Rattle.std.specs.List.{list_all, take_while}
use Rattle.std.proofs.lemmas.Bool.{cases_Bool, cond-true, cond-false, and_parts, and_from, not-false, false≢true}
use Rattle.std.proofs.lemmas.Int.{ints}
use Rattle.std.proofs.lemmas.List.Sums.{take_while-cons}
use Rattle.std.proofs.lemmas.Grind.{common_steps}
use Rattle.model.specs.sites.Sites.{SetRule}
use Rattle.model.specs.trees.Tests.{is_lower}
use Rattle.model.specs.trees.Best.{comes_first, descend}
use Rattle.model.proofs.Members.{in_head, in_tail, from_filter, each_passes, all_pass}
use Rattle.laws_trees.proofs.runs.ChosenRules.{through}
use Rattle.laws_trees.proofs.Covers.{prio_at, not_lower_at_least, at_least_not_lower, first_is_top, descend_rest}
use Rattle.core_serialize.specs.Bars.{reaches}

pub none_kept : {X : Type 0} (p : X → Bool) (xs : List X) → ((x : X) → Contains xs x → p x ≡ false) → filter p xs ≡ []
none_kept p [] h = refl
none_kept p (x ∷ xs) h = cond-false (p x) (x ∷ filter p xs) (filter p xs) (h x (in_head x xs)) ∙ none_kept p xs (λ y c. h y (in_tail x y xs c))

pub all_kept : {X : Type 0} (p : X → Bool) (xs : List X) → ((x : X) → Contains xs x → p x ≡ true) → filter p xs ≡ xs
all_kept p [] h = refl
all_kept p (x ∷ xs) h = cond-true (p x) (x ∷ filter p xs) (filter p xs) (h x (in_head x xs)) ∙ ap (λ l. x ∷ l) (all_kept p xs (λ y c. h y (in_tail x y xs c)))

module _ (rules : List SetRule) where
  pub descend_kept : (p : ℕ → Bool) (xs : List ℕ) → descend rules xs ≡ true → descend rules (filter p xs) ≡ true
  descend_kept p [] h = refl
  descend_kept p (x ∷ xs) h =
      let q = and_parts (list_all (comes_first rules x) xs) (descend rules xs) h in
      let rest = descend_kept p xs q.1 in
      elim (cases_Bool (p x)) [
        | inl t ↦
            ap (descend rules) (cond-true (p x) (x ∷ filter p xs) (filter p xs) t)
            ∙ and_from (list_all (comes_first rules x) (filter p xs)) (descend rules (filter p xs))
            (all_pass (comes_first rules x) (filter p xs) (λ y c. each_passes (comes_first rules x) xs q.0 y (from_filter p xs y c).0)) rest
        | inr f ↦ ap (descend rules) (cond-false (p x) (x ∷ filter p xs) (filter p xs) f) ∙ rest
      ]

  pub descend_drop : (k : ℕ) (xs : List ℕ) → descend rules xs ≡ true → descend rules (drop k xs) ≡ true
  descend_drop (suc k) (x ∷ xs) h = descend_drop k xs (descend_rest rules x xs h)
  descend_drop k xs h = grind arith

  pub itself : (x : ℤ) → x ≤ℤ x
  itself x = omega (arith, ints)

  -- what is at most as high as a rule below a bar is below it
  lower_too : (x y b : ℕ) → prio_at rules y ≤ℤ prio_at rules x → is_lower rules x b ≡ true → is_lower rules y b ≡ true
  lower_too x y b l h =
      elim (cases_Bool (is_lower rules y b)) [
        | inl t ↦ t
        | inr f ↦ absurd (false≢true (sym (at_least_not_lower rules x b (through (prio_at rules b) (prio_at rules y) (prio_at rules x) (not_lower_at_least rules y b f) l)) ∙ h))
      ]

  below_too : (bar : Option ℕ) (x y : ℕ) → prio_at rules y ≤ℤ prio_at rules x → reaches rules bar x ≡ false → reaches rules bar y ≡ false
  below_too bar x y l h = grind (arith, common_steps, lower_too x y, not-false)

  pub reaching_first : (bar : Option ℕ) (xs : List ℕ) → descend rules xs ≡ true → take_while (reaches rules bar) xs ≡ filter (reaches rules bar) xs
  reaching_first bar [] h = refl
  reaching_first bar (x ∷ xs) h =
      let p = reaches rules bar in
      take_while-cons p x xs
      ∙ elim (cases_Bool (p x)) [
        | inl t ↦ grind (arith, common_steps, reaching_first bar xs (descend_rest rules x xs h), descend_rest rules x xs h)
        | inr f ↦
            cond-false (p x) (x ∷ take_while p xs) [] f
            ∙ sym (cond-false (p x) (x ∷ filter p xs) (filter p xs) f ∙ none_kept p xs (λ y c. below_too bar x y (first_is_top rules x xs h y (in_tail x y xs c)) f))
      ]
