-- The numbers below a bound that pass a test, as a list.
use Rattle.std.proofs.Common.{◌≡◌, ◌⊎◌, ℕ, zero, suc, ◌<◌, Bool, true, [], ◌∷◌, ◌++◌, if◌then◌else◌, sym, ap, ◌∙◌, subst, inl, inr, arith}
use Rattle.std.proofs.lemmas.Bool.{cases_Bool, cond-true, cond-false}
use Rattle.std.proofs.lemmas.List.{append-nil}
use Rattle.std.proofs.lemmas.Grind.{common_steps}
use Rattle.model.specs.lists.Names.{IsDistinct}
use Rattle.model.proofs.Elements.{In, in_either, in_left, in_right, in_slice}
use Rattle.model.proofs.Positions.{distinct_nil, distinct_push}
use Rattle.core_rule_sets.specs.SiteViews.{passing_below}

at_last : (s n : ℕ) → s < suc n → (s ≡ n) ⊎ (s < n)
at_last (suc s) (suc n) l = elim (at_last s n (omega (arith, l))) [ inl e ↦ inl (ap suc e) | inr m ↦ inr (omega (arith, m)) ]
at_last s n l = grind arith

pub in_passing : (n : ℕ) (p : ℕ → Bool) (s : ℕ) → s < n → p s ≡ true → In (passing_below n p) s
unfolding passing_below
in_passing zero p s l h = absurd (let m : ⊥ = omega (arith, l) in m)
in_passing (suc n) p s l h =
    elim (at_last s n l) [
      | inl e ↦ in_right (passing_below n p) (if p n then n ∷ [] else []) s (subst (λ xs. In xs s) (sym (cond-true (p n) (n ∷ []) [] (ap p (sym e) ∙ h))) (inl (sym e)))
      | inr m ↦ in_left (passing_below n p) (if p n then n ∷ [] else []) s (in_passing n p s m h)
    ]

-- what is listed last
last_passes : (p : ℕ → Bool) (n s : ℕ) → In (if p n then n ∷ [] else []) s → (n ≡ s) × (p s ≡ true)
last_passes p n s i = grind (arith, common_steps)

pub from_passing : (n : ℕ) (p : ℕ → Bool) (s : ℕ) → In (passing_below n p) s → (s < n) × (p s ≡ true)
unfolding passing_below
from_passing zero p s i = absurd i
from_passing (suc n) p s i =
    elim (in_either (passing_below n p) (if p n then n ∷ [] else []) s i) [
      | inl j ↦ let h = from_passing n p s j in let l = h.0 in (omega (arith, l), h.1)
      | inr j ↦ let h = last_passes p n s j in let e = h.0 in (omega (arith, e), h.1)
    ]

pub passing_once : (n : ℕ) (p : ℕ → Bool) → IsDistinct (passing_below n p)
unfolding passing_below
passing_once zero p = distinct_nil
passing_once (suc n) p =
    elim (cases_Bool (p n)) [
      | inl t ↦
          subst (λ xs. IsDistinct (passing_below n p ++ xs)) (sym (cond-true (p n) (n ∷ []) [] t))
          (distinct_push (passing_below n p) n (passing_once n p) (λ j e. let l = (from_passing n p n (in_slice (passing_below n p) j n e)).0 in omega (arith, l)))
      | inr f ↦
          subst (λ xs. IsDistinct (passing_below n p ++ xs)) (sym (cond-false (p n) (n ∷ []) [] f))
          (subst IsDistinct (sym (append-nil (passing_below n p))) (passing_once n p))
    ]
