-- The sites that are due are kept as those to look at.
use Rattle.std.proofs.Common.{◌≡◌, ℕ, ◌≤◌, true, false, ◌&&◌, ◌||◌, if◌then◌else◌, List, Option, Some, None, is_some, sym, ap, ◌∙◌, subst, inl, inr, arith, Bor}
use Rattle.std.specs.Prelude.{nat_eq, IfSome}
use Rattle.std.specs.Option.{option_copied}
use Rattle.std.specs.Ordering.{nat_cmp}
use Rattle.std.specs.BTreeSet.{BTreeSet, contains, Updates, IsLowerBound}
use Rattle.std.proofs.lemmas.Bool.{cases_Bool, cond-true, cond-false, and_parts, and_from, both_ways, false_from_ne_true, ltb-true, eqb-true}
use Rattle.std.proofs.lemmas.Grind.{common_steps}
use Rattle.core_containers.specs.Partition.{together, IsPartition}
use Rattle.model.specs.sites.Sites.{Constraint}
use Rattle.model.proofs.Elements.{or_split, none_some, some_is}
use Rattle.core_rule_sets.specs.Closings.{KeepsDue, is_due_with, is_open}
use Rattle.core_rule_sets.specs.SiteDemands.{constraint_held, are_equated, is_or_equals, equated_too}
use Rattle.core_rule_sets.specs.declared.demanded.Demanded.{Demanded}
use Rattle.core_rule_sets.proofs.ClosingSteps.{held_same, equated_same}

-- 1. what is open stays so with one more, and it is open too
pub still_open : (s n : BTreeSet ℕ) (x : ℕ) → Updates nat_cmp s n x true → (q : ℕ) → contains nat_cmp s q ≡ true → contains nat_cmp n q ≡ true
still_open s n x u q h = grind (arith, common_steps)

now_open : (s n : BTreeSet ℕ) (x q : ℕ) → Updates nat_cmp s n x true → nat_eq x q ≡ true → contains nat_cmp n q ≡ true
now_open s n x q u t = subst (λ y. contains nat_cmp n y ≡ true) (eqb-true x q t) u.1

-- 2. a site is asked something, and is open where it must equal another one
pub due_asked : (d e : Demanded) (x : ℕ) (c : Option Constraint) → KeepsDue d → e.equals ≡ d.equals
    → ((s : ℕ) → constraint_held e s ≡ (if nat_eq x s then c else constraint_held d s))
    → ((r : ℕ) → are_equated d r x ≡ true → is_open e x ≡ true)
    → ((s : ℕ) → is_open d s ≡ true → is_open e s ≡ true) → KeepsDue e
due_asked d e x c keeps equal asked opened still r s h =
    let p = and_parts (is_some (constraint_held e s)) (are_equated e r s) h in
    let joined : are_equated d r s ≡ true = sym (equated_same d e equal r s) ∙ p.1 in
    elim (cases_Bool (nat_eq x s)) [
      | inl t ↦ grind (arith, common_steps, eqb-true x s t)
      | inr f ↦ grind (arith, common_steps, and_from (is_some (constraint_held d s)) (are_equated d r s))
    ]

-- 3. two sites are made equal
module _ (d e : Demanded) (x y : ℕ) (keeps : KeepsDue d) (asked : e.constraints ≡ d.constraints)
    (equal : (a b : ℕ) → are_equated e a b ≡ equated_too (are_equated d) x y a b) (mid : BTreeSet ℕ)
    (first : Updates nat_cmp d.open mid x true) (second : Updates nat_cmp mid e.open y true) where
  due_before : (r s : ℕ) → is_some (constraint_held e s) ≡ true → are_equated d r s ≡ true → contains nat_cmp e.open s ≡ true
  due_before r s h t =
      still_open mid e.open y second s
      (still_open d.open mid x first s (keeps r s (and_from (is_some (constraint_held d s)) (are_equated d r s) (sym (ap is_some (held_same d e asked s)) ∙ h) t)))

  due_beside : (z s : ℕ) → is_some (constraint_held e s) ≡ true → (nat_eq z s ≡ true → contains nat_cmp e.open s ≡ true) → is_or_equals (are_equated d) z s ≡ true → contains nat_cmp e.open s ≡ true
  due_beside z s h here t = grind (arith, common_steps, or_split (nat_eq z s) (are_equated d z s) t, due_before z s h)

  pub due_equated : KeepsDue e
  due_equated r s h =
      let p = and_parts (is_some (constraint_held e s)) (are_equated e r s) h in
      let old = are_equated d r s in
      let at_r = is_or_equals (are_equated d) x r || is_or_equals (are_equated d) y r in
      let at_s = is_or_equals (are_equated d) x s || is_or_equals (are_equated d) y s in
      elim (cases_Bool (nat_eq x y)) [
        | inl t ↦ due_before r s p.0 (sym (equal r s ∙ cond-true (nat_eq x y) old ((at_r && at_s) || old) t) ∙ p.1)
        | inr f ↦
            elim (or_split (at_r && at_s) old (sym (equal r s ∙ cond-false (nat_eq x y) old ((at_r && at_s) || old) f) ∙ p.1)) [
              | inl t ↦
                  elim (or_split (is_or_equals (are_equated d) x s) (is_or_equals (are_equated d) y s) (and_parts at_r at_s t).1) [
                    | inl q ↦ due_beside x s p.0 (λ g. still_open mid e.open y second s (now_open d.open mid x s first g)) q
                    | inr q ↦ due_beside y s p.0 (λ g. now_open mid e.open y s second g) q
                  ]
              | inr t ↦ due_before r s p.0 t
            ]
      ]

-- 4. a class is taken away
pub due_removed : (d e : Demanded) → KeepsDue d → e.constraints ≡ d.constraints → e.open ≡ d.open
    → ((a b : ℕ) → are_equated e a b ≡ true → are_equated d a b ≡ true) → KeepsDue e
due_removed d e keeps asked opened equal r s h =
    let p = and_parts (is_some (constraint_held e s)) (are_equated e r s) h in
    ap (λ o. contains nat_cmp o s) opened
    ∙ keeps r s (and_from (is_some (constraint_held d s)) (are_equated d r s) (sym (ap is_some (held_same d e asked s)) ∙ p.0) (equal r s p.1))

-- 5. a site that isn't due is passed over
pub not_in_class : (sets : List (List ℕ)) (r s : ℕ) → IsPartition nat_eq sets → together nat_eq sets s s ≡ false → together nat_eq sets r s ≡ false
not_in_class sets r s p none = grind (arith, common_steps, false_from_ne_true (together nat_eq sets r s), both_ways (together nat_eq sets s s) none)

-- the least of what is open is no greater than any site that is due
pub least_due : (d : Demanded) (s r : ℕ) → KeepsDue d → IsLowerBound nat_cmp d.open s → is_due_with d r r ≡ true → s ≤ r
least_due d s r keeps least due = grind (arith, common_steps, ltb-true, eqb-true)

-- 6. the same demands
pub due_again : (d e : Demanded) → e.constraints ≡ d.constraints → e.equals ≡ d.equals → (r s : ℕ) → is_due_with e r s ≡ is_due_with d r s
due_again d e asked equal r s = λ i. is_some (held_same d e asked s i) && equated_same d e equal r s i

pub of_copied : (P : ℕ → Type 0) (o : Option (Bor ℕ)) (s : ℕ) → IfSome o (λ k. P k.now) → option_copied o ≡ Some s → P s
of_copied P None s h e = absurd (none_some s e)
of_copied P (Some k) s h e = subst P (some_is k.now s e) h
