-- Marks of sites, one after another.
use Rattle.std.proofs.Common.{◌≡◌, ◌<◌, ◌≤◌, ◌-◌, ◌==◌, ℕ, zero, suc, Bool, true, false, ◌&&◌, ◌||◌, List, [], ◌∷◌, ◌++◌, length, get_or, set, take, drop, Some, None, slice_get, refl, sym, ap, ap₂, ◌∙◌, inl, inr, arith, eqb-true, eq-eqb}
use Rattle.std.proofs.lemmas.Bool.{cases_Bool, false≢true, ne_eqb}
use Rattle.std.proofs.lemmas.Grind.{get_or-set_at}
use Rattle.std.proofs.lemmas.List.{append-nil, drop_all, get_or-set_other, take_all}
use Rattle.model.specs.sites.Sites.{Site, sources_of, sources_at}
use Rattle.model.specs.trees.Places.{is_in}
use Rattle.spec_steps.specs.Demands.{is_marked}
use Rattle.spec_asked.specs.Marks.{marks, marked_below}
use Rattle.spec_asked.proofs.SitesApart.{sources_or}

-- 1. truths
or_true : (b : Bool) → (b || true) ≡ true
or_true true = refl
or_true false = refl

or_false : (b : Bool) → (b || false) ≡ b
or_false true = refl
or_false false = refl

or_joined : (a b c : Bool) → ((a || b) || c) ≡ (a || (b || c))
or_joined true b c = refl
or_joined false b c = refl

-- 2. one mark
marks_got : (made : List Bool) (n : ℕ) → marks made n ≡ get_or made n false
marks_got [] n = refl
marks_got (b ∷ made) zero = refl
marks_got (b ∷ made) (suc n) = marks_got made n

pub mark_set : (made : List Bool) (s n : ℕ) → s < length made → marks (set made s true) n ≡ (marks made n || (s == n))
mark_set made s n h =
    elim (cases_Bool (s == n)) [
      | inl t ↦
          marks_got (set made s true) n ∙ get_or-set_at made s n true false (sym (eqb-true s n t)) h
          ∙ sym (ap (λ b. marks made n || b) t ∙ or_true (marks made n))
      | inr f ↦
          marks_got (set made s true) n ∙ get_or-set_other made s n true false (λ e. false≢true (sym f ∙ eq-eqb s n (sym e)))
          ∙ sym (marks_got made n) ∙ sym (ap (λ b. marks made n || b) f ∙ or_false (marks made n))
    ]

pub mark_past : (made : List Bool) (s n : ℕ) → length made ≤ s → n < length made → marks made n ≡ (marks made n || (s == n))
mark_past made s n h l = sym (ap (λ b. marks made n || b) (ne_eqb s n (λ e. omega (arith, h, l, e))) ∙ or_false (marks made n))

-- 3. marks of a list
pub marks_first : (b : Bool) (n : ℕ) (l : List ℕ) (d : ℕ) → 1 ≤ length l → ((b || (get_or l 0 d == n)) || is_in n (take (length l - 1) (drop 1 l))) ≡ (b || is_in n l)
marks_first b n [] d h = absurd (omega arith)
marks_first b n (x ∷ l) d h = ap (λ r. (b || (x == n)) || is_in n r) (take_all (length (x ∷ l) - 1) l (omega arith)) ∙ or_joined b (x == n) (is_in n l)

pub marks_none : (b : Bool) (n : ℕ) (l : List ℕ) → length l ≤ 0 → b ≡ (b || is_in n l)
marks_none b n [] h = sym (or_false b)
marks_none b n (x ∷ l) h = absurd (omega arith)

-- 4. marks of sources
module _ (sites : List Site) (s : ℕ) (made : List Bool) (n : ℕ) where
  pub below_marked : (b : Site) → slice_get made s ≡ Some true → slice_get sites s ≡ Some b → (marks made n || is_in n (sources_of b)) ≡ marked_below sites s (marks made) n
  below_marked b e f = ap₂ (λ x l. marks made n || (x && is_in n l)) (sym (ap is_marked e)) (sym (ap sources_or f))

  pub below_unmarked : marks made s ≡ false → marks made n ≡ marked_below sites s (marks made) n
  below_unmarked e = sym (ap (λ x. marks made n || (x && is_in n (sources_at sites s))) e ∙ or_false (marks made n))

  pub below_nothing : slice_get sites s ≡ None → marks made n ≡ marked_below sites s (marks made) n
  below_nothing f = sym (ap (λ l. marks made n || (marks made s && is_in n l)) (ap sources_or f) ∙ both_false (marks made s))
    where
      both_false : (x : Bool) → (marks made n || (x && false)) ≡ marks made n
      both_false true = or_false (marks made n)
      both_false false = or_false (marks made n)

-- 5. a whole list that was written
pub written_whole : (count : ℕ) (x y : List Bool) → length x ≡ length y → count ≡ length y → take count (x ++ drop (length x) y) ≡ x
written_whole count x y e f =
    ap (take count) (ap (λ l. x ++ l) (drop_all (length x) y (omega (arith, e))) ∙ append-nil x) ∙ take_all count x (omega (arith, e, f))
