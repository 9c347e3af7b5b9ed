-- What a rule needs, by the look-ups of its parts.
use Rattle.std.proofs.Common.{◌≡◌, ℕ, zero, suc, ◌<◌, ◌==◌, Bool, true, false, ◌||◌, cond, List, [], ◌∷◌, ◌++◌, map, set, length, get_or, Option, Some, option_map, slice_get, refl, sym, ap, ◌∙◌, inl, inr, arith, eqb-true, eq-eqb}
use Rattle.std.proofs.lemmas.Bool.{cases_Bool, cond-true, cond-false, or_cases, or_left, or_right, false≢true, cases_lt}
use Rattle.std.proofs.Math.Bool.{or_assoc}
use Rattle.core_syntax.specs.Stable.{Members, contains}
use Rattle.model.specs.trees.Places.{is_in}
use Rattle.model.specs.trees.Tests.{up_to}
use Rattle.std.specs.Set.{is_member}
use Rattle.std.proofs.lemmas.Option.{slice_get-get_or, slice_get-map}
use Rattle.std.proofs.lemmas.Grind.{common_steps}
use Rattle.model.specs.trees.Tests.{Test, is_needed, needs_at}
use Rattle.laws_sites.proofs.overlaps.Overlaps.{bool_same}
use Rattle.core_rule_sets.proofs.SitesIn.{none_passing}
use Rattle.core_rule_sets.specs.SiteViews.{passing_below, member_sites, set_rule_view, set_rule_views}
use Rattle.core_rule_sets.specs.declared.trie_again.Rule.{Rule}

-- 1. the sites of a set, ascending
pub is_in_append : (x : ℕ) (xs ys : List ℕ) → is_in x (xs ++ ys) ≡ (is_in x xs || is_in x ys)
is_in_append x [] ys = refl
is_in_append x (y ∷ xs) ys = ap (λ b. (y == x) || b) (is_in_append x xs ys) ∙ sym (or_assoc (y == x) (is_in x xs) (is_in x ys))

alone_or : (a b : Bool) → ((a || false) || b) ≡ (a || b)
alone_or a b = grind (arith, common_steps)

-- one site more
pub is_in_first : (s n x : ℕ) (xs : List ℕ) → n ≡ x → (is_in s (n ∷ []) || is_in s xs) ≡ ((x == s) || is_in s xs)
is_in_first s n x xs e = alone_or (n == s) (is_in s xs) ∙ ap (λ m. (m == s) || is_in s xs) e

passing_in : (n : ℕ) (p : ℕ → Bool) (s : ℕ) → p s ≡ true → s < n → is_in s (passing_below n p) ≡ true
unfolding passing_below
passing_in zero p s h l = absurd (omega arith)
passing_in (suc n) p s h l =
    is_in_append s (passing_below n p) (cond (p n) (n ∷ []) [])
    ∙ elim (cases_lt s n) [
      | inl m ↦ or_left (is_in s (passing_below n p)) (is_in s (cond (p n) (n ∷ []) [])) (passing_in n p s h m)
      | inr m ↦
          let e : s ≡ n = omega arith in
          or_right (is_in s (passing_below n p)) (is_in s (cond (p n) (n ∷ []) []))
          (ap (is_in s) (cond-true (p n) (n ∷ []) [] (ap p (sym e) ∙ h)) ∙ or_left (n == s) false (eq-eqb n s (sym e)))
    ]

from_passing : (n : ℕ) (p : ℕ → Bool) (s : ℕ) → is_in s (passing_below n p) ≡ true → p s ≡ true
unfolding passing_below
from_passing zero p s h = absurd (false≢true h)
from_passing (suc n) p s h =
    elim (or_cases (is_in s (passing_below n p)) (is_in s (cond (p n) (n ∷ []) [])) (sym (is_in_append s (passing_below n p) (cond (p n) (n ∷ []) [])) ∙ h)) [
      | inl a ↦ from_passing n p s a
      | inr b ↦
          elim (cases_Bool (p n)) [
            | inl t ↦
                elim (or_cases (n == s) false (sym (ap (is_in s) (cond-true (p n) (n ∷ []) [] t)) ∙ b)) [
                  | inl q ↦ ap p (sym (eqb-true n s q)) ∙ t
                  | inr q ↦ absurd (false≢true q)
                ]
            | inr f ↦ absurd (false≢true (sym (ap (is_in s) (cond-false (p n) (n ∷ []) [] f)) ∙ b))
          ]
    ]

-- a set of sites has a site exactly where its ascending list does
pub member_of : (m : Members ℕ) (s : ℕ) → s < 65536 → contains ◌==◌ m s ≡ is_in s (member_sites m)
member_of m s l =
    bool_same (contains ◌==◌ m s) (is_in s (member_sites m)) (λ h. passing_in 65536 (contains ◌==◌ m) s h l) (from_passing 65536 (contains ◌==◌ m) s)

-- 2. lists of what is at each number
module _ {X : Type 0} (f : ℕ → X) where
  mapped_more : (xs : List ℕ) (n : ℕ) → map f (xs ++ n ∷ []) ≡ map f xs ++ f n ∷ []
  mapped_more [] n = refl
  mapped_more (x ∷ xs) n = ap (λ l. f x ∷ l) (mapped_more xs n)

  -- one more entry
  pub table_more : (n : ℕ) (x : X) → x ≡ f n → map f (up_to n) ++ x ∷ [] ≡ map f (up_to (suc n))
  table_more n x e = ap (λ y. map f (up_to n) ++ y ∷ []) e ∙ sym (mapped_more (up_to n) n)

-- 3. rules by their numbers, and sets without members
pub needed_at : (rules : List Rule) (t : Test) (i : ℕ) (o : Option Rule) → slice_get rules i ≡ o → needs_at (set_rule_views rules) t i ≡ is_needed t (option_map set_rule_view o)
needed_at rules t i o e = ap (is_needed t) (slice_get-map set_rule_view rules i ∙ ap (option_map set_rule_view) e)

pub rule_at : (rules items : List Rule) (i : ℕ) (rule : Rule) → rules ≡ items → i < length items → rule ≡ get_or items i rule → slice_get (set_rule_views rules) i ≡ Some (set_rule_view rule)
rule_at rules items i rule e l g = grind (arith, common_steps, slice_get-map set_rule_view rules i, slice_get-get_or items i rule l)

-- a set without members has no sites
pub no_members : (m : Members ℕ) (values : List ℕ) → ((y : ℕ) → is_member ◌==◌ values y ≡ contains ◌==◌ m y) → length values ≡ 0 → (s : ℕ) → is_in s (member_sites m) ≡ false
no_members m [] same e s = ap (is_in s) (none_passing 65536 (contains ◌==◌ m) (λ i. sym (same i)))
no_members m (x ∷ xs) same e s = absurd (omega arith)

-- 4. an entry that is put twice
pub set_again : (xs : List ℕ) (i a b : ℕ) → set (set xs i a) i b ≡ set xs i b
set_again (x ∷ xs) (suc i) a b = ap (λ l. x ∷ l) (set_again xs i a b)
set_again _ _ a b = refl
