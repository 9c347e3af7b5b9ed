-- Tests of a place by their scores: the better one of two, and bounds of scores.
use Rattle.std.proofs.Common.{◌≡◌, ℕ, ◌<◌, ◌≤◌, ◌==◌, ◌&&◌, not, nat_lt, Bool, true, false, length, ap, arith, List, [], ◌∷◌, Option, Some, None, option_map, Contains, refl, sym, ◌∙◌, subst}
use Rattle.std.specs.List.{filter}
use Rattle.std.proofs.lemmas.Bool.{and_parts, or_parts}
use Rattle.std.proofs.lemmas.List.Filters.{length-filter_both}
use Rattle.std.proofs.lemmas.Grind.{common_steps}
use Rattle.model.specs.sites.Sites.{SiteSet}
use Rattle.model.specs.trees.Places.{Around, is_in}
use Rattle.model.specs.trees.Tests as Tests
use Rattle.model.specs.trees.Sound.{as_number, or_later}
use Rattle.model.specs.trees.Tests.{match_test, equal_test, loop_test, cover, is_covered, needs_at, IsOpen, score, is_greater}
use Rattle.model.proofs.Members.{in_head, in_tail}
use Rattle.laws_trees.proofs.Scores.{scores_are_ordered_lem}
use Rattle.core_serialize.specs.declared.tests.Test.{Test}
use Rattle.core_serialize.specs.declared.tests.Scored.{Scored}
use Rattle.core_serialize.specs.TestViews.{test_view, beats, counted_score, greater_test, IsFrom, IsNoBetter, IsOpenScored, IsScored}

-- 1. filters
module _ {X : Type 0} where
  pub kept_alike : (p q : X → Bool) (xs : List X) → ((x : X) → Contains xs x → p x ≡ q x) → filter p xs ≡ filter q xs
  kept_alike p q [] h = refl
  kept_alike p q (x ∷ xs) h = grind (arith, common_steps, kept_alike p q xs (λ y c. h y (in_tail x y xs c)), in_head x xs, in_tail x)

  -- fewer pass a test that asks more
  pub fewer_pass : (p q : X → Bool) → ((x : X) → p x ≡ true → q x ≡ true) → (xs : List X) → length (filter p xs) ≤ length (filter q xs)
  fewer_pass p q h [] = omega arith
  fewer_pass p q h (x ∷ xs) = grind (arith, common_steps, fewer_pass p q h xs)

-- 2. the better one of two
module _ (set : SiteSet) (ar : Around) (here : List ℕ) where
  abbrev of : Test → Tests.Score
  of t = score set ar here (test_view t)

  below : (x y z : Tests.Score) → is_greater x y ≡ false → is_greater z y ≡ true → is_greater x z ≡ false
  below x y z h k = grind (arith, common_steps)

  -- the better one is one of both
  either : (P : Test → Type 0) (b t next : Test) → next ≡ greater_test set ar here (Some b) t → (beats set ar here t b ≡ true → P t) → (beats set ar here t b ≡ false → P b) → P next
  either P b t next e better rest = grind (arith, common_steps)

  abbrev test_of : Scored → Test
  test_of s = s.test

  pub no_better_kept : (best : Option Scored) (t : Test) (next : Scored) → next.test ≡ greater_test set ar here (option_map test_of best) t → IsOpenScored set ar here best → IsScored set ar here next
      → (u : Tests.Test) → IsNoBetter set ar here best u → IsNoBetter set ar here (Some next) u
  no_better_kept None t next e o k u n = absurd n
  no_better_kept (Some b) t next e o k u n =
      let than : is_greater (score set ar here u) (of b.test) ≡ false = subst (λ v. is_greater (score set ar here u) v ≡ false) o.1 n in
      subst (λ v. is_greater (score set ar here u) v ≡ false) (sym k)
      (either (λ x. is_greater (score set ar here u) (of x) ≡ false) b.test t next.test e (λ y. below (score set ar here u) (of b.test) (of t) than y) (λ f. than))

  pub no_better_itself : (best : Option Scored) (t : Test) (next : Scored) → next.test ≡ greater_test set ar here (option_map test_of best) t → IsScored set ar here next → IsNoBetter set ar here (Some next) (test_view t)
  no_better_itself None t next e k = subst (λ v. is_greater (of t) v ≡ false) (sym (k ∙ ap of e)) (scores_are_ordered_lem.itself (of t))
  no_better_itself (Some b) t next e k = subst (λ v. is_greater (of t) v ≡ false) (sym k) (either (λ x. is_greater (of t) (of x) ≡ false) b.test t next.test e (λ y. scores_are_ordered_lem.itself (of t)) (λ f. f))

  pub greater_open : (best : Option Scored) (t : Test) (next : Scored) → next.test ≡ greater_test set ar here (option_map test_of best) t → IsOpen set ar (test_view t) → IsOpenScored set ar here best → IsOpen set ar (test_view next.test)
  greater_open best t next e o h = grind (arith, common_steps)

-- 3. bounds
-- a score is that by the count of what the test covers
pub score_counted : (set : SiteSet) (ar : Around) (here : List ℕ) (t : Tests.Test) (n : ℕ) → n ≡ length (cover set.rules here t) → counted_score ar t n ≡ score set ar here t
score_counted set ar here t n e = grind arith

-- where a number that is no less makes a score no greater, whatever is compared behind it, neither does a lesser one
fewer : (n m y : ℕ) (later other : Bool) → m ≤ n → (later ≡ false → other ≡ false) → or_later (nat_lt y n) (n == y) later ≡ false → or_later (nat_lt y m) (m == y) other ≡ false
fewer n m y later other l up h = grind (arith, common_steps, or_parts (nat_lt y n) ((n == y) && later) h)

-- nor does one that is the same
behind_same : (x y later other : Bool) → (later ≡ false → other ≡ false) → or_later x y later ≡ false → or_later x y other ≡ false
behind_same x y later other up h = grind arith

fewer_counted : (ar : Around) (t : Tests.Test) (y : Tests.Score) (n m : ℕ) → m ≤ n → is_greater (counted_score ar t n) y ≡ false → is_greater (counted_score ar t m) y ≡ false
fewer_counted ar (match_test s) y n m l h = fewer n m y.count _ _ l (λ e. e) h
fewer_counted ar (equal_test a b) y n m l h = fewer n m y.count _ _ l (λ e. e) h
fewer_counted ar (loop_test s) y n m l h = fewer n m y.count _ _ l (λ e. e) h

pub below_bound : (set : SiteSet) (ar : Around) (here : List ℕ) (t : Tests.Test) (y : Tests.Score) (n : ℕ) → length (cover set.rules here t) ≤ n → is_greater (counted_score ar t n) y ≡ false → is_greater (score set ar here t) y ≡ false
below_bound set ar here t y n most h =
    ap (λ x. is_greater x y) (sym (score_counted set ar here t (length (cover set.rules here t)) refl)) ∙ fewer_counted ar t y n (length (cover set.rules here t)) most h

-- a test covers no more rules than there are
pub cover_within : (set : SiteSet) (here : List ℕ) (t : Tests.Test) → length (cover set.rules here t) ≤ length here
cover_within set here t = grind (arith, common_steps, length-filter_both (is_covered set.rules here t) (λ i. not (is_covered set.rules here t i)) (λ i. refl) here)

-- nor than there are that need it
pub cover_needed : (set : SiteSet) (here : List ℕ) (t : Tests.Test) → length (cover set.rules here t) ≤ length (filter (needs_at set.rules t) here)
cover_needed set here t = grind (arith, common_steps, fewer_pass (is_covered set.rules here t) (needs_at set.rules t), and_parts)

-- the equalities of a site and another one or one behind that, where both sites are emitted as one bound says
pub pair_below : (set : SiteSet) (ar : Around) (here : List ℕ) (a b other : ℕ) (are_joined : Bool) (y : Tests.Score) → other ≤ b → (are_joined ≡ true → (is_in a ar.emitted && is_in b ar.emitted) ≡ false)
    → is_greater (record { count = length here; emitted = as_number (is_in a ar.emitted && not are_joined); form = 1; site = a; other = other }) y ≡ false → is_greater (score set ar here (equal_test a b)) y ≡ false
pair_below set ar here a b other are_joined y behind none h =
    let both = length-filter_both (is_covered set.rules here (equal_test a b)) (λ i. not (is_covered set.rules here (equal_test a b) i)) (λ i. refl) here in
    let count = length (cover set.rules here (equal_test a b)) in
    let most : count ≤ length here = omega (arith, both) in
    fewer (length here) count y.count _ _ most
    (fewer (as_number (is_in a ar.emitted && not are_joined)) (as_number (is_in a ar.emitted && is_in b ar.emitted)) y.emitted _ _ (emitted (is_in a ar.emitted) (is_in b ar.emitted) are_joined none)
    (behind_same (nat_lt 1 y.form) (1 == y.form) _ _ (behind_same (nat_lt a y.site) (a == y.site) (nat_lt other y.other) (nat_lt b y.other) (no_other y.other)))) h
  where
    emitted : (p q j : Bool) → (j ≡ true → (p && q) ≡ false) → as_number (p && q) ≤ as_number (p && not j)
    emitted p q j h = grind (arith, common_steps)

    no_other : (m : ℕ) → nat_lt other m ≡ false → nat_lt b m ≡ false
    no_other m h = grind (arith, common_steps)

-- a test of a form, of this site or a later one, where the best such test that covers all isn't greater, with emitted sites where one
-- from this site on may be emitted
module _ (set : SiteSet) (ar : Around) (here : List ℕ) (form site end : ℕ) (ends : (s : ℕ) → is_in s ar.emitted ≡ true → s < end) (y : Tests.Score) where
  -- a lesser number counts for more
  later_site : (s : ℕ) (last other : Bool) → site ≤ s → (last ≡ false → other ≡ false) → or_later (nat_lt site y.site) (site == y.site) last ≡ false → or_later (nat_lt s y.site) (s == y.site) other ≡ false
  later_site s last other l up h = grind (arith, common_steps, or_parts (nat_lt site y.site) ((site == y.site) && last) h)

  no_later : (n : ℕ) → nat_lt 0 y.other ≡ false → nat_lt n y.other ≡ false
  no_later n h = grind (arith, common_steps)

  as_most : (s : ℕ) (b : Bool) → site ≤ s → (b ≡ true → is_in s ar.emitted ≡ true) → as_number b ≤ as_number (nat_lt site end)
  as_most s b l e = grind (arith, common_steps)

  bounded : (u : Tests.Test) (s other : ℕ) (emitted : Bool) → site ≤ s → (emitted ≡ true → is_in s ar.emitted ≡ true)
      → is_greater (record { count = length here; emitted = as_number (nat_lt site end); form = form; site = site; other = 0 }) y ≡ false
      → is_greater (record { count = length (cover set.rules here u); emitted = as_number emitted; form = form; site = s; other = other }) y ≡ false
  bounded u s other emitted l e h =
      let both = length-filter_both (is_covered set.rules here u) (λ i. not (is_covered set.rules here u i)) (λ i. refl) here in
      let count = length (cover set.rules here u) in
      let most : count ≤ length here = omega (arith, both) in
      fewer (length here) count y.count _ _ most
      (fewer (as_number (nat_lt site end)) (as_number emitted) y.emitted _ _ (as_most s emitted l e)
      (behind_same (nat_lt form y.form) (form == y.form) _ _ (later_site s (nat_lt 0 y.other) (nat_lt other y.other) l (no_later other)))) h

  pub from_below : (u : Tests.Test) → IsFrom form site u → is_greater (record { count = length here; emitted = as_number (nat_lt site end); form = form; site = site; other = 0 }) y ≡ false → is_greater (score set ar here u) y ≡ false
  from_below u f h = grind (arith, bounded, and_parts)
