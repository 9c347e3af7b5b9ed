-- Scores are ordered, and one open test has the greatest.
use Rattle.std.proofs.Common.{◌≡◌, ◌≢◌, ◌⊎◌, ℕ, ◌<◌, ◌==◌, Bool, true, false, ◌&&◌, nat_lt, List, [], ◌∷◌, Contains, sym, subst, inl, inr, arith, eq-eqb, ltb-true, lt-ltb}
use Rattle.std.proofs.lemmas.Bool.{cases_Bool, and_parts, and_from, or_cases, or_left, or_right, cases_lt}
use Rattle.std.proofs.lemmas.Grind.{common_steps}
use Rattle.model.specs.sites.Sites.{SiteSet}
use Rattle.model.specs.trees.Places.{Around}
use Rattle.model.specs.trees.Sound.{or_later}
use Rattle.model.specs.trees.Tests.{Test, IsOpen, open_tests, Score, score, is_greater}
use Rattle.model.specs.trees.Best.{IsGreatest}
use Rattle.model.proofs.Members.{nothing_in, in_head, in_tail, in_cases}
use Rattle.laws_trees.specs.Scores.{ScoresAreOrdered, OneTestIsGreatest}
use Rattle.laws_trees.proofs.OpenTests.{open_listed, listed_open}
use Rattle.laws_trees.proofs.runs.Order.{not_below, below_chain}

-- 1. one number, and what follows where two are the same

module _ (a : ℕ) (t : Bool) where
  pub one_itself : or_later (nat_lt a a) (a == a) t ≡ true → t ≡ true
  one_itself h = elim (or_cases (nat_lt a a) ((a == a) && t) h) [ inl l ↦ absurd (not_below a l) | inr r ↦ (and_parts (a == a) t r).1 ]

-- three numbers, and the tests that decide where two of them are the same: of the first and the second, of the second and
-- the third, and so of the first and the third
record ThreeNumbers : Type 0 where
  first : ℕ
  second : ℕ
  third : ℕ
  after_first : Bool
  after_second : Bool
  after_both : Bool
  next : after_first ≡ true → after_second ≡ true → after_both ≡ true

module _ (of : ThreeNumbers) where
  -- whatever compares the numbers
  chain : (p q r : Bool) → (p ≡ true → q ≡ true → r ≡ true) → (p ≡ true → of.second ≡ of.third → r ≡ true) → (of.first ≡ of.second → q ≡ true → r ≡ true)
      → or_later p (of.first == of.second) of.after_first ≡ true → or_later q (of.second == of.third) of.after_second ≡ true → or_later r (of.first == of.third) of.after_both ≡ true
  chain p q r both left right h k = grind (arith, common_steps, or_cases, and_parts, or_right, and_from, or_left)

  chain_up : or_later (nat_lt of.first of.second) (of.first == of.second) of.after_first ≡ true
      → or_later (nat_lt of.second of.third) (of.second == of.third) of.after_second ≡ true → or_later (nat_lt of.first of.third) (of.first == of.third) of.after_both ≡ true
  chain_up = grind (arith, common_steps, chain, below_chain)

  chain_down : or_later (nat_lt of.second of.first) (of.first == of.second) of.after_first ≡ true
      → or_later (nat_lt of.third of.second) (of.second == of.third) of.after_second ≡ true → or_later (nat_lt of.third of.first) (of.first == of.third) of.after_both ≡ true
  chain_down = grind (arith, common_steps, chain, below_chain)

-- two numbers, and the tests that decide where they are the same: of the first and the second, and turned round
record TwoNumbers : Type 0 where
  first : ℕ
  second : ℕ
  after : Bool
  turned : Bool
  next : first ≡ second → (after ≡ true) ⊎ (turned ≡ true)

module _ (of : TwoNumbers) where
  first_lower : of.first < of.second → or_later (nat_lt of.first of.second) (of.first == of.second) of.after ≡ true
  first_lower l = or_left (nat_lt of.first of.second) ((of.first == of.second) && of.after) (lt-ltb of.first of.second l)

  second_lower : of.second < of.first → or_later (nat_lt of.second of.first) (of.second == of.first) of.turned ≡ true
  second_lower l = or_left (nat_lt of.second of.first) ((of.second == of.first) && of.turned) (lt-ltb of.second of.first l)

  here : (x : Bool) → of.first ≡ of.second → of.after ≡ true → or_later x (of.first == of.second) of.after ≡ true
  here x e h = or_right x ((of.first == of.second) && of.after) (and_from (of.first == of.second) of.after (eq-eqb of.first of.second e) h)

  there : (x : Bool) → of.first ≡ of.second → of.turned ≡ true → or_later x (of.second == of.first) of.turned ≡ true
  there x e h = or_right x ((of.second == of.first) && of.turned) (and_from (of.second == of.first) of.turned (eq-eqb of.second of.first (sym e)) h)

  compare_up : (or_later (nat_lt of.first of.second) (of.first == of.second) of.after ≡ true) ⊎ (or_later (nat_lt of.second of.first) (of.second == of.first) of.turned ≡ true)
  compare_up = grind (arith, common_steps, cases_lt, first_lower, second_lower, here, there)

  compare_down : (or_later (nat_lt of.second of.first) (of.first == of.second) of.after ≡ true) ⊎ (or_later (nat_lt of.first of.second) (of.second == of.first) of.turned ≡ true)
  compare_down = grind (arith, common_steps, cases_lt, or_left, here, there)

-- 2. scores
abbrev by_site : Score → Score → Bool
by_site x y = or_later (nat_lt x.site y.site) (x.site == y.site) (nat_lt x.other y.other)

abbrev by_form : Score → Score → Bool
by_form x y = or_later (nat_lt x.form y.form) (x.form == y.form) (by_site x y)

abbrev by_emitted : Score → Score → Bool
by_emitted x y = or_later (nat_lt y.emitted x.emitted) (x.emitted == y.emitted) (by_form x y)

greater_itself : (x : Score) → is_greater x x ≡ true → ⊥
greater_itself x h = grind (arith, common_steps, not_below, one_itself)

not_greater_itself : (x : Score) → is_greater x x ≡ false
not_greater_itself x = elim (cases_Bool (is_greater x x)) [ inl t ↦ absurd (greater_itself x t) | inr f ↦ f ]

greater_chain : (x y z : Score) → is_greater x y ≡ true → is_greater y z ≡ true → is_greater x z ≡ true
greater_chain x y z = chain_down record {
  first = x.count;
  second = y.count;
  third = z.count;
  after_first = by_emitted x y;
  after_second = by_emitted y z;
  after_both = by_emitted x z;
  next = chain_down record {
    first = x.emitted;
    second = y.emitted;
    third = z.emitted;
    after_first = by_form x y;
    after_second = by_form y z;
    after_both = by_form x z;
    next = chain_up record {
      first = x.form;
      second = y.form;
      third = z.form;
      after_first = by_site x y;
      after_second = by_site y z;
      after_both = by_site x z;
      next = chain_up record {
        first = x.site;
        second = y.site;
        third = z.site;
        after_first = nat_lt x.other y.other;
        after_second = nat_lt y.other z.other;
        after_both = nat_lt x.other z.other;
        next = λ h k. let p = ltb-true x.other y.other h in let q = ltb-true y.other z.other k in lt-ltb x.other z.other (omega arith);
      };
    };
  };
}

differ_last : (a b : ℕ) → a ≢ b → (nat_lt a b ≡ true) ⊎ (nat_lt b a ≡ true)
differ_last a b d = elim (cases_lt a b) [ inl l ↦ inl (lt-ltb a b l) | inr l ↦ inr (lt-ltb b a (omega arith)) ]

compare_scores : (x y : Score) → (x.form ≡ y.form → x.site ≡ y.site → x.other ≡ y.other → ⊥) → (is_greater x y ≡ true) ⊎ (is_greater y x ≡ true)
compare_scores x y d = grind (arith, common_steps, compare_down, compare_up, differ_last)

same_tests : (set : SiteSet) (ar : Around) (here : List ℕ) (t u : Test)
    → (score set ar here t).form ≡ (score set ar here u).form → (score set ar here t).site ≡ (score set ar here u).site → (score set ar here t).other ≡ (score set ar here u).other → t ≡ u
same_tests set ar here t u f g h = grind (arith, common_steps)

compare_tests : (set : SiteSet) (ar : Around) (here : List ℕ) (t u : Test) → t ≢ u
    → (is_greater (score set ar here t) (score set ar here u) ≡ true) ⊎ (is_greater (score set ar here u) (score set ar here t) ≡ true)
compare_tests set ar here t u d = compare_scores (score set ar here t) (score set ar here u) (λ f g h. d (same_tests set ar here t u f g h))

pub scores_are_ordered_lem : ScoresAreOrdered
scores_are_ordered_lem = record { itself = not_greater_itself; chain = greater_chain; compare = compare_tests }

-- 3. the greatest
module _ (set : SiteSet) (ar : Around) (here : List ℕ) where
  abbrev of : Test → Score
  of t = score set ar here t

  abbrev Greatest : List Test → Type 0
  Greatest xs = (u : Test) × Contains xs u × ((v : Test) → Contains xs v → is_greater (of v) (of u) ≡ false)

  not_above : (x u v : Test) → is_greater (of x) (of u) ≡ true → is_greater (of v) (of u) ≡ false → is_greater (of v) (of x) ≡ false
  not_above x u v h k = grind (arith, common_steps, greater_chain)

  greatest_of : (x : Test) (xs : List Test) → Greatest (x ∷ xs)
  greatest_of x [] =
      (x, in_head x [], λ v c. elim (in_cases x v [] c) [ inl e ↦ subst (λ w. is_greater (of w) (of x) ≡ false) e (not_greater_itself (of x)) | inr d ↦ absurd (nothing_in v d) ])
  greatest_of x (y ∷ ys) =
      let g = greatest_of y ys in
      elim (cases_Bool (is_greater (of x) (of g.0))) [
        | inl t ↦ (
          x,
          in_head x (y ∷ ys),
          λ v c. elim (in_cases x v (y ∷ ys) c) [ inl e ↦ subst (λ w. is_greater (of w) (of x) ≡ false) e (not_greater_itself (of x)) | inr d ↦ not_above x g.0 v t (g.2 v d) ],
        )
        | inr f ↦ (
          g.0,
          in_tail x g.0 (y ∷ ys) g.1,
          λ v c. elim (in_cases x v (y ∷ ys) c) [ inl e ↦ subst (λ w. is_greater (of w) (of g.0) ≡ false) e f | inr d ↦ g.2 v d ],
        )
      ]

  greatest_among : (xs : List Test) (t : Test) → Contains xs t → Greatest xs
  greatest_among [] t c = absurd (nothing_in t c)
  greatest_among (x ∷ xs) t c = greatest_of x xs

  same_or_apart : (x y : Score) → ((x.form ≡ y.form) × (x.site ≡ y.site) × (x.other ≡ y.other)) ⊎ (x.form ≡ y.form → x.site ≡ y.site → x.other ≡ y.other → ⊥)
  same_or_apart x y = grind (arith, common_steps, and_parts, and_from)

  one_greatest : (u v : Test) → IsGreatest set ar here u → IsGreatest set ar here v → v ≡ u
  one_greatest u v g h = grind (arith, common_steps, same_or_apart, same_tests, compare_scores)

  the_greatest : (t : Test) → IsOpen set ar t → (u : Test) × IsGreatest set ar here u × ((v : Test) → IsGreatest set ar here v → v ≡ u)
  the_greatest t o =
      let g = greatest_among (open_tests set ar) t (open_listed set ar t o) in
      let top : IsGreatest set ar here g.0 = record { open_here = listed_open set ar g.0 g.1; greatest = λ v p. g.2 v (open_listed set ar v p) } in
      (g.0, top, λ v h. one_greatest g.0 v top h)

pub one_test_is_greatest_lem : OneTestIsGreatest
one_test_is_greatest_lem set ar here t o = the_greatest set ar here t o
