-- How best trees grow: by a test that is the greatest of its place, by an arm, and by a return.
use Rattle.std.proofs.Common.{◌≡◌, ◌≢◌, ℕ, Bool, true, false, not, ◌&&◌, ◌||◌, cond, List, [], ◌∷◌, ◌++◌, length, Option, Some, None, slice_get, Contains, IsTrue, refl, sym, ap, ◌∙◌, filter, arith}
use Rattle.std.specs.Prelude.{IsPermutation}
use Rattle.std.specs.List.{list_all}
use Rattle.std.proofs.lemmas.Bool.{and_from, false≢true, not-true}
use Rattle.std.proofs.lemmas.List.Elements.{filter-append}
use Rattle.std.proofs.lemmas.List.Sums.{length-filter}
use Rattle.std.proofs.lemmas.List.Sorted.{IsPermutation-refl, IsPermutation-sym, IsPermutation-cons, IsPermutation-trans, IsPermutation-append, IsPermutation-filter_both, Contains-permutation, sum_by-IsPermutation, length_permutation}
use Rattle.std.proofs.lemmas.List.{nil_from_length, append-nil}
use Rattle.std.proofs.lemmas.Grind.{common_steps}
use Rattle.model.specs.sites.Sites.{iterator_site, Constraint, SetRule, SiteSet, sources_at}
use Rattle.model.specs.trees.Trees.{Tree, no_step, step, match_at, equal_at, loop_at, return_of, Arms, no_arm, arm, Marked, m_no_step, m_step, m_match, m_equal, m_loop, m_return, m_no_arm, m_arm, marks, marks_arms}
use Rattle.model.specs.trees.Places.{Around, return_uses, bind_order, fields_of, constraint_at, in_arm, in_equal, in_loop, after_step}
use Rattle.model.specs.trees.Sound.{IsAfter}
use Rattle.model.specs.trees.Tests.{Test, match_test, equal_test, loop_test, needs_at, is_lower, is_covered, cover, IsOpen, score, is_greater}
use Rattle.model.specs.trees.Best.{IsGreatest, IsMade, comes_first, descend, BestSteps}
use Rattle.model.proofs.Members.{each_passes, all_pass, from_filter}
use Rattle.laws_sites.proofs.overlaps.Overlaps.{bool_same}
use Rattle.core_serialize.specs.Growing.{IsBestFrom, AreEnds, AreBestArms}
use Rattle.core_serialize.specs.AroundViews.{Alike}
use Rattle.core_serialize.proofs.Descents.{all_kept, none_kept}
use Rattle.core_serialize.proofs.EqualSurroundings.{steps_alike}

-- 1. whatever the order of a place's rules
module _ (xs ys : List ℕ) (moved : IsPermutation xs ys) where
  all_moved : (p : ℕ → Bool) → list_all p xs ≡ list_all p ys
  all_moved p =
      bool_same (list_all p xs) (list_all p ys)
      (λ h. all_pass p ys (λ x c. each_passes p xs h x (Contains-permutation ys xs x (IsPermutation-sym xs ys moved) c)))
      (λ h. all_pass p xs (λ x c. each_passes p ys h x (Contains-permutation xs ys x moved c)))

  pub covered_moved : (rules : List SetRule) (t : Test) (i : ℕ) → is_covered rules xs t i ≡ is_covered rules ys t i
  covered_moved rules t i = ap (λ b. needs_at rules t i && b) (all_moved (λ j. needs_at rules t j || not (is_lower rules i j)))

  cover_moved : (rules : List SetRule) (t : Test) → length (cover rules xs t) ≡ length (cover rules ys t)
  cover_moved rules t =
      length-filter (is_covered rules xs t) xs
      ∙ sym (sum_by-IsPermutation (λ i. cond (is_covered rules xs t i) 1 0) xs ys moved)
      ∙ sym (length-filter (is_covered rules xs t) ys)
      ∙ (λ k. length (filter (λ i. covered_moved rules t i k) ys))

  score_moved : (set : SiteSet) (ar : Around) (t : Test) → score set ar xs t ≡ score set ar ys t
  score_moved set ar t = grind (arith, cover_moved)

  greatest_moved : (set : SiteSet) (ar : Around) (t : Test) → IsGreatest set ar xs t → IsGreatest set ar ys t
  greatest_moved set ar t g = record {
    open_here = g.open_here;
    greatest = λ u o. (let a = score_moved set ar u in let b = score_moved set ar t in (λ i. is_greater (sym a i) (sym b i)) ∙ g.greatest u o);
  }

pub some_moved : (xs ys : List ℕ) → IsPermutation xs ys → xs ≢ [] → ys ≢ []
some_moved xs ys m h e = h (nil_from_length xs (sym (length_permutation xs ys m) ∙ ap length e))

-- 2. a test is made where it is the greatest and its step holds what it covers, the rest behind it
module _ (set : SiteSet) (ar : Around) (here : List ℕ) (t : Test) where
  abbrev held : List ℕ
  held = cover set.rules here t

  abbrev rest : List ℕ
  rest = filter (λ i. not (is_covered set.rules here t i)) here

  module _ (hs ls : List ℕ) (mine : IsPermutation held hs) (theirs : IsPermutation rest ls) where
    pub both_moved : IsPermutation here (hs ++ ls)
    both_moved =
        IsPermutation-trans here (held ++ rest) (hs ++ ls)
        (IsPermutation-filter_both (is_covered set.rules here t) (λ i. not (is_covered set.rules here t i)) (λ i. refl) here)
        (IsPermutation-append held hs rest ls mine theirs)

    covered_is : (i : ℕ) → is_covered set.rules (hs ++ ls) t i ≡ is_covered set.rules here t i
    covered_is i = sym (covered_moved here (hs ++ ls) both_moved set.rules t i)

    pub made : IsGreatest set ar here t → held ≢ [] → IsMade set ar hs ls t
    made g some = record {
      test = greatest_moved here (hs ++ ls) both_moved set ar t g;
      rules =
          filter-append (is_covered set.rules (hs ++ ls) t) hs ls
          ∙ (let a =
          all_kept (is_covered set.rules (hs ++ ls) t) hs
          (λ i c. covered_is i ∙ (from_filter (is_covered set.rules here t) here i (Contains-permutation hs held i (IsPermutation-sym held hs mine) c)).1) in
          let b =
          none_kept (is_covered set.rules (hs ++ ls) t) ls
          (λ i c.
          covered_is i
          ∙ not-true (is_covered set.rules here t i) (from_filter (λ i. not (is_covered set.rules here t i)) here i (Contains-permutation ls rest i (IsPermutation-sym rest ls theirs) c)).1) in
          λ k. a k ++ b k)
          ∙ append-nil hs;
      some_rule = some_moved held hs mine some;
    }

-- 3. one step more
module _ (set : SiteSet) (ar : Around) (here : List ℕ) where
  abbrev left_by : Test → List ℕ
  left_by t = filter (λ i. not (is_covered set.rules here t i)) here

  pub match_more : (s : ℕ) (binds : List ℕ) (arms : Arms) (tree : Tree) → IsGreatest set ar here (match_test s) → cover set.rules here (match_test s) ≢ [] → binds ≡ bind_order set.sites ar (s ∷ [])
      → AreBestArms set ar s None (cover set.rules here (match_test s)) arms → IsBestFrom set (after_step set ar (m_match s m_no_arm)) (left_by (match_test s)) tree
      → IsBestFrom set ar here (step binds (match_at s arms) tree)
  match_more s binds arms tree g some e a b = record {
    marked = m_step binds (m_match s a.marked) b.marked;
    same = let x = a.same in let y = b.same in λ i. step binds (match_at s (x i)) (y i);
    rules = both_moved set ar here (match_test s) (marks_arms a.marked) (marks b.marked) a.rules b.rules;
    steps = (e, (refl, made set ar here (match_test s) (marks_arms a.marked) (marks b.marked) a.rules b.rules g some, a.best), b.steps);
  }

  pub equal_more : (x y : ℕ) (binds : List ℕ) (body tree : Tree) → IsGreatest set ar here (equal_test x y) → cover set.rules here (equal_test x y) ≢ [] → binds ≡ bind_order set.sites ar (x ∷ (y ∷ []))
      → IsBestFrom set (in_equal set ar x y) (cover set.rules here (equal_test x y)) body → IsBestFrom set (after_step set ar (m_equal x y m_no_step)) (left_by (equal_test x y)) tree
      → IsBestFrom set ar here (step binds (equal_at x y body) tree)
  equal_more x y binds body tree g some e a b = record {
    marked = m_step binds (m_equal x y a.marked) b.marked;
    same = let p = a.same in let q = b.same in λ i. step binds (equal_at x y (p i)) (q i);
    rules = both_moved set ar here (equal_test x y) (marks a.marked) (marks b.marked) a.rules b.rules;
    steps = (e, (refl, made set ar here (equal_test x y) (marks a.marked) (marks b.marked) a.rules b.rules g some, a.steps), b.steps);
  }

  pub loop_more : (s result : ℕ) (binds : List ℕ) (body tree : Tree) → slice_get set.sites result ≡ Some (iterator_site s) → IsGreatest set ar here (loop_test s) → cover set.rules here (loop_test s) ≢ []
      → binds ≡ bind_order set.sites ar (sources_at set.sites result)
      → IsBestFrom set (in_loop set ar result) (cover set.rules here (loop_test s)) body → IsBestFrom set (after_step set ar (m_loop result m_no_step)) (left_by (loop_test s)) tree
      → IsBestFrom set ar here (step binds (loop_at result body) tree)
  loop_more s result binds body tree at g some e a b = record {
    marked = m_step binds (m_loop result a.marked) b.marked;
    same = let p = a.same in let q = b.same in λ i. step binds (loop_at result (p i)) (q i);
    rules = both_moved set ar here (loop_test s) (marks a.marked) (marks b.marked) a.rules b.rules;
    steps = (e, (refl, (s, at, made set ar here (loop_test s) (marks a.marked) (marks b.marked) a.rules b.rules g some), a.steps), b.steps);
  }

-- 4. one arm more
module _ (set : SiteSet) (ar : Around) (s : ℕ) where
  pub no_arms : (before : Option Constraint) → AreBestArms set ar s before [] no_arm
  no_arms before = record { marked = m_no_arm; same = refl; rules = IsPermutation-refl []; best = tt }

  pub arm_more : (before : Option Constraint) (c : Constraint) (p : ℕ → Bool) (here : List ℕ) (fields : List (Option ℕ)) (body : Tree) (arms : Arms)
      → IsAfter before c → filter p here ≢ [] → ((i : ℕ) (r : SetRule) → p i ≡ true → slice_get set.rules i ≡ Some r → constraint_at r.constraints s ≡ Some c)
      → fields ≡ fields_of set.sites s c → IsBestFrom set (in_arm set ar s c fields) (filter p here) body
      → AreBestArms set ar s (Some c) (filter (λ i. not (p i)) here) arms → AreBestArms set ar s before here (arm c fields body arms)
  arm_more before c p here fields body arms after some asks f b a = record {
    marked = m_arm c fields b.marked a.marked;
    same = let x = b.same in let y = a.same in λ i. arm c fields (x i) (y i);
    rules =
        IsPermutation-trans here (filter p here ++ filter (λ i. not (p i)) here) (marks b.marked ++ marks_arms a.marked) (IsPermutation-filter_both p (λ i. not (p i)) (λ i. refl) here)
        (IsPermutation-append (filter p here) (marks b.marked) (filter (λ i. not (p i)) here) (marks_arms a.marked) b.rules a.rules);
    best = (
      after,
      some_moved (filter p here) (marks b.marked) b.rules some,
      λ i r k e. asks i r (from_filter p here i (Contains-permutation (marks b.marked) (filter p here) i (IsPermutation-sym (filter p here) (marks b.marked) b.rules) k)).1 e,
      f,
      b.steps,
      a.best,
    );
  }

-- 5. returns
module _ (set : SiteSet) where
  pub no_ends : (ar : Around) → AreEnds set ar [] no_step
  no_ends ar = record { marked = m_no_step; same = refl; rules = IsPermutation-refl []; ordered = refl; steps = tt }

  pub end_more : (ar : Around) (here rest : List ℕ) (i : ℕ) (binds : List ℕ) (tree : Tree) → IsPermutation here (i ∷ rest) → ((j : ℕ) → Contains rest j → comes_first set.rules i j ≡ true)
      → binds ≡ bind_order set.sites ar (return_uses (slice_get set.rules i)) → AreEnds set (after_step set ar (m_return i)) rest tree → AreEnds set ar here (step binds (return_of (slice_get set.rules i)) tree)
  end_more ar here rest i binds tree moved first e a = record {
    marked = m_step binds (m_return i) a.marked;
    same = ap (step binds (return_of (slice_get set.rules i))) a.same;
    rules = IsPermutation-trans here (i ∷ rest) (i ∷ marks a.marked) moved (IsPermutation-cons i rest (marks a.marked) a.rules);
    ordered =
        and_from (list_all (comes_first set.rules i) (marks a.marked)) (descend set.rules (marks a.marked))
        (all_pass (comes_first set.rules i) (marks a.marked) (λ j c. first j (Contains-permutation (marks a.marked) rest j (IsPermutation-sym rest (marks a.marked) a.rules) c))) a.ordered;
    steps = (e, (λ z. absurd (false≢true (sym z))), a.steps);
  }

  -- where no open test covers a rule, they close a block
  closed : (ar : Around) (m : Marked) → ((u : Test) → IsOpen set ar u → cover set.rules (marks m) u ≡ []) → IsTrue (descend set.rules (marks m)) → BestSteps set ar true m → BestSteps set ar false m
  closed ar m_no_step over o b = tt
  closed ar (m_step binds (m_return i) more) over o b = (b.0, (λ z. record { over = over; ordered = o }), b.2)
  closed ar _ over o b = absurd (false≢true (sym b.1.0))

  pub ends_close : (ar : Around) (here : List ℕ) (tree : Tree) → ((u : Test) → IsOpen set ar u → cover set.rules here u ≡ []) → AreEnds set ar here tree → IsBestFrom set ar here tree
  ends_close ar here tree over a = grind (arith, common_steps, closed ar a.marked, nil_from_length, cover_moved here (marks a.marked) a.rules set.rules)

  -- at places that agree
  pub from_alike : (ar br : Around) (here : List ℕ) (tree : Tree) → Alike ar br → IsBestFrom set ar here tree → IsBestFrom set br here tree
  from_alike ar br here tree a b = record { marked = b.marked; same = b.same; rules = b.rules; steps = steps_alike set b.marked ar br false a b.steps }

  pub ends_alike : (ar br : Around) (here : List ℕ) (tree : Tree) → Alike ar br → AreEnds set ar here tree → AreEnds set br here tree
  ends_alike ar br here tree a b = record { marked = b.marked; same = b.same; rules = b.rules; ordered = b.ordered; steps = steps_alike set b.marked ar br true a b.steps }
