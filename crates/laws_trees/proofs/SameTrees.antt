-- A best tree looks at the rules of a set only through what they show.
use Rattle.std.proofs.Common.{◌≡◌, ℕ, zero, suc, ◌<◌, Bool, false, not, ◌&&◌, ◌||◌, nat_lt, List, [], ◌∷◌, ◌++◌, length, Option, Some, None, slice_get, All, IsTrue, filter, refl, sym, ap, ap₂, ◌∙◌, subst, subst₂, int_eq, arith}
use Rattle.std.specs.List.{list_all}
use Rattle.std.specs.Ordering.{int_cmp, is_lt}
use Rattle.std.proofs.lemmas.Option.{none-some, same_Some}
use Rattle.std.proofs.lemmas.Grind.{common_steps}
use Rattle.model.specs.sites.Sites.{Site, Constraint, SetRule, SiteSet}
use Rattle.model.specs.trees.Trees.{Tree, step, match_at, equal_at, loop_at, arm, Marked, m_no_step, m_step, MarkedCheck, m_match, m_equal, m_loop, m_return, MarkedArms, m_no_arm, m_arm, marks, marks_arms, return_of, plain, plain_check, plain_arms}
use Rattle.model.specs.trees.Places.{Around, nothing_around, uses, emits, all_below, bind_order, in_arm, in_equal, in_loop, after_step}
use Rattle.model.specs.trees.Sound.{or_later, AllAsk, is_return}
use Rattle.model.specs.trees.Tests.{Test, match_test, equal_test, loop_test, is_needed, priority, needs_at, is_lower, is_covered, cover, is_open, score, is_greater}
use Rattle.model.specs.trees.Best.{IsGreatest, IsMade, IsEnd, BestSteps, BestCheck, BestArms, comes_first, descend, IsBestTree}
use Rattle.laws_trees.specs.OneAnswer.{EachTwo, ShowSame, BestTreesAreOfWhatIsShown}
use Rattle.laws_trees.proofs.StepCounts.{steps_make_best_trees_lem}

-- 1. rules at one place
abbrev BothShowSame : Option SetRule → Option SetRule → Type 0
BothShowSame None None = Unit {0}
BothShowSame (Some a) (Some b) = ShowSame a b
BothShowSame _ _ = ⊥

same_at : (rs qs : List SetRule) → EachTwo ShowSame rs qs → (i : ℕ) → BothShowSame (slice_get rs i) (slice_get qs i)
same_at [] [] h i = tt
same_at [] (q ∷ qs) h i = absurd h
same_at (r ∷ rs) [] h i = absurd h
same_at (r ∷ rs) (q ∷ qs) h zero = h.0
same_at (r ∷ rs) (q ∷ qs) h (suc i) = same_at rs qs h.1 i

as_many : (rs qs : List SetRule) → EachTwo ShowSame rs qs → length rs ≡ length qs
as_many [] [] h = refl
as_many [] (q ∷ qs) h = absurd h
as_many (r ∷ rs) [] h = absurd h
as_many (r ∷ rs) (q ∷ qs) h = ap suc (as_many rs qs h.1)

needed_same : (t : Test) (o q : Option SetRule) → BothShowSame o q → is_needed t o ≡ is_needed t q
needed_same t o q h = grind (arith, common_steps)

priority_same : (o q : Option SetRule) → BothShowSame o q → priority o ≡ priority q
priority_same o q h = grind (arith, common_steps)

return_same : (o q : Option SetRule) → BothShowSame o q → return_of o ≡ return_of q
return_same o q h = grind (arith, common_steps)

shown_by : (o q : Option SetRule) → BothShowSame o q → (b : SetRule) → q ≡ Some b → (a : SetRule) × (o ≡ Some a) × ShowSame a b
shown_by o q h b e = grind (arith, common_steps, none-some, same_Some)

module _ (sites : List Site) (rs qs : List SetRule) (same : EachTwo ShowSame rs qs) where
  abbrev one : SiteSet
  one = record { rules = rs; sites = sites }

  abbrev other : SiteSet
  other = record { rules = qs; sites = sites }

  -- 2. covers, scores and greatest tests
  needs_same : (t : Test) (i : ℕ) → needs_at rs t i ≡ needs_at qs t i
  needs_same t i = needed_same t (slice_get rs i) (slice_get qs i) (same_at rs qs same i)

  prio_same : (i : ℕ) → priority (slice_get rs i) ≡ priority (slice_get qs i)
  prio_same i = priority_same (slice_get rs i) (slice_get qs i) (same_at rs qs same i)

  lower_same : (i j : ℕ) → is_lower rs i j ≡ is_lower qs i j
  lower_same i j = ap₂ (λ y z. is_lt (int_cmp y z)) (prio_same i) (prio_same j)

  covered_same : (here : List ℕ) (t : Test) (i : ℕ) → is_covered rs here t i ≡ is_covered qs here t i
  covered_same here t i = λ k. needs_same t i k && list_all (λ j. needs_same t j k || not (lower_same i j k)) here

  cover_same : (here : List ℕ) (t : Test) → cover rs here t ≡ cover qs here t
  cover_same here t = λ k. filter (λ i. covered_same here t i k) here

  score_same : (ar : Around) (here : List ℕ) (t : Test) → score one ar here t ≡ score other ar here t
  score_same ar here t = grind (arith, common_steps, cover_same)

  open_same : (ar : Around) (t : Test) → is_open one ar t ≡ is_open other ar t
  open_same ar t = grind (arith, common_steps)

  greatest : (ar : Around) (here : List ℕ) (t : Test) → IsGreatest one ar here t → IsGreatest other ar here t
  greatest ar here t g = record {
    open_here = subst IsTrue (open_same ar t) g.open_here;
    greatest = λ u o. subst₂ (λ a b. is_greater a b ≡ false) (score_same ar here u) (score_same ar here t) (g.greatest u (subst IsTrue (sym (open_same ar u)) o));
  }

  -- 3. steps
  made : (ar : Around) (held later : List ℕ) (t : Test) → IsMade one ar held later t → IsMade other ar held later t
  made ar held later t m = record { test = greatest ar (held ++ later) t m.test; rules = sym (cover_same (held ++ later) t) ∙ m.rules; some_rule = m.some_rule }

  first_same : (i j : ℕ) → comes_first rs i j ≡ comes_first qs i j
  first_same i j = λ k. or_later (lower_same j i k) (int_eq (prio_same j k) (prio_same i k)) (nat_lt i j)

  descend_same : (here : List ℕ) → descend rs here ≡ descend qs here
  descend_same [] = refl
  descend_same (i ∷ is) = (let rest = descend_same is in λ k. list_all (λ j. first_same i j k) is && rest k)

  end : (ar : Around) (here : List ℕ) → IsEnd one ar here → IsEnd other ar here
  end ar here e = grind (arith, common_steps, cover_same here, open_same ar, descend_same here)

  ask : (here : List ℕ) (s : ℕ) (c : Constraint) → AllAsk rs here s c → AllAsk qs here s c
  ask here s c all i q k e = grind (arith, common_steps, shown_by (slice_get rs i) (slice_get qs i) (same_at rs qs same i) q e, same_at rs qs same i)

  uses_same : (check : MarkedCheck) → uses one check ≡ uses other check
  uses_same check = grind (arith, common_steps, same_at rs qs same)

  emits_same : (check : MarkedCheck) → emits one check ≡ emits other check
  emits_same (m_match source arms) = refl
  emits_same (m_equal a b body) = refl
  emits_same (m_loop result body) = refl
  emits_same (m_return rule) = ap (all_below sites) (uses_same (m_return rule))

  after_same : (ar : Around) (check : MarkedCheck) → after_step one ar check ≡ after_step other ar check
  after_same ar check = ap (λ e. record ar { emitted = e ++ ar.emitted }) (emits_same check)

  mutual
    steps : (m : Marked) (ar : Around) (closing : Bool) → BestSteps one ar closing m → BestSteps other ar closing m
    steps m_no_step ar closing x = tt
    steps (m_step binds check rest) ar closing x = (
      x.0 ∙ ap (bind_order sites ar) (uses_same check),
      check_steps check ar closing (marks rest) x.1,
      subst (λ z. BestSteps other z (is_return check) rest) (after_same ar check) (steps rest (after_step one ar check) (is_return check) x.2),
    )

    check_steps : (check : MarkedCheck) (ar : Around) (closing : Bool) (later : List ℕ) → BestCheck one ar closing later check → BestCheck other ar closing later check
    check_steps (m_match source arms) ar closing later x = (x.0, made ar (marks_arms arms) later (match_test source) x.1, arms_steps arms ar source None x.2)
    check_steps (m_equal a b body) ar closing later x = (x.0, made ar (marks body) later (equal_test a b) x.1, steps body (in_equal one ar a b) false x.2)
    check_steps (m_loop result body) ar closing later x =
        (x.0, (x.1.0, x.1.1, made ar (marks body) later (loop_test x.1.0) x.1.2), steps body (in_loop one ar result) false x.2)
    check_steps (m_return rule) ar closing later x = λ c. end ar (rule ∷ later) (x c)

    arms_steps : (arms : MarkedArms) (ar : Around) (source : ℕ) (before : Option Constraint) → BestArms one ar source before arms → BestArms other ar source before arms
    arms_steps m_no_arm ar source before x = tt
    arms_steps (m_arm c fields body rest) ar source before x =
        (x.0, x.1, ask (marks body) source c x.2, x.3, steps body (in_arm one ar source c fields) false x.4, arms_steps rest ar source (Some c) x.5)

  -- 4. returns
  mutual
    plain_same : (m : Marked) → plain rs m ≡ plain qs m
    plain_same m_no_step = refl
    plain_same (m_step binds check rest) = ap₂ (step binds) (plain_check_same check) (plain_same rest)

    plain_check_same : (check : MarkedCheck) → plain_check rs check ≡ plain_check qs check
    plain_check_same (m_match source arms) = ap (match_at source) (plain_arms_same arms)
    plain_check_same (m_equal a b body) = ap (equal_at a b) (plain_same body)
    plain_check_same (m_loop result body) = ap (loop_at result) (plain_same body)
    plain_check_same (m_return rule) = return_same (slice_get rs rule) (slice_get qs rule) (same_at rs qs same rule)

    plain_arms_same : (arms : MarkedArms) → plain_arms rs arms ≡ plain_arms qs arms
    plain_arms_same m_no_arm = refl
    plain_arms_same (m_arm c fields body rest) = ap₂ (arm c fields) (plain_same body) (plain_arms_same rest)

  best : (tree : Tree) → IsBestTree one tree → IsBestTree other tree
  best tree b =
      let count = as_many rs qs same in
      steps_make_best_trees_lem other tree b.marked
      (record {
        same = sym (plain_same b.marked) ∙ b.returns.same;
        once = λ i l. b.returns.once i (subst (λ n. i < n) (sym count) l);
        known = subst (λ n. All (λ i. i < n) (marks b.marked)) count b.returns.known;
      })
      (steps b.marked nothing_around false b.steps)

pub best_trees_are_of_what_is_shown_lem : BestTreesAreOfWhatIsShown
best_trees_are_of_what_is_shown_lem a b tree s t = grind (arith, common_steps, best)
