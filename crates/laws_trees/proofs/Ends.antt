-- At the end of a block, the demands of a rule than which none there is higher were all tested.
use Rattle.std.proofs.Common.{◌≡◌, ◌⊎◌, ℕ, ◌<◌, true, false, not, ◌&&◌, ◌||◌, nat_lt, List, [], map, length, Some, is_some, slice_get, Contains, ◌≤ℤ◌, sym, ap, ◌∙◌, subst, inl, inr, arith, eqb-true, eq-eqb, lt-ltb}
use Rattle.std.proofs.lemmas.Bool.{cases_Bool, and_from, or_left, or_right, cases_lt}
use Rattle.std.proofs.lemmas.Option.{same_Some}
use Rattle.std.proofs.lemmas.List.Elements.{Contains-append_cases}
use Rattle.std.proofs.lemmas.Grind.{common_steps}
use Rattle.model.specs.sites.Sites.{Constraint, SetRule, SiteSet}
use Rattle.model.specs.trees.Places.{Around, is_in, class, joins, joins_in, available}
use Rattle.model.specs.trees.Sound.{IsTested}
use Rattle.model.specs.trees.Tests.{Test, match_test, equal_test, loop_test, needs, is_needed, needs_at, cover, sources_around, is_at_hand, IsOpen}
use Rattle.model.specs.trees.WellBuilt.{tests_site, IsWellBuiltRule}
use Rattle.model.proofs.Members.{nothing_in, constraint_in, from_map, member_found, member_is_in}
use Rattle.laws_trees.proofs.Availability.{Made, TreePlace, within, reach}
use Rattle.laws_trees.proofs.Covers.{prio_at, top_is_covered}
use Rattle.laws_trees.proofs.JudgeExactness.{not_exact}
use Rattle.laws_trees.proofs.Passing.{Passed}
use Rattle.laws_trees.proofs.runs.RuleDemands.{joined_itself, joined_back}

pub joins_turned : (ps : List (ℕ × ℕ)) (a b : ℕ) → joins ps a b ≡ true → joins ps b a ≡ true
joins_turned ps a b h = eq-eqb (class ps b) (class ps a) (sym (eqb-true (class ps a) (class ps b) h))

-- a rule of a list than which none there is higher, and that passed what is around
pub record TopRule (set : SiteSet) (ar : Around) (here : List ℕ) : Type 0 where
  pub number : ℕ
  pub rule : SetRule
  pub in_here : Contains here number
  pub at : slice_get set.rules number ≡ Some rule
  pub top : (j : ℕ) → Contains here j → prio_at set.rules j ≤ℤ prio_at set.rules number
  pub passed : Passed ar rule

-- the end of a block at a place: none of the tests that are open covers one of the rules that are left
pub record EndedBlock (set : SiteSet) : Type 0 where
  pub place : TreePlace set
  pub here : List ℕ
  pub over : (u : Test) → IsOpen set place.around u → cover set.rules here u ≡ []

module _ (set : SiteSet) (block : EndedBlock set) (top : TopRule set block.place.around block.here) where
  abbrev well_built : IsWellBuiltRule set.sites top.rule
  well_built = block.place.built.each top.number top.rule top.at

  -- no open test is one that the rule needs
  needs_none : (t : Test) → IsOpen set block.place.around t → needs t top.rule ≡ true → ⊥
  needs_none t free n =
      let needed : needs_at set.rules t top.number ≡ true = ap (is_needed t) top.at ∙ n in
      nothing_in top.number (subst (λ l. Contains l top.number) (block.over t free) (top_is_covered set.rules t block.here top.number top.in_here needed top.top))

  at_hand : (s : ℕ) → s < length set.sites → available set.sites block.place.around s ≡ true → is_at_hand set block.place.around s ≡ true
  at_hand s l h = and_from (nat_lt s (length set.sites)) (available set.sites block.place.around s) (lt-ltb s (length set.sites) l) h

  open_site : (s : ℕ) → s < length set.sites → available set.sites block.place.around s ≡ true → is_in s (sources_around block.place.around) ≡ false
      → (is_at_hand set block.place.around s && not (is_in s (sources_around block.place.around))) ≡ true
  open_site s l h f = and_from (is_at_hand set block.place.around s) (not (is_in s (sources_around block.place.around))) (at_hand s l h) ((not_exact (is_in s (sources_around block.place.around))).1 f)

  -- the source of an arm or of a loop around
  closed_by : (s : ℕ) → is_in s (sources_around block.place.around) ≡ true → ((c : Constraint) × Contains block.place.around.tested (s, c)) ⊎ Contains block.place.around.looped s
  closed_by s h =
      elim (Contains-append_cases (map (λ (d : ℕ × Constraint). d.0) block.place.around.tested) block.place.around.looped s (member_found s (sources_around block.place.around) h)) [
        | inl a ↦
            let d = from_map (λ (d : ℕ × Constraint). d.0) block.place.around.tested s a in
            inl (d.0.1, subst (λ x. Contains block.place.around.tested (x, d.0.1)) d.2 d.1)
        | inr b ↦ inr b
      ]

  matched : (s : ℕ) (c : Constraint) → s < length set.sites → Contains top.rule.constraints (s, c) → available set.sites block.place.around s ≡ true → Contains block.place.around.tested (s, c)
  matched s c l k h =
      elim (cases_Bool (is_in s (sources_around block.place.around))) [
        | inr f ↦ absurd (needs_none (match_test s) (open_site s l h f) (ap is_some (well_built.asks_once s c k)))
        | inl t ↦
            elim (closed_by s t) [
              | inl d ↦
                  let same = same_Some d.0 c (sym (top.passed.asks s d.0 d.1) ∙ well_built.asks_once s c k) in
                  subst (λ x. Contains block.place.around.tested (s, x)) same d.1
              | inr d ↦ absurd (well_built.asks_or_goes_over s c k (top.passed.goes_over s d))
            ]
      ]

  looped : (s : ℕ) → s < length set.sites → Contains top.rule.iterators s → available set.sites block.place.around s ≡ true → Contains block.place.around.looped s
  looped s l k h =
      elim (cases_Bool (is_in s (sources_around block.place.around))) [
        | inr f ↦ absurd (needs_none (loop_test s) (open_site s l h f) (member_is_in s top.rule.iterators k))
        | inl t ↦
            elim (closed_by s t) [
              | inl d ↦ absurd (well_built.asks_or_goes_over s d.0 (constraint_in top.rule.constraints s d.0 (top.passed.asks s d.0 d.1)) k)
              | inr d ↦ d
            ]
      ]

  made : Made set.sites block.place.around top.rule
  made = record { matched = matched; looped = looped }

  reached : (s : ℕ) → tests_site top.rule s ≡ true → (available set.sites block.place.around s ≡ true) × (s < length set.sites)
  reached s h = (reach set block.place top.rule made s (λ u c. well_built.gates s u h c), within set block.place top.rule made s (λ u c. well_built.gates s u h c))

  by_match : (s : ℕ) (c : Constraint) → Contains top.rule.constraints (s, c) → tests_site top.rule s ≡ true
  by_match s c k =
      or_left (needs (match_test s) top.rule || needs (equal_test s s) top.rule) (needs (loop_test s) top.rule)
      (or_left (needs (match_test s) top.rule) (needs (equal_test s s) top.rule) (ap is_some (well_built.asks_once s c k)))

  by_equal : (a b : ℕ) → joins_in top.rule.classes a b ≡ true → tests_site top.rule a ≡ true
  by_equal a b h = grind (arith, common_steps, or_left, or_right, joined_itself)

  by_loop : (s : ℕ) → Contains top.rule.iterators s → tests_site top.rule s ≡ true
  by_loop s k = or_right (needs (match_test s) top.rule || needs (equal_test s s) top.rule) (needs (loop_test s) top.rule) (member_is_in s top.rule.iterators k)

  joined_up : (a b : ℕ) → a < b → joins_in top.rule.classes a b ≡ true → joins block.place.around.joined a b ≡ true
  joined_up a b l h =
      elim (cases_Bool (joins block.place.around.joined a b)) [
        | inl t ↦ t
        | inr f ↦
            let x = reached a (by_equal a b h) in
            let y = reached b (by_equal b a (joined_back top.rule.classes a b h)) in
            absurd (needs_none (equal_test a b)
            (and_from (nat_lt a b && is_at_hand set block.place.around a && is_at_hand set block.place.around b) (not (joins block.place.around.joined a b))
            (and_from (nat_lt a b && is_at_hand set block.place.around a) (is_at_hand set block.place.around b) (and_from (nat_lt a b) (is_at_hand set block.place.around a) (lt-ltb a b l) (at_hand a x.1 x.0)) (at_hand b y.1 y.0))
            ((not_exact (joins block.place.around.joined a b)).1 f)) h)
      ]

  joined : (a b : ℕ) → joins_in top.rule.classes a b ≡ true → joins block.place.around.joined a b ≡ true
  joined a b h = grind (arith, common_steps, cases_lt, joined_up, joins_turned, joined_back)

  pub end_is_tested : IsTested block.place.around top.rule
  end_is_tested = record {
    constraints = λ s c k. let x = reached s (by_match s c k) in matched s c x.1 k x.0;
    equalities = joined;
    iterators = λ s k. let x = reached s (by_loop s k) in looped s x.1 k x.0;
  }
