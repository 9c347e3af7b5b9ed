-- A best tree of a well built set is sound.
use Rattle.std.proofs.Common.{◌≡◌, ℕ, ◌<◌, Bool, true, false, not, ◌&&◌, ◌||◌, List, [], ◌∷◌, ◌++◌, length, Option, Some, None, slice_get, Contains, IsTrue, ◌≤ℤ◌, refl, sym, ap, ◌∙◌, subst, inl, inr, arith}
use Rattle.std.proofs.lemmas.Bool.{cases_Bool, and_parts, false≢true}
use Rattle.std.proofs.lemmas.Int.{ints}
use Rattle.std.proofs.lemmas.List.Elements.{Contains-append_left, Contains-append_right, All-contains}
use Rattle.std.proofs.lemmas.Grind.{common_steps}
use Rattle.model.specs.sites.Sites.{iterator_site, Constraint, SetRule, SiteSet}
use Rattle.model.specs.trees.Trees.{Marked, m_no_step, m_step, MarkedCheck, m_match, m_equal, m_loop, m_return, MarkedArms, m_no_arm, m_arm, marks, marks_arms}
use Rattle.model.specs.trees.Places.{Around, nothing_around, is_in, fields_of, field_sites, in_arm, in_equal, in_loop, after_step, available}
use Rattle.model.specs.trees.Sound.{IsTested, NoneHigher, AllAsk, AllJoin, AllGoOver, SoundSteps, SoundArms}
use Rattle.model.specs.trees.Tests.{match_test, equal_test, loop_test, priority, sources_around, is_at_hand}
use Rattle.model.specs.trees.Best.{IsEnd, descend, BestSteps, BestArms}
use Rattle.model.specs.trees.WellBuilt.{IsWellBuilt, HasOnePriority, BestTreesAreSound}
use Rattle.model.proofs.Members.{nothing_in, in_head, in_tail, in_cases, get_within, member_found, member_is_in}
use Rattle.laws_trees.proofs.Availability.{Brings}
use Rattle.laws_trees.proofs.Covers.{prio_at, none_higher, first_is_top, descend_rest, cover_over, needed_here}
use Rattle.laws_trees.proofs.Ends.{end_is_tested}
use Rattle.laws_trees.proofs.JudgeExactness.{not_exact}
use Rattle.laws_trees.proofs.Passing.{Passed, sources_there, passed_after, passed_arm, passed_equal, passed_loop, passed_at_start}

module _ (set : SiteSet) (multi : Bool) (built : IsWellBuilt set) (one : multi ≡ true → HasOnePriority set.rules) where
  -- what the place's surroundings say of its rules
  record Keeps (ar : Around) (ids : List ℕ) : Type 0 where
    known : (i : ℕ) → Contains ids i → i < length set.rules
    passed : (i : ℕ) (r : SetRule) → Contains ids i → slice_get set.rules i ≡ Some r → Passed ar r
    brings : Brings set.sites ar

  -- what stands behind a return of the block: rules in order, whose demands were tested where a run reaches them
  record Closes (ar : Around) (reached : Bool) (ids : List ℕ) : Type 0 where
    ordered : descend set.rules ids ≡ true
    tested : reached ≡ true → (i : ℕ) (r : SetRule) → Contains ids i → slice_get set.rules i ≡ Some r → IsTested ar r

  keeps_some : (ar : Around) (ids more : List ℕ) → ((i : ℕ) → Contains ids i → Contains more i) → Keeps ar more → Keeps ar ids
  keeps_some ar ids more sub k = record {
    known = λ i c. k.known i (sub i c);
    passed = λ i r c e. k.passed i r (sub i c) e;
    brings = k.brings;
  }

  left : (ar : Around) (xs ys : List ℕ) → Keeps ar (xs ++ ys) → Keeps ar xs
  left ar xs ys = keeps_some ar xs (xs ++ ys) (λ i c. Contains-append_left xs ys i c)

  right : (ar : Around) (xs ys : List ℕ) → Keeps ar (xs ++ ys) → Keeps ar ys
  right ar xs ys = keeps_some ar ys (xs ++ ys) (λ i c. Contains-append_right xs ys i c)

  keeps_after : (ar : Around) (check : MarkedCheck) (ids : List ℕ) → Keeps ar ids → Keeps (after_step set ar check) ids
  keeps_after ar check ids k = grind (arith, common_steps, passed_after)

  keeps_equal : (ar : Around) (a b : ℕ) (ids : List ℕ) → AllJoin set.rules ids a b → Keeps ar ids → Keeps (in_equal set ar a b) ids
  keeps_equal ar a b ids join k = grind (arith, common_steps, passed_equal)

  keeps_arm : (ar : Around) (s : ℕ) (c : Constraint) (fields : List (Option ℕ)) (ids : List ℕ) → AllAsk set.rules ids s c → fields ≡ fields_of set.sites s c → Keeps ar ids → Keeps (in_arm set ar s c fields) ids
  keeps_arm ar s c fields ids ask exact k = record {
    known = k.known;
    passed = λ i r in_ids e. passed_arm set ar r s c fields (ask i r in_ids e) (k.passed i r in_ids e);
    brings = record {
      fields = λ t d x m f. elim (in_cases (s, c) (t, d) ar.tested m) [
        | inl same ↦
            let here = subst (λ (y : ℕ × Constraint). Contains (field_sites (fields_of set.sites y.0 y.1)) x) (sym same) f in
            Contains-append_left (field_sites fields) ar.brought x (subst (λ l. Contains (field_sites l) x) (sym exact) here)
        | inr older ↦ Contains-append_right (field_sites fields) ar.brought x (k.brings.fields t d x older f)
      ];
      picks = λ t x m e. Contains-append_right (field_sites fields) ar.brought x (k.brings.picks t x m e);
    };
  }

  keeps_loop : (ar : Around) (result source : ℕ) (ids : List ℕ) → slice_get set.sites result ≡ Some (iterator_site source) → AllGoOver set.rules ids source → Keeps ar ids → Keeps (in_loop set ar result) ids
  keeps_loop ar result source ids e over k = record {
    known = k.known;
    passed = λ i r in_ids at. passed_loop set ar r result source e (over i r in_ids at) (k.passed i r in_ids at);
    brings = record {
      fields = λ t d x m f. in_tail result x ar.brought (k.brings.fields t d x m f);
      picks = λ t x m at. elim (in_cases source t ar.looped (subst (λ l. Contains (l ++ ar.looped) t) (sources_there set result source e) m)) [
        | inl same ↦
            let there : slice_get set.sites x ≡ Some (iterator_site source) = at ∙ ap (λ y. Some (iterator_site y)) (sym same) in
            subst (Contains (result ∷ ar.brought)) (built.sites_once result x (iterator_site source) e there) (in_head result ar.brought)
        | inr older ↦ in_tail result x ar.brought (k.brings.picks t x older at)
      ];
    };
  }

  hand_available : (ar : Around) (s : ℕ) → is_at_hand set ar s ≡ true → IsTrue (available set.sites ar s)
  hand_available ar s h = (and_parts _ (available set.sites ar s) h).1

  -- a rule's demands were tested, at an end where none is higher
  tested_at_end : (ar : Around) (here : List ℕ) → Keeps ar here → IsEnd set ar here → (i : ℕ) (r : SetRule) → Contains here i → slice_get set.rules i ≡ Some r
      → ((j : ℕ) → Contains here j → prio_at set.rules j ≤ℤ prio_at set.rules i) → IsTested ar r
  tested_at_end ar here k end i r c at top = end_is_tested set (record { place = record { built = built; around = ar; brings = k.brings }; here = here; over = end.over }) (record { number = i; rule = r; in_here = c; at = at; top = top; passed = k.passed i r c at })

  itself : (x : _) → x ≤ℤ x
  itself x = omega (arith, ints)

  -- in a multi term no rule is higher than another one
  all_top : multi ≡ true → (here : List ℕ) → ((i : ℕ) → Contains here i → i < length set.rules) → (i j : ℕ) → Contains here i → Contains here j → prio_at set.rules j ≤ℤ prio_at set.rules i
  all_top m here known i j c d =
      let x = get_within set.rules i (known i c) in
      let y = get_within set.rules j (known j d) in
      let e : prio_at set.rules j ≡ prio_at set.rules i = ap priority y.1 ∙ one m j i y.0 x.0 y.1 x.1 ∙ sym (ap priority x.1) in
      subst (λ p. prio_at set.rules j ≤ℤ p) e (itself (prio_at set.rules j))

  never : (reached : Bool) → multi ≡ false → (reached && (multi || false)) ≡ true → ⊥
  never reached f h = false≢true (sym (ap (λ b. b || false) f) ∙ (and_parts reached (multi || false) h).1)

  closes_after : (ar : Around) (check : MarkedCheck) (reached : Bool) (ids : List ℕ) → Closes ar reached ids → Closes (after_step set ar check) reached ids
  closes_after ar check reached ids k = record {
    ordered = k.ordered;
    tested = λ h i r c e. let t = k.tested h i r c e in record { constraints = t.constraints; equalities = t.equalities; iterators = t.iterators };
  }

  -- the first return of an end
  closes_first : (ar : Around) (reached : Bool) (rule : ℕ) (later : List ℕ) → Keeps ar (rule ∷ later) → IsEnd set ar (rule ∷ later) → Closes ar (reached && (multi || false)) later
  closes_first ar reached rule later k end = record {
    ordered = descend_rest set.rules rule later end.ordered;
    tested = λ h i r c e. elim (cases_Bool multi) [
      | inl m ↦ tested_at_end ar (rule ∷ later) k end i r (in_tail rule i later c) e (λ j d. all_top m (rule ∷ later) k.known i j (in_tail rule i later c) d)
      | inr f ↦ absurd (never reached f h)
    ];
  }

  -- and a later one
  closes_next : (ar : Around) (reached : Bool) (rule : ℕ) (later : List ℕ) → Closes ar reached (rule ∷ later) → Closes ar (reached && (multi || false)) later
  closes_next ar reached rule later k = grind (arith, common_steps, descend_rest, and_parts, in_tail)

  return_over : (rule : ℕ) (later : List ℕ) → descend set.rules (rule ∷ later) ≡ true → NoneHigher set.rules (rule ∷ []) later
  return_over rule later h = grind (arith, common_steps, none_higher, in_cases, nothing_in, prio_at, first_is_top, in_tail)

  not_looped : (ar : Around) (s : ℕ) → is_in s (sources_around ar) ≡ false → is_in s ar.looped ≡ false
  not_looped ar s f = grind (arith, common_steps, member_is_in, member_found)

  abbrev IfClosing : Around → Bool → Bool → List ℕ → Type 0
  IfClosing ar closing reached ids = closing ≡ true → Closes ar reached ids

  not_closing : (ar : Around) (reached : Bool) (ids : List ℕ) → IfClosing ar false reached ids
  not_closing ar reached ids h = absurd (false≢true h)

  mutual
    steps_sound : (m : Marked) (ar : Around) (closing reached : Bool) → Keeps ar (marks m) → IfClosing ar closing reached (marks m) → BestSteps set ar closing m → SoundSteps set multi ar reached m
    steps_sound m_no_step ar closing reached keeps closes best = tt
    steps_sound (m_step binds (m_match source arms) rest) ar closing reached keeps closes best =
        let check = best.1 in
        let made = check.1 in
        let free = made.test.open_here in (
          λ q. best.0,
          (
            λ q. hand_available ar source (and_parts (is_at_hand set ar source) (not (is_in source (sources_around ar))) free).0,
            made.some_rule,
            arms_sound arms ar source None reached (left ar (marks_arms arms) (marks rest) keeps) check.2,
          ),
          cover_over set.rules (match_test source) (marks_arms arms) (marks rest) made.rules,
          steps_sound rest (after_step set ar (m_match source arms)) false (reached && (multi || true)) (keeps_after ar (m_match source arms) (marks rest) (right ar (marks_arms arms) (marks rest) keeps)) (not_closing (after_step set ar (m_match source arms)) (reached && (multi || true)) (marks rest)) best.2,
        )
    steps_sound (m_step binds (m_equal a b body) rest) ar closing reached keeps closes best =
        let check = best.1 in
        let made = check.1 in
        let pair = and_parts _ _ made.test.open_here in
        let second = and_parts _ (is_at_hand set ar b) pair.0 in
        let first = and_parts _ (is_at_hand set ar a) second.0 in
        let here = left ar (marks body) (marks rest) keeps in
        let join : AllJoin set.rules (marks body) a b = λ i r c e. needed_here set.rules (marks body) (marks rest) (equal_test a b) made.rules i r c e in (
          λ q. best.0,
          (
            λ q. (hand_available ar a first.1, hand_available ar b second.1),
            made.some_rule,
            join,
            steps_sound body (in_equal set ar a b) false reached (keeps_equal ar a b (marks body) join here) (not_closing (in_equal set ar a b) reached (marks body)) check.2,
          ),
          cover_over set.rules (equal_test a b) (marks body) (marks rest) made.rules,
          steps_sound rest (after_step set ar (m_equal a b body)) false (reached && (multi || true)) (keeps_after ar (m_equal a b body) (marks rest) (right ar (marks body) (marks rest) keeps)) (not_closing (after_step set ar (m_equal a b body)) (reached && (multi || true)) (marks rest)) best.2,
        )
    steps_sound (m_step binds (m_loop result body) rest) ar closing reached keeps closes best =
        let check = best.1 in
        let source = check.1.0 in
        let made = check.1.2 in
        let free = and_parts (is_at_hand set ar source) (not (is_in source (sources_around ar))) made.test.open_here in
        let over : AllGoOver set.rules (marks body) source = λ i r c e. member_found source r.iterators (needed_here set.rules (marks body) (marks rest) (loop_test source) made.rules i r c e) in
        let here = left ar (marks body) (marks rest) keeps in (
          λ q. best.0,
          (
            (source, check.1.1, over, not_looped ar source ((not_exact (is_in source (sources_around ar))).0 free.1), λ q. hand_available ar source free.0),
            made.some_rule,
            steps_sound body (in_loop set ar result) false reached (keeps_loop ar result source (marks body) check.1.1 over here) (not_closing (in_loop set ar result) reached (marks body)) check.2,
          ),
          cover_over set.rules (loop_test source) (marks body) (marks rest) made.rules,
          steps_sound rest (after_step set ar (m_loop result body)) false (reached && (multi || true)) (keeps_after ar (m_loop result body) (marks rest) (right ar (marks body) (marks rest) keeps)) (not_closing (after_step set ar (m_loop result body)) (reached && (multi || true)) (marks rest)) best.2,
        )
    steps_sound (m_step binds (m_return rule) rest) ar true reached keeps closes best =
        let k = closes refl in
        let next = closes_after ar (m_return rule) (reached && (multi || false)) (marks rest) (closes_next ar reached rule (marks rest) k) in (
          λ q. best.0,
          λ q r e. k.tested q rule r (in_head rule (marks rest)) e,
          return_over rule (marks rest) k.ordered,
          steps_sound rest (after_step set ar (m_return rule)) true (reached && (multi || false)) (keeps_after ar (m_return rule) (marks rest) (right ar (rule ∷ []) (marks rest) keeps)) (λ q. next) best.2,
        )
    steps_sound (m_step binds (m_return rule) rest) ar false reached keeps closes best =
        let end = best.1 refl in
        let next = closes_after ar (m_return rule) (reached && (multi || false)) (marks rest) (closes_first ar reached rule (marks rest) keeps end) in (
          λ q. best.0,
          λ q r e. tested_at_end ar (rule ∷ marks rest) keeps end rule r (in_head rule (marks rest)) e (first_is_top set.rules rule (marks rest) end.ordered),
          return_over rule (marks rest) end.ordered,
          steps_sound rest (after_step set ar (m_return rule)) true (reached && (multi || false)) (keeps_after ar (m_return rule) (marks rest) (right ar (rule ∷ []) (marks rest) keeps)) (λ q. next) best.2,
        )

    arms_sound : (arms : MarkedArms) (ar : Around) (source : ℕ) (before : Option Constraint) (reached : Bool) → Keeps ar (marks_arms arms) → BestArms set ar source before arms → SoundArms set multi ar reached source before arms
    arms_sound m_no_arm ar source before reached keeps best = tt
    arms_sound (m_arm constraint fields body rest) ar source before reached keeps best = (
      best.0,
      best.1,
      best.2,
      best.3,
      steps_sound body (in_arm set ar source constraint fields) false reached (keeps_arm ar source constraint fields (marks body) best.2 best.3 (left ar (marks body) (marks_arms rest) keeps)) (not_closing (in_arm set ar source constraint fields) reached (marks body)) best.4,
      arms_sound rest ar source (Some constraint) reached (right ar (marks body) (marks_arms rest) keeps) best.5,
    )

pub best_trees_are_sound_lem : BestTreesAreSound
best_trees_are_sound_lem set multi tree built one best = record {
  marked = best.marked;
  returns = best.returns;
  steps =
      steps_sound set multi built one best.marked nothing_around false true
      (record {
        known = λ i c. All-contains (λ j. j < length set.rules) (marks best.marked) i best.returns.known c;
        passed = λ i r c e. passed_at_start r;
        brings = record { fields = λ s c x k f. absurd (nothing_in (s, c) k); picks = λ s x k e. absurd (nothing_in s k) };
      })
      (λ h. absurd (false≢true h))
      best.steps;
}
