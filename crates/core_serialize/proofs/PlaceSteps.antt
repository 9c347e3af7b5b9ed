-- A place and its next test: the places inside it and behind it, and the tree that grows by it.
use Rattle.std.proofs.Common.{◌≡◌, ℕ, ◌<◌, true, false, not, ◌&&◌, nat_lt, List, [], ◌∷◌, ◌++◌, length, Option, Some, None, slice_get, filter, refl, sym, ap, ◌∙◌, subst, arith, ltb-true}
use Rattle.std.proofs.lemmas.Bool.{and_parts, false≢true, not-true}
use Rattle.std.proofs.lemmas.List.Filters.{length-filter_both}
use Rattle.std.proofs.lemmas.Grind.{common_steps}
use Rattle.model.specs.sites.Sites.{iterator_site, SetRule, SiteSet}
use Rattle.model.specs.trees.Trees.{Tree, step, join, Check, m_match, m_equal, m_loop, m_no_step, m_no_arm}
use Rattle.model.specs.trees.Best.{descend}
use Rattle.model.specs.trees.Places as Places
use Rattle.model.specs.trees.Places.{is_in, joins, available, bind_order, in_equal, in_loop, after_step}
use Rattle.model.specs.trees.Tests.{Test, match_test, equal_test, loop_test, is_needed, is_covered, cover, sources_around, is_at_hand, is_open_site, is_open, IsOpen}
use Rattle.model.proofs.Members.{from_filter, some_member, member_found, member_from_get}
use Rattle.laws_trees.proofs.Passing.{sources_there}
use Rattle.core_serialize.specs.declared.around.Around.{Around}
use Rattle.core_serialize.specs.declared.steps.NextTest.{NextTest}
use Rattle.core_serialize.specs.declared.serialize.Block.{Block}
use Rattle.core_serialize.specs.declared.serialize.ControlFlow.{Equal, Loop}
use Rattle.core_serialize.specs.declared.serialize.EvalStep.{EvalStep}
use Rattle.core_serialize.specs.AroundViews.{around_view, Alike, after_uses, brings, where_emitted, where_joined}
use Rattle.core_serialize.specs.Changes.{IsAfterTest, IsNewSource}
use Rattle.core_serialize.specs.FieldTests.{HasIterator}
use Rattle.core_serialize.specs.Growing.{IsBestFrom, AreEnds, IsBestBody, CanGrow, IsStepOf, test_sites, test_emits, IsNextTest}
use Rattle.core_serialize.specs.TestViews.{test_view, IsChosen}
use Rattle.core_serialize.specs.TreeViews.{tree_view, check_view, steps_view}
use Rattle.core_serialize.proofs.Descents.{descend_kept}
use Rattle.core_serialize.proofs.Growth.{match_more, equal_more, loop_more, ends_close, from_alike}
use Rattle.core_serialize.proofs.BodySteps.{equal_inside, loop_inside, loop_after}
use Rattle.core_serialize.proofs.StepsJoined.{step_joined, steps_joined}
use Rattle.core_serialize.proofs.TreeLaws.{equal_seen, loop_seen}
use Rattle.core_serialize.proofs.UntriedTests.{untried, untried_same, untried_source, untried_pair}

-- the steps of a block so far, and what is left: with what may follow, they are best; and no test that stands around the
-- steps to come is one more
pub record BlockGrows (set : SiteSet) (start : Places.Around) (here : List ℕ) (ar : Places.Around) (left : List ℕ) (steps : List EvalStep) : Type 0 where
  pub ordered : descend set.rules left ≡ true
  pub as_many : untried (length set.sites) ar ≡ untried (length set.sites) start
  pub far : (t : Tree) → IsBestFrom set ar left t → IsBestFrom set start here (join (steps_view steps) t)

module _ (set : SiteSet) where
  abbrev n : ℕ
  n = length set.sites

  -- 1. the next test's places
  module _ (ar : Places.Around) (here : List ℕ) (next : NextTest) (h : IsNextTest set ar here next) where
    abbrev test : Test
    test = test_view next.test

    pub covered_ordered : descend set.rules here ≡ true → descend set.rules next.covered.items ≡ true
    covered_ordered o = ap (descend set.rules) h.covered ∙ descend_kept set.rules (is_covered set.rules here test) here o

    pub others_ordered : descend set.rules here ≡ true → descend set.rules next.others.items ≡ true
    others_ordered o = ap (descend set.rules) h.others ∙ descend_kept set.rules (λ i. not (is_covered set.rules here test i)) here o

    pub covered_step : IsStepOf set ar test next.covered.items
    covered_step = grind (arith, common_steps, and_parts, from_filter (is_covered set.rules here test) here)

    pub fewer_others : length next.others.items < length here
    fewer_others = grind (arith, common_steps, length-filter_both (is_covered set.rules here test) (λ i. not (is_covered set.rules here test i)) (λ i. refl) here)

  pub untried_after : (ar after : Places.Around) (used : List ℕ) → Alike after (after_uses set ar used) → untried n after ≡ untried n ar
  untried_after ar after used i = untried_same n ar after i.sources i.joined

  -- 2. the tree that grows by it
  module _ (at : Places.Around) (here : List ℕ) where
    pub test_more : (next : NextTest) (after : Places.Around) (bound : List ℕ) (check : Check) (tree : Tree) → IsNextTest set at here next → Alike after (after_uses set at (test_emits set (test_view next.test)))
        → bound ≡ bind_order set.sites at (test_sites (test_view next.test)) → IsBestBody set at (test_view next.test) next.covered.items check
        → IsBestFrom set after next.others.items tree → IsBestFrom set at here (step bound check tree)
    test_more next after bound check tree h inside bound_is body rest = by (test_view next.test) refl
      where
        left : (t : Test) → test_view next.test ≡ t → IsBestFrom set after (filter (λ i. not (is_covered set.rules here t i)) here) tree
        left t e = subst (λ l. IsBestFrom set after l tree) (h.others ∙ ap (λ u. filter (λ i. not (is_covered set.rules here u i)) here) e) rest

        held : (t : Test) → test_view next.test ≡ t → IsBestBody set at t (cover set.rules here t) check
        held t e = subst (λ u. IsBestBody set at u (cover set.rules here u) check) e (subst (λ l. IsBestBody set at (test_view next.test) l check) h.covered body)

        binds : (t : Test) → test_view next.test ≡ t → bound ≡ bind_order set.sites at (test_sites t)
        binds t e = bound_is ∙ ap (λ u. bind_order set.sites at (test_sites u)) e

        behind : (t : Test) → test_view next.test ≡ t → Alike after (after_uses set at (test_emits set t))
        behind t e = subst (λ u. Alike after (after_uses set at (test_emits set u))) e inside

        by : (t : Test) → test_view next.test ≡ t → IsBestFrom set at here (step bound check tree)
        by (match_test s) e =
            let b = held (match_test s) e in
            let chosen = subst (λ u. IsChosen set at here (Some u)) e h.chosen in
            let rest_best = from_alike set after (after_step set at (m_match s m_no_arm)) (filter (λ i. not (is_covered set.rules here (match_test s) i)) here) tree
            (inside_match s (behind (match_test s) e)) (left (match_test s) e) in
            subst (λ c. IsBestFrom set at here (step bound c tree)) (sym b.1)
            (match_more set at here s bound b.0 tree chosen.0 chosen.1 (binds (match_test s) e) b.2 rest_best)
          where
            inside_match : (s : ℕ) → Alike after (after_uses set at (s ∷ [])) → Alike after (after_step set at (m_match s m_no_arm))
            inside_match s i = record { sources = i.sources; joined = i.joined; brought = i.brought; emitted = i.emitted }
        by (equal_test x y) e =
            let b = held (equal_test x y) e in
            let chosen = subst (λ u. IsChosen set at here (Some u)) e h.chosen in
            let rest_best = from_alike set after (after_step set at (m_equal x y m_no_step)) (filter (λ i. not (is_covered set.rules here (equal_test x y) i)) here) tree
            (inside_pair x y (behind (equal_test x y) e)) (left (equal_test x y) e) in
            subst (λ c. IsBestFrom set at here (step bound c tree)) (sym b.1)
            (equal_more set at here x y bound b.0 tree chosen.0 chosen.1 (binds (equal_test x y) e) b.2 rest_best)
          where
            inside_pair : (x y : ℕ) → Alike after (after_uses set at (x ∷ (y ∷ []))) → Alike after (after_step set at (m_equal x y m_no_step))
            inside_pair x y i = record { sources = i.sources; joined = i.joined; brought = i.brought; emitted = i.emitted }
        by (loop_test s) e =
            let b = held (loop_test s) e in
            let chosen = subst (λ u. IsChosen set at here (Some u)) e h.chosen in
            let there = b.3 in
            let rest_best = from_alike set after (after_step set at (m_loop b.0 m_no_step)) (filter (λ i. not (is_covered set.rules here (loop_test s) i)) here) tree
            (loop_after set at s b.0 there after (behind (loop_test s) e)) (left (loop_test s) e) in
            subst (λ c. IsBestFrom set at here (step bound c tree)) (sym b.2)
            (loop_more set at here s b.0 bound b.1 tree there chosen.0 chosen.1 (binds (loop_test s) e ∙ ap (bind_order set.sites at) (sym (sources_there set b.0 s there))) b.4 rest_best)

  -- 3. the steps of a block
  module _ (start : Places.Around) (here : List ℕ) where
    pub block_more : (ar after : Places.Around) (left : List ℕ) (next : NextTest) (steps more : List EvalStep) (s : EvalStep) → IsNextTest set ar left next
        → Alike after (after_uses set ar (test_emits set (test_view next.test)))
        → s.bind_order.items ≡ bind_order set.sites ar (test_sites (test_view next.test)) → IsBestBody set ar (test_view next.test) next.covered.items (check_view s.check) → more ≡ steps ++ s ∷ []
        → BlockGrows set start here ar left steps → BlockGrows set start here after next.others.items more
    block_more ar after left next steps more s h inside binds body e g = record {
      ordered = others_ordered ar left next h g.ordered;
      as_many = untried_after ar after (test_emits set (test_view next.test)) inside ∙ g.as_many;
      far = grind (arith, common_steps, step_joined steps s, test_more ar left next after s.bind_order.items (check_view s.check));
    }

    pub block_whole : (ar : Places.Around) (left : List ℕ) (steps ends all : List EvalStep) → IsChosen set ar left None → AreEnds set ar left (steps_view ends) → all ≡ steps ++ ends
        → BlockGrows set start here ar left steps → IsBestFrom set start here (steps_view all)
    block_whole ar left steps ends all over a e g = grind (arith, common_steps, steps_joined steps ends, ends_close set ar left (steps_view ends) over a)

  -- 4. what is open
  open_site : (ar : Places.Around) (s : ℕ) → is_open_site set ar s ≡ true → (s < n) × (is_in s (sources_around ar) ≡ false)
  open_site ar s o =
      let p = and_parts (is_at_hand set ar s) (not (is_in s (sources_around ar))) o in
      (ltb-true s n (and_parts (nat_lt s n) (available set.sites ar s) p.0).0, not-true (is_in s (sources_around ar)) p.1)

  open_pair : (ar : Places.Around) (a b : ℕ) → IsOpen set ar (equal_test a b) → (a < b) × (b < n) × (joins ar.joined a b ≡ false)
  open_pair ar a b o =
      let p = and_parts (nat_lt a b && is_at_hand set ar a && is_at_hand set ar b) (not (joins ar.joined a b)) o in
      let q = and_parts (nat_lt a b && is_at_hand set ar a) (is_at_hand set ar b) p.0 in
      let r = and_parts (nat_lt a b) (is_at_hand set ar a) q.0 in
      (ltb-true a b r.0, ltb-true b n (and_parts (nat_lt b n) (available set.sites ar b) q.1).0, not-true (joins ar.joined a b) p.1)

  -- 5. inside a test
  -- what is emitted is nothing to a test's being open
  open_emitted : (ar : Places.Around) (sites : List ℕ) (t : Test) → is_open set (where_emitted ar sites) t ≡ is_open set ar t
  open_emitted ar sites _ = refl

  pub step_emitted : (ar : Places.Around) (sites : List ℕ) (t : Test) (here : List ℕ) → IsStepOf set ar t here → IsStepOf set (where_emitted ar sites) t here
  step_emitted ar sites t here h = record { open_here = open_emitted ar sites t ∙ h.open_here; need = h.need; some_rule = h.some_rule }

  module _ (around : Around) where
    abbrev out : Places.Around
    out = around_view around

    pub match_source : (s : ℕ) → IsOpen set out (match_test s) → IsNewSource set out s
    match_source s o = let k = open_site out s o in record { there = k.0; is_new = k.1 }

    pub loop_source : (s : ℕ) → IsOpen set out (loop_test s) → IsNewSource set out s
    loop_source s o = let k = open_site out s o in record { there = k.0; is_new = k.1 }

    pub source_fewer : (s : ℕ) (sites : List ℕ) (inside : Places.Around) → IsNewSource set out s → Alike inside (brings out s sites) → untried n inside < untried n out
    source_fewer s sites inside k i = untried_source n s out inside k.there k.is_new i.sources i.joined

    pub equal_fewer : (a b : ℕ) (inside : Places.Around) → IsOpen set out (equal_test a b) → inside ≡ where_joined out a b → untried n inside < untried n out
    equal_fewer a b inside o e = let k = open_pair out a b o in subst (λ i. untried n i < untried n out) (sym e) (untried_pair n a b out (where_joined out a b) k.0 k.1 k.2 (λ x. refl) refl)

    -- what a step of an equality or of a loop holds, wherever its test is made
    module _ (ar : Places.Around) (here : List ℕ) where
      pub equal_body : (a b : ℕ) (body : Block) → IsAfterTest set ar (equal_test a b) out → IsBestFrom set (where_joined out a b) here (tree_view body) → IsBestBody set ar (equal_test a b) here (check_view (Equal a b body))
      equal_body a b body i best = (tree_view body, equal_seen a b body, from_alike set (where_joined out a b) (in_equal set ar a b) here (tree_view body) (equal_inside set ar around a b i) best)

      pub loop_body : (call result : ℕ) (body : Block) → slice_get set.sites result ≡ Some (iterator_site call) → IsAfterTest set ar (loop_test call) out
          → IsBestFrom set (brings out call (result ∷ [])) here (tree_view body) → IsBestBody set ar (loop_test call) here (check_view (Loop result body))
      loop_body call result body at i best =
          (result, tree_view body, loop_seen result body, at, from_alike set (brings out call (result ∷ [])) (in_loop set ar result) here (tree_view body) (loop_inside set ar around call result at i) best)

  -- 6. rules that need a loop go over its call, which has a pick
  pub pick_made : CanGrow set → (ar : Places.Around) (call : ℕ) (here : List ℕ) → IsStepOf set ar (loop_test call) here → HasIterator set.sites call
  pick_made g ar call here h = let i = some_member here h.some_rule in of (slice_get set.rules i.0) refl (h.need i.0 i.1)
    where
      of : (o : Option SetRule) → slice_get set.rules (some_member here h.some_rule).0 ≡ o → is_needed (loop_test call) o ≡ true → HasIterator set.sites call
      of None e t = absurd (false≢true t)
      of (Some r) e t = g.picks r call (member_from_get set.rules (some_member here h.some_rule).0 r e) (member_found call r.iterators t)
