use Rattle.std.proofs.Common.{◌≡◌, ◌<◌, ◌∙◌, ◌∷◌, [], true, None, ap, drop, length, refl, sym, subst, arith, rules}
use Rattle.model.specs.trees.Places.{field_sites}
use Rattle.model.specs.trees.Best.{descend}
use Rattle.model.specs.trees.Trees as Trees
use Rattle.core_serialize.specs.declared.serialize.ControlFlow.{Match, Equal, Loop}
use Rattle.core_serialize.specs.declared.serialize.MatchArm.{roll-MatchArm}
use Rattle.core_serialize.specs.AroundViews.{around_view, Alike, after_uses, brings}
use Rattle.core_serialize.specs.Changes.{IsAfterTest, IsNewSource}
use Rattle.core_serialize.specs.Growing.{IsBestFrom, IsBestBody, IsStepOf, test_emits, AreEnds, IsNextTest, IsNext}
use Rattle.core_serialize.specs.TestViews.{test_view, IsChosen}
use Rattle.core_serialize.specs.ArmOrder.{asked_numbers, AreInTurn, IsNextArmOf}
use Rattle.core_serialize.specs.TreeViews.{tree_view, arms_view, check_view, steps_view}
use Rattle.core_serialize.specs.PlaceViews.{set_in}
use Rattle.core_serialize.proofs.ArmSteps.{ArmsGrow, arms_start, fewer_left, asking_ordered, arms_more, arms_whole}
use Rattle.core_serialize.proofs.Growth.{from_alike}
use Rattle.core_serialize.proofs.ListChanges.{back_itself, back_more, emits_alike, emits_back, emits_cut, emits_itself, emits_more, emits_view, goes_cut, joined_back, joined_view, kept_back, kept_joined, same_view}
use Rattle.core_serialize.proofs.PlaceSteps.{covered_ordered, covered_step, fewer_others, block_more, block_whole, equal_body, equal_fewer, loop_body, loop_source, match_source, pick_made, source_fewer, step_emitted, untried_after}
use Rattle.core_serialize.proofs.TreeLaws.{block_seen, arm_seen, match_seen}
use Rattle.core_serialize.proofs.UntriedTests.{untried}
use Rattle.core_serialize.proofs.best.+grow.Goals as goal

-- blocks
pub block_of-loop-left-init : goal.block_of-loop-left-init
block_of-loop-left-init t c = record {
  grows = record {
    ordered = c.requires.order;
    as_many = refl;
    far = λ t b. subst (λ l. IsBestFrom (set_in c.args.indexed.now) (around_view c.args.around.now) c.args.here.items (Trees.join (steps_view l) t)) (sym c.new-steps.ensures.items) b;
  };
  emits = emits_itself c.args.around.now;
  kept = c.requires.kept;
}

pub block_of-next_test-requires : goal.block_of-next_test-requires
block_of-next_test-requires t c = record { order = subst (λ l. descend (set_in c.args.indexed.now).rules l ≡ true) (sym c.deref.ensures.value) c.loop-left.invariant.grows.ordered; named = c.loop-left.invariant.kept.named; matched = c.loop-left.invariant.kept.matched }

pub block_of-check_of-requires : goal.block_of-check_of-requires
block_of-check_of-requires t c =
    let set = set_in c.args.indexed.now in
    let now = c.loop-left.around in
    let ar = around_view now in
    let left = c.loop-left.left.items in
    let next = c.in-Some.next in
    let bound = c.bind_test.new.around in
    let emits = c.in_ok-bind_order.ensures.emits in
    let h = subst (λ l. IsNextTest set ar l next) c.deref.ensures.value (subst (IsNext set ar c.deref.result.now) c.in-Some.is c.in_ok-next.ensures) in
    let step = subst (λ v. IsStepOf set v (test_view next.test) next.covered.items) (sym (emits_view now bound emits)) (step_emitted set ar bound.emitted (test_view next.test) next.covered.items (covered_step set ar left next h)) in
    let alike = emits_alike set now bound (test_emits set (test_view next.test)) emits c.in_ok-bind_order.ensures.emitted in
    let same : untried (length set.sites) (around_view bound) ≡ untried (length set.sites) (around_view c.args.around.now) =
    untried_after set ar (around_view bound) (test_emits set (test_view next.test)) alike ∙ c.loop-left.invariant.grows.as_many in
    (search (rules, arith, same), (covered_ordered set ar left next h c.loop-left.invariant.grows.ordered, (step, c.in_ok-bind_order.ensures.kept)))

pub block_of-loop-left-smaller : goal.block_of-loop-left-smaller
block_of-loop-left-smaller t c =
    let set = set_in c.args.indexed.now in
    let ar = around_view c.loop-left.around in
    let next = c.in-Some.next in
    let h = subst (λ l. IsNextTest set ar l next) c.deref.ensures.value (subst (IsNext set ar c.deref.result.now) c.in-Some.is c.in_ok-next.ensures) in
    fewer_others set ar c.loop-left.left.items next h

pub block_of-loop-left-preserved : goal.block_of-loop-left-preserved
block_of-loop-left-preserved t c =
    let set = set_in c.args.indexed.now in
    let start = c.args.around.now in
    let now = c.loop-left.around in
    let ar = around_view now in
    let next = c.in-Some.next in
    let bound = c.bind_test.new.around in
    let checked = c.check_of.new.around in
    let e = c.in_ok-bind_order.ensures in
    let back = c.in_ok-check.ensures.back in
    let used = test_emits set (test_view next.test) in
    let h = subst (λ l. IsNextTest set ar l next) c.deref.ensures.value (subst (IsNext set ar c.deref.result.now) c.in-Some.is c.in_ok-next.ensures) in
    let alike = emits_alike set now bound used e.emits e.emitted in
    let after = subst (λ v. Alike v (after_uses set ar used)) (sym (same_view bound checked back)) alike in
    record {
      grows = block_more set (around_view start) c.args.here.items ar (around_view checked) c.loop-left.left.items next c.loop-left.steps.items c.push.new.self.items
          (record { bind_order = c.in_ok-bind_order.bind_order; check = c.in_ok-check.check }) h after e.binds (c.in_ok-check.ensures.best ar alike) c.in_ok-push.ensures.items c.loop-left.invariant.grows;
      emits = emits_back start bound checked (emits_more start now bound c.loop-left.invariant.emits e.emits) back;
      kept = kept_back set bound checked back e.kept;
    }

pub block_of-returns-clause-best : goal.block_of-returns-clause-best
block_of-returns-clause-best t c =
    let set = set_in c.args.indexed.now in
    let start = around_view c.args.around.now in
    let ar = around_view c.loop-left.around in
    let left = c.loop-left.left.items in
    let over = subst (λ l. IsChosen set ar l None) c.deref.ensures.value (subst (IsNext set ar c.deref.result.now) c.in_default.is c.in_ok-next.ensures) in
    let ends = subst (λ l. AreEnds set ar l (steps_view c.in_ok-ends.ends.items)) c.deref-2.ensures.value c.in_ok-ends.ensures.ends in
    subst (IsBestFrom set start c.args.here.items) (sym (block_seen c.append.new.self))
    (block_whole set start c.args.here.items ar left c.loop-left.steps.items c.in_ok-ends.ends.items c.append.new.self.items over ends c.in_ok-append.ensures.items c.loop-left.invariant.grows)

pub block_of-returns-clause-back : goal.block_of-returns-clause-back
block_of-returns-clause-back t c =
    let now = c.loop-left.around in
    let ends = c.returns_of.new.around in
    emits_cut c.args.around.now ends c.go_back.new.self c.mark-start.result c.mark-start.ensures (emits_more c.args.around.now now ends c.loop-left.invariant.emits c.in_ok-ends.ensures.emits) c.go_back.ensures

-- arms
pub arms_of-loop-arms-init : goal.arms_of-loop-arms-init
arms_of-loop-arms-init t c =
    let set = set_in c.args.indexed.now in
    let around = c.args.around.now in
    let turns = c.in_ok-turns.turns.items in
    let here = c.args.here.items in
    let in_turn = subst (λ l. AreInTurn set.rules c.args.source l turns) c.deref.ensures.value c.in_ok-turns.ensures in
    let first = arms_start set around c.args.source here turns c.requires.order c.requires.step in_turn in
    record {
      grows = subst (ArmsGrow set (around_view around) c.args.source here c.behind-left.result.now) (sym c.new-arms.ensures.items)
          (subst (λ l. ArmsGrow set (around_view around) c.args.source here l []) (sym (c.behind-left.ensures ∙ c.deref-2.ensures.value)) first);
      back = back_itself around;
    }

pub arms_of-next_arm-requires : goal.arms_of-next_arm-requires
arms_of-next_arm-requires t c = c.loop-arms.invariant.grows.turns

pub arms_of-body_of-requires : goal.arms_of-body_of-requires
arms_of-body_of-requires t c =
    let set = set_in c.args.indexed.now in
    let start = c.args.around.now in
    let now = c.loop-arms.around in
    let back = c.loop-arms.invariant.back in
    let left = c.loop-arms.left.now in
    let next = c.in-Some.next in
    let h = subst (IsNextArmOf set c.args.source (asked_numbers left)) c.in-Some.is c.in_ok-next.ensures in
    let view = same_view start now back in
    let same : untried (length set.sites) (around_view now) ≡ untried (length set.sites) (around_view start) = ap (untried (length set.sites)) view in
    let source = subst (λ v. IsNewSource set v c.args.source) (sym view) (match_source set start c.args.source c.requires.step.open_here) in (
      search (rules, arith, same),
      (asking_ordered set start c.args.source c.args.here.items left next h c.loop-arms.invariant.grows, (source, kept_back set start now back c.requires.kept)),
    )

pub arms_of-loop-arms-smaller : goal.arms_of-loop-arms-smaller
arms_of-loop-arms-smaller t c =
    let set = set_in c.args.indexed.now in
    let start = c.args.around.now in
    let next = c.in-Some.next in
    let left = c.loop-arms.left.now in
    let h = subst (IsNextArmOf set c.args.source (asked_numbers left)) c.in-Some.is c.in_ok-next.ensures in
    let many : c.len-asking.result ≡ length next.asking.items = omega (arith, c.len-asking.ensures, next.asking.ok.0) in
    subst (λ l. length l < length left) (sym (c.behind-left-in-Some.ensures ∙ ap (λ n. drop n left) many)) (fewer_left set start c.args.source c.args.here.items left next h)

pub arms_of-loop-arms-preserved : goal.arms_of-loop-arms-preserved
arms_of-loop-arms-preserved t c =
    let set = set_in c.args.indexed.now in
    let start = c.args.around.now in
    let now = c.loop-arms.around in
    let back = c.loop-arms.invariant.back in
    let next = c.in-Some.next in
    let body = c.in_ok-body.body in
    let here = c.args.here.items in
    let left = c.loop-arms.left.now in
    let h = subst (IsNextArmOf set c.args.source (asked_numbers left)) c.in-Some.is c.in_ok-next.ensures in
    let many : c.len-asking.result ≡ length next.asking.items = omega (arith, c.len-asking.ensures, next.asking.ok.0) in
    let sites = c.deref-in-Some-2.ensures.value ∙ c.in_ok-sites.ensures ∙ ap field_sites c.deref-in-Some.ensures.value in
    let best = subst (λ l. IsBestFrom set (brings (around_view start) c.args.source l) next.asking.items (tree_view body)) sites
    (subst (λ v. IsBestFrom set (brings v c.args.source c.deref-in-Some-2.result.now) next.asking.items (tree_view body)) (same_view start now back) c.in_ok-body.ensures.best) in
    record {
      grows = subst (λ l. ArmsGrow set (around_view start) c.args.source here l c.push.new.self.items) (sym (c.behind-left-in-Some.ensures ∙ ap (λ n. drop n left) many))
          (arms_more set start c.args.source here left next h c.loop-arms.arms.items c.push.new.self.items
          (roll-MatchArm record { constraint = next.constraint; bindings = next.fields; body = body }) (tree_view body) c.in_ok-push.ensures.items
          (λ rest. arm_seen next.constraint next.fields body rest) best c.loop-arms.invariant.grows);
      back = back_more start now c.body_of.new.around back c.in_ok-body.ensures.back;
    }

pub arms_of-returns : goal.arms_of-returns
arms_of-returns t c =
    let set = set_in c.args.indexed.now in
    let start = c.args.around.now in
    let left = c.loop-arms.left.now in
    let none = subst (IsNextArmOf set c.args.source (asked_numbers left)) c.in_default.is c.in_ok-next.ensures in
    record {
      best = λ ar after. arms_whole set start c.args.source c.args.here.items left c.loop-arms.arms.items none c.loop-arms.invariant.grows ar after;
      back = c.loop-arms.invariant.back;
    }

-- bodies
pub body_of-go_in-requires : goal.body_of-go_in-requires
body_of-go_in-requires t c = c.requires.kept

pub body_of-block_of-requires : goal.body_of-block_of-requires
body_of-block_of-requires t c =
    let set = set_in c.args.indexed.now in
    let old = c.args.around.now in
    let inside = c.go_in.new.around in
    let e = c.in_ok-go_in.ensures in
    let smaller : untried (length set.sites) (around_view inside) < untried (length set.sites) (around_view old) = source_fewer set old c.args.source c.args.sites.now (around_view inside) c.requires.source e.inside in
    (search (rules, arith, smaller), (c.requires.order, e.kept))

pub body_of-returns : goal.body_of-returns
body_of-returns t c =
    let set = set_in c.args.indexed.now in
    let old = c.args.around.now in
    let inside = c.go_in.new.around in
    let e = c.in_ok-go_in.ensures in
    record {
      best = from_alike set (around_view inside) (brings (around_view old) c.args.source c.args.sites.now) c.args.here.items (tree_view c.in_ok-body.body) e.inside c.in_ok-body.ensures.best;
      back = goes_cut old inside c.block_of.new.around c.go_back.new.self c.mark-start.result c.mark-start.ensures e.goes c.in_ok-body.ensures.back c.go_back.ensures;
    }

pub joined_body-block_of-requires : goal.joined_body-block_of-requires
joined_body-block_of-requires t c =
    let set = set_in c.args.indexed.now in
    let old = c.args.around.now in
    let inside = c.join.new.around in
    let e = c.in_ok-renamed.ensures in
    let view = joined_view old inside c.args.a c.args.b e.joins in
    let smaller : untried (length set.sites) (around_view inside) < untried (length set.sites) (around_view old) = equal_fewer set old c.args.a c.args.b (around_view inside) c.requires.pair view in
    (search (rules, arith, smaller), (c.requires.order, kept_joined set old inside c.args.a c.args.b e.joins c.requires.kept))

pub joined_body-take_apart-requires : goal.joined_body-take_apart-requires
joined_body-take_apart-requires t c =
    let many = ap length (c.in_ok-body.ensures.back.joined ∙ c.in_ok-renamed.ensures.joins.joined) in
    omega (arith, many)

pub joined_body-returns : goal.joined_body-returns
joined_body-returns t c =
    let set = set_in c.args.indexed.now in
    let old = c.args.around.now in
    let inside = c.join.new.around in
    let e = c.in_ok-renamed.ensures in
    let view = joined_view old inside c.args.a c.args.b e.joins in
    record {
      best = subst (λ v. IsBestFrom set v c.args.here.items (tree_view c.in_ok-body.body)) view c.in_ok-body.ensures.best;
      back = joined_back old inside c.block_of.new.around c.take_apart.new.around c.args.a c.args.b c.in_ok-renamed.renamed e.joins c.in_ok-body.ensures.back e.before c.take_apart.ensures;
    }

-- tests
pub check_of-joined_body-requires : goal.check_of-joined_body-requires
check_of-joined_body-requires t c =
    let set = set_in c.args.indexed.now in
    let ar = around_view c.args.around.now in
    let h = subst (λ u. IsStepOf set ar (test_view u) c.args.here.items) c.in-Equal.is c.requires.step in
    (search (rules, arith), (c.requires.order, (h.open_here, c.requires.kept)))

pub check_of-pick_of-result-requires : goal.check_of-pick_of-result-requires
check_of-pick_of-result-requires t c =
    let set = set_in c.args.indexed.now in
    let ar = around_view c.args.around.now in
    pick_made set c.args.indexed.now.can_grow ar c.in-Loop.source c.args.here.items (subst (λ u. IsStepOf set ar (test_view u) c.args.here.items) c.in-Loop.is c.requires.step)

pub check_of-body_of-requires : goal.check_of-body_of-requires
check_of-body_of-requires t c =
    let set = set_in c.args.indexed.now in
    let ar = around_view c.args.around.now in
    let h = subst (λ u. IsStepOf set ar (test_view u) c.args.here.items) c.in-Loop.is c.requires.step in
    (search (rules, arith), (c.requires.order, (loop_source set c.args.around.now c.in-Loop.source h.open_here, c.requires.kept)))

pub check_of-returns-in_ok-arms-in-Match : goal.check_of-returns-in_ok-arms-in-Match
check_of-returns-in_ok-arms-in-Match t c =
    let set = set_in c.args.indexed.now in
    let now = around_view c.args.around.now in
    let s = c.in-Match.source in
    let arms = c.in_ok-arms-in-Match.arms in
    record {
      best = λ ar after. subst (λ u. IsBestBody set ar (test_view u) c.args.here.items (check_view (Match s arms))) (sym c.in-Match.is)
          (arms_view arms.items, match_seen s arms, c.in_ok-arms-in-Match.ensures.best ar (subst (λ u. IsAfterTest set ar (test_view u) now) c.in-Match.is after));
      back = c.in_ok-arms-in-Match.ensures.back;
    }

pub check_of-returns-in_ok-body-in-Equal : goal.check_of-returns-in_ok-body-in-Equal
check_of-returns-in_ok-body-in-Equal t c =
    let set = set_in c.args.indexed.now in
    let around = c.args.around.now in
    let here = c.args.here.items in
    let a = c.in-Equal.a in
    let b = c.in-Equal.b in
    let body = c.in_ok-body-in-Equal.body in
    record {
      best = λ ar after. subst (λ u. IsBestBody set ar (test_view u) here (check_view (Equal a b body))) (sym c.in-Equal.is)
          (equal_body set around ar here a b body (subst (λ u. IsAfterTest set ar (test_view u) (around_view around)) c.in-Equal.is after) c.in_ok-body-in-Equal.ensures.best);
      back = c.in_ok-body-in-Equal.ensures.back;
    }

pub check_of-returns-in_ok-body-in-Loop : goal.check_of-returns-in_ok-body-in-Loop
check_of-returns-in_ok-body-in-Loop t c =
    let set = set_in c.args.indexed.now in
    let around = c.args.around.now in
    let here = c.args.here.items in
    let call = c.in-Loop.source in
    let result = c.pick_of-result.result in
    let body = c.in_ok-body-in-Loop.body in
    let best = subst (λ n. IsBestFrom set (brings (around_view around) call (n ∷ [])) here (tree_view body)) c.number_of.ensures c.in_ok-body-in-Loop.ensures.best in
    record {
      best = λ ar after. subst (λ u. IsBestBody set ar (test_view u) here (check_view (Loop result body))) (sym c.in-Loop.is)
          (loop_body set around ar here call result body c.pick_of-result.ensures (subst (λ u. IsAfterTest set ar (test_view u) (around_view around)) c.in-Loop.is after) best);
      back = c.in_ok-body-in-Loop.ensures.back;
    }
