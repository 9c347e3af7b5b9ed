use Rattle.std.proofs.Common.{◌≡◌, List, [], ◌∷◌, ◌++◌, rules, refl, sym, ap, ◌∙◌}
use Rattle.cranelift_isle.specs.Trees.{equal_at, loop_at}
use Rattle.cranelift_isle.specs.TreeViews.{check_view, tree_view}
use Rattle.std.proofs.lemmas.List.{append-nil}
use Rattle.core_serialize.proofs.TreeLaws.{block_steps, match_seen, equal_seen, loop_seen, return_seen}
use Rattle.report_queries.specs.Walks.{Passed, equal, one_of, steps_from, steps_inside, turn_views, visit_views}
use Rattle.report_queries.proofs.Steps.{added_so, arm_more, arm_alone}
use Rattle.report_queries.proofs.walk.+walk.Goals as goal

pub push_block-loop-step-init : goal.push_block-loop-step-init
push_block-loop-step-init t c = rw (block_steps c.args.block.now, c.deref-step-items.ensures.value) refl

pub push_inside-loop-arm-init : goal.push_inside-loop-arm-init
push_inside-loop-arm-init t c = rw (c.in-Match.is, match_seen c.in-Match.source c.in-Match.arms, c.deref-arm-items.ensures.value) refl

pub push_inside-loop-arm-preserved : goal.push_inside-loop-arm-preserved
push_inside-loop-arm-preserved t c =
    arm_more (turn_views c.args.path.now) c.in-Match.source c.deref-arm-items.result.now c.loop-arm.arm-index c.arm-item.result (visit_views c.loop-arm.out.items) (visit_views c.push_arm.new.out.items) _ (search rules) c.arm-item.is c.in_ok-push_arm-in-Match.ensures c.loop-arm.invariant

pub push_inside-returns-in_ok-inner-in-Equal : goal.push_inside-returns-in_ok-inner-in-Equal
push_inside-returns-in_ok-inner-in-Equal t c =
    let path = turn_views c.args.path.now in
    let body = c.in-Equal.body in
    let inner : turn_views c.deref.result.now ≡ path ++ equal c.in-Equal.a c.in-Equal.b ∷ [] = ap turn_views c.deref.ensures.value ∙ c.in_ok-inner-in-Equal.ensures in
    let seen : check_view c.args.check.now ≡ equal_at c.in-Equal.a c.in-Equal.b (tree_view body) = ap check_view c.in-Equal.is ∙ equal_seen c.in-Equal.a c.in-Equal.b body in
    added_so c.push_block.result (visit_views c.push_block.new.out.items) (visit_views c.args.out.now.items) _ _
    (ap (λ (p : List Passed). steps_from p (tree_view body)) inner ∙ ap (steps_inside path) (sym seen)) c.push_block.ensures

pub push_inside-returns-in_ok-inner-in-Loop : goal.push_inside-returns-in_ok-inner-in-Loop
push_inside-returns-in_ok-inner-in-Loop t c =
    let path = turn_views c.args.path.now in
    let body = c.in-Loop.body in
    let inner : turn_views c.deref-in-Loop.result.now ≡ path ++ one_of c.in-Loop.result ∷ [] = ap turn_views c.deref-in-Loop.ensures.value ∙ c.in_ok-inner-in-Loop.ensures in
    let seen : check_view c.args.check.now ≡ loop_at c.in-Loop.result (tree_view body) = ap check_view c.in-Loop.is ∙ loop_seen c.in-Loop.result body in
    added_so c.push_block-in-Loop.result (visit_views c.push_block-in-Loop.new.out.items) (visit_views c.args.out.now.items) _ _
    (ap (λ (p : List Passed). steps_from p (tree_view body)) inner ∙ ap (steps_inside path) (sym seen)) c.push_block-in-Loop.ensures

pub push_inside-returns-in-Return : goal.push_inside-returns-in-Return
push_inside-returns-in-Return t c = rw (c.in-Return.is, return_seen c.in-Return.pos c.in-Return.result) (sym (append-nil (visit_views c.args.out.now.items)))

pub push_arm-returns : goal.push_arm-returns
push_arm-returns t c =
    rw (arm_alone (turn_views c.args.path.now) c.args.source c.args.arm.now, ← c.in_ok-inner.ensures, ← c.deref.ensures.value) c.push_block.ensures
