use Rattle.std.proofs.Common.{◌≡◌, ℕ, List, ◌++◌, rules, refl, sym, ap, ◌∙◌, subst}
use Rattle.std.proofs.lemmas.Result.{IfOk-weaker}
use Rattle.core_syntax.specs.SyntaxViews.{position}
use Rattle.cranelift_isle.specs.Trees.{Check, match_at, equal_at, loop_at, return_at}
use Rattle.cranelift_isle.specs.TreeViews.{arms_view, check_view, tree_view}
use Rattle.core_serialize.proofs.TreeLaws.{block_steps, match_seen, equal_seen, loop_seen, return_seen}
use Rattle.core_serialize.specs.declared.serialize.MatchArm.{MatchArm}
use Rattle.report_warnings.specs.DeadReturns.{dead_among_from, place_pairs, PassesStep}
use Rattle.report_warnings.proofs.DeadReturns.{arms_more, passes_match, passes_equal, passes_loop}
use Rattle.report_warnings.proofs.returns.+dead.Goals as goal

pub push_arms-loop-arm-preserved : goal.push_arms-loop-arm-preserved
push_arms-loop-arm-preserved t c =
    arms_more c.args.first c.args.arms.now c.loop-arm.arm-index c.arm-item.result (place_pairs c.loop-arm.out.items) (place_pairs c.push_dead.new.out.items) _ (search rules) c.arm-item.is c.in_ok-push_dead.ensures c.loop-arm.invariant

pub push_dead-loop-step-init : goal.push_dead-loop-step-init
push_dead-loop-step-init t c = rw (block_steps c.args.block.now, c.deref-step-items.ensures.value) refl

pub push_step-returns-in_ok-push_arms-in-Match : goal.push_step-returns-in_ok-push_arms-in-Match
push_step-returns-in_ok-push_arms-in-Match t c =
    let seen : check_view c.args.check.now ≡ match_at c.in-Match.source (arms_view c.in-Match.arms.items) = ap check_view c.in-Match.is ∙ match_seen c.in-Match.source c.in-Match.arms in
    subst (λ (k : Check). PassesStep c.args.first c.args.first k c.args.out.now.items c.push_arms.new.out.items) (sym seen)
    (passes_match c.args.first c.in-Match.source (arms_view c.in-Match.arms.items) c.args.out.now.items c.push_arms.new.out.items
    (c.in_ok-push_arms-in-Match.ensures ∙ ap (λ (l : List MatchArm). place_pairs c.args.out.now.items ++ dead_among_from c.args.first (arms_view l)) c.deref.ensures.value))

pub push_step-returns-in_ok-push_dead-in-Equal : goal.push_step-returns-in_ok-push_dead-in-Equal
push_step-returns-in_ok-push_dead-in-Equal t c =
    let seen : check_view c.args.check.now ≡ equal_at c.in-Equal.a c.in-Equal.b (tree_view c.in-Equal.body) = ap check_view c.in-Equal.is ∙ equal_seen c.in-Equal.a c.in-Equal.b c.in-Equal.body in
    subst (λ (k : Check). PassesStep c.args.first c.args.first k c.args.out.now.items c.push_dead.new.out.items) (sym seen)
    (passes_equal c.args.first c.in-Equal.a c.in-Equal.b (tree_view c.in-Equal.body) c.args.out.now.items c.push_dead.new.out.items c.in_ok-push_dead-in-Equal.ensures)

pub push_step-returns-in_ok-push_dead-in-Loop : goal.push_step-returns-in_ok-push_dead-in-Loop
push_step-returns-in_ok-push_dead-in-Loop t c =
    let seen : check_view c.args.check.now ≡ loop_at c.in-Loop.result (tree_view c.in-Loop.body) = ap check_view c.in-Loop.is ∙ loop_seen c.in-Loop.result c.in-Loop.body in
    subst (λ (k : Check). PassesStep c.args.first c.args.first k c.args.out.now.items c.push_dead-in-Loop.new.out.items) (sym seen)
    (passes_loop c.args.first c.in-Loop.result (tree_view c.in-Loop.body) c.args.out.now.items c.push_dead-in-Loop.new.out.items c.in_ok-push_dead-in-Loop.ensures)

pub push_step-returns-in-Return : goal.push_step-returns-in-Return
push_step-returns-in-Return t c =
    let seen : check_view c.args.check.now ≡ return_at (position c.in-Return.pos) c.in-Return.result = ap check_view c.in-Return.is ∙ return_seen c.in-Return.pos c.in-Return.result in
    IfOk-weaker c.push_return.result
    (λ after. (site : ℕ) → PassesStep c.args.first after (return_at (position c.in-Return.pos) site) c.args.out.now.items c.push_return.new.out.items)
    (λ after. PassesStep c.args.first after (check_view c.args.check.now) c.args.out.now.items c.push_return.new.out.items)
    (λ after h. subst (λ (k : Check). PassesStep c.args.first after k c.args.out.now.items c.push_return.new.out.items) (sym seen) (h c.in-Return.result))
    c.push_return.ensures
