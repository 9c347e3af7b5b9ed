use Rattle.std.proofs.Common.{◌≡◌, ◌∷◌, ◌∙◌, None, Some, false, option_map, refl, rules, slice_get, sym, ap, subst, true}
use Rattle.core_syntax.specs.SyntaxViews.{position}
use Rattle.model.specs.rules.Outcome.{ran_through, stuck, then_option}
use Rattle.model.specs.trees.Run.{bind_fields, ending_at, for_each, iterated, on_ending, returned, with_content, with_env, bind_all, run_arms, run_check, run_tree, used, used_value}
use Rattle.model.specs.trees.Trees.{equal_at, loop_at, match_at, return_at}
use Rattle.core_serialize.specs.declared.serialize.MatchArm.{out-MatchArm}
use Rattle.core_serialize.specs.TreeViews.{arms_view, check_view, steps_view, tree_view}
use Rattle.core_serialize.proofs.TreeLaws.{block_steps, equal_seen, loop_seen, match_seen, return_seen}
use Rattle.run_terms.specs.RunViews.{IsBeginningOf, bound_view, call_views, content_list, ending_view, env_view, equality_by, many_by, outcome_at, stage_view, trace_view}
use Rattle.run_terms.specs.ValueViews.{content_view}
use Rattle.run_terms.proofs.BindSteps.{begins_here, begins_then, cut_back, env_pushed}
use Rattle.run_terms.proofs.RunSteps.{arms_done, arms_met, arms_more, block_done, block_more, block_over, each_done, each_more, each_over, equal_ran, loop_ran, match_ran, match_stuck, return_ran, step_failed, step_stuck, step_through}
use Rattle.run_terms.proofs.run.+run.Goals as goal

-- blocks
pub run_block-loop-step-init : goal.run_block-loop-step-init
run_block-loop-step-init g t c =
    let w = stage_view g.E.Externs.functions c.args.stage.now in
    record { ran = ap (λ b. run_tree b w (env_view c.args.env.now.items) (trace_view c.args.trace.now)) (ap steps_view c.deref-step-items.ensures.value ∙ sym (block_steps c.args.block.now)); kept = begins_here c.args.env.now.items }

pub run_block-loop-step-preserved : goal.run_block-loop-step-preserved
run_block-loop-step-preserved g t c =
    let w = stage_view g.E.Externs.functions c.args.stage.now in
    record {
      ran = block_more w c.deref-step-items.result.now c.loop-step.step-index c.step-item.result (env_view c.loop-step.env.items) (env_view c.run_step.new.env.items) (trace_view c.loop-step.trace) (trace_view c.run_step.new.trace)
          c.in_ok-ending.ending _ (search rules) c.step-item.is c.in_ok-ending.ensures.ran (sym c.goes_on.ensures ∙ c.if-not-goes_on.false) c.loop-step.invariant.ran;
      kept = begins_then c.args.env.now.items c.loop-step.env.items c.run_step.new.env.items c.loop-step.invariant.kept c.in_ok-ending.ensures.kept;
    }

pub run_block-returns-then-not-goes_on : goal.run_block-returns-then-not-goes_on
run_block-returns-then-not-goes_on g t c =
    let w = stage_view g.E.Externs.functions c.args.stage.now in
    record {
      ran = block_over w c.deref-step-items.result.now c.loop-step.step-index c.step-item.result (env_view c.loop-step.env.items) (env_view c.run_step.new.env.items) (trace_view c.loop-step.trace) (trace_view c.run_step.new.trace)
          c.in_ok-ending.ending _ (search rules) c.step-item.is c.in_ok-ending.ensures.ran (sym c.goes_on.ensures ∙ c.if-not-goes_on.true) c.loop-step.invariant.ran;
      kept = begins_then c.args.env.now.items c.loop-step.env.items c.run_step.new.env.items c.loop-step.invariant.kept c.in_ok-ending.ensures.kept;
    }

pub run_block-returns : goal.run_block-returns
run_block-returns g t c =
    let w = stage_view g.E.Externs.functions c.args.stage.now in
    record {
      ran = block_done w c.deref-step-items.result.now c.loop-step.step-index (env_view c.loop-step.env.items) (trace_view c.loop-step.trace) _ (search rules) c.loop-step.invariant.ran;
      kept = c.loop-step.invariant.kept;
    }

-- loops
pub run_each-loop-content-init : goal.run_each-loop-content-init
run_each-loop-content-init g t c = record { ran = refl; kept = refl }

pub run_each-loop-content-preserved : goal.run_each-loop-content-preserved
run_each-loop-content-preserved g t c =
    let w = stage_view g.E.Externs.functions c.args.stage.now in
    record {
      ran = each_more c.args.contents.now c.loop-content.content-index c.content-item.result (λ d t'. run_tree (tree_view c.args.body.now) w ((c.args.site, d) ∷ env_view c.args.env.now.items) t') (trace_view c.loop-content.trace) c.run_once.new.trace
          c.in_ok-ending.ending _ (search rules) c.content-item.is (c.in_ok-ending.ensures.ran ∙ ap (λ l. run_tree (tree_view c.args.body.now) w ((c.args.site, content_view c.content-item.result) ∷ env_view l) (trace_view c.loop-content.trace)) c.loop-content.invariant.kept)
          (sym c.goes_on.ensures ∙ c.if-not-goes_on.false) c.loop-content.invariant.ran;
      kept = c.in_ok-ending.ensures.kept ∙ c.loop-content.invariant.kept;
    }

pub run_each-returns-then-not-goes_on : goal.run_each-returns-then-not-goes_on
run_each-returns-then-not-goes_on g t c =
    let w = stage_view g.E.Externs.functions c.args.stage.now in
    record {
      ran = each_over c.args.contents.now c.loop-content.content-index c.content-item.result (λ d t'. run_tree (tree_view c.args.body.now) w ((c.args.site, d) ∷ env_view c.args.env.now.items) t') (trace_view c.loop-content.trace) c.run_once.new.trace
          c.in_ok-ending.ending _ (search rules) c.content-item.is (c.in_ok-ending.ensures.ran ∙ ap (λ l. run_tree (tree_view c.args.body.now) w ((c.args.site, content_view c.content-item.result) ∷ env_view l) (trace_view c.loop-content.trace)) c.loop-content.invariant.kept)
          (sym c.goes_on.ensures ∙ c.if-not-goes_on.true) c.loop-content.invariant.ran;
      kept = c.in_ok-ending.ensures.kept ∙ c.loop-content.invariant.kept;
    }

pub run_each-returns : goal.run_each-returns
run_each-returns g t c =
    let w = stage_view g.E.Externs.functions c.args.stage.now in
    record {
      ran = each_done c.args.contents.now c.loop-content.content-index (λ d t'. run_tree (tree_view c.args.body.now) w ((c.args.site, d) ∷ env_view c.args.env.now.items) t') (trace_view c.loop-content.trace) _ (search rules) c.loop-content.invariant.ran;
      kept = c.loop-content.invariant.kept;
    }

-- steps
pub run_step-returns-in_ok-run_within-in-All : goal.run_step-returns-in_ok-run_within-in-All
run_step-returns-in_ok-run_within-in-All g t c =
    let w = stage_view g.E.Externs.functions c.args.stage.now in
    let s = c.args.step.now in
    let e = c.in_ok-run_within-in-All.field-0 in
    let here = c.bind_all.new.env.items in
    let kept = c.in_ok-run_within-in-All.ensures.kept in
    let bound = ap (λ b. bound_view b (env_view here) (call_views c.bind_all.new.calls.items)) (sym c.in-All.is) ∙ c.in_ok-bind_all.ensures.bound ∙ ap (bind_all w (env_view c.args.env.now.items) (call_views c.args.trace.now.calls.items)) c.deref.ensures.value in
    record {
      ran = λ rest.
          ap (λ l. on_ending (ending_view e) (trace_view c.run_within.new.trace) (run_tree rest w (env_view l))) kept
          ∙ step_through w s.bind_order.items (check_view s.check) (env_view c.args.env.now.items) (env_view here) (trace_view c.args.trace.now) (call_views c.bind_all.new.calls.items) e c.run_within.new.trace bound
          c.in_ok-run_within-in-All.ensures.ran rest;
      kept = subst (IsBeginningOf c.args.env.now.items) (sym kept) c.in_ok-bind_all.ensures.kept;
    }

pub run_step-returns-in-Failed : goal.run_step-returns-in-Failed
run_step-returns-in-Failed g t c =
    let w = stage_view g.E.Externs.functions c.args.stage.now in
    let s = c.args.step.now in
    let bound = ap (λ b. bound_view b (env_view c.bind_all.new.env.items) (call_views c.bind_all.new.calls.items)) (sym c.in-Failed.is) ∙ c.in_ok-bind_all.ensures.bound ∙ ap (bind_all w (env_view c.args.env.now.items) (call_views c.args.trace.now.calls.items)) c.deref.ensures.value in
    record {
      ran = step_failed w s.bind_order.items (check_view s.check) (env_view c.args.env.now.items) (trace_view c.args.trace.now) (call_views c.bind_all.new.calls.items) bound;
      kept = c.in_ok-bind_all.ensures.kept;
    }

pub run_step-returns-in-Missing : goal.run_step-returns-in-Missing
run_step-returns-in-Missing g t c =
    let w = stage_view g.E.Externs.functions c.args.stage.now in
    let s = c.args.step.now in
    let bound = ap (λ b. bound_view b (env_view c.bind_all.new.env.items) (call_views c.bind_all.new.calls.items)) (sym c.in-Missing.is) ∙ c.in_ok-bind_all.ensures.bound ∙ ap (bind_all w (env_view c.args.env.now.items) (call_views c.args.trace.now.calls.items)) c.deref.ensures.value in
    record {
      ran = step_stuck w s.bind_order.items (check_view s.check) (env_view c.args.env.now.items) (trace_view c.args.trace.now) (call_views c.bind_all.new.calls.items) bound;
      kept = c.in_ok-bind_all.ensures.kept;
    }

-- tests
pub run_within-returns : goal.run_within-returns
run_within-returns g t c =
    record {
      ran = c.in_ok-ending.ensures.ran;
      kept = cut_back c.args.env.now.items c.run_check.new.env.items c.truncate.new.self.items c.len-depth.result c.in_ok-ending.ensures.kept (search rules) c.truncate.ensures.items;
    }

-- arms
pub run_arms-loop-arm-init : goal.run_arms-loop-arm-init
run_arms-loop-arm-init g t c = record { ran = refl; kept = begins_here c.args.env.now.items }

pub run_arms-returns : goal.run_arms-returns
run_arms-returns g t c =
    let w = stage_view g.E.Externs.functions c.args.stage.now in
    record {
      ran = arms_done w c.args.arms.now c.loop-arm.arm-index (content_view c.args.content.now) (env_view c.loop-arm.env.items) (trace_view c.loop-arm.trace) _ (search rules) c.loop-arm.invariant.ran;
      kept = c.loop-arm.invariant.kept;
    }

pub run_arms-loop-arm-preserved : goal.run_arms-loop-arm-preserved
run_arms-loop-arm-preserved g t c =
    let w = stage_view g.E.Externs.functions c.args.stage.now in
    record {
      ran = arms_more w c.args.arms.now c.loop-arm.arm-index c.arm-item.result (content_view c.args.content.now) (env_view c.loop-arm.env.items) (trace_view c.loop-arm.trace) _ (search rules) c.arm-item.is
          (ap (option_map (λ v. content_list v.items)) (sym c.in_default.is) ∙ c.in_ok-fields.ensures) c.loop-arm.invariant.ran;
      kept = c.loop-arm.invariant.kept;
    }

pub run_arms-returns-in-Some-clause-ran : goal.run_arms-returns-in-Some-clause-ran
run_arms-returns-in-Some-clause-ran g t c =
    let w = stage_view g.E.Externs.functions c.args.stage.now in
    let a = out-MatchArm c.arm-item.result in
    let here = env_view c.loop-arm.env.items in
    let before = trace_view c.loop-arm.trace in
    arms_met w c.args.arms.now c.loop-arm.arm-index c.arm-item.result (content_view c.args.content.now) (content_list c.in-Some.fields.items) here before
    (outcome_at c.in_ok-run_arm.field-0 c.run_arm.new.trace) _ (search rules) c.arm-item.is (ap (option_map (λ v. content_list v.items)) (sym c.in-Some.is) ∙ c.in_ok-fields.ensures)
    (c.in_ok-run_arm.ensures.ran ∙ ap (λ l. with_env (bind_fields a.bindings.items (content_list l) here) before (λ inside. run_tree (tree_view a.body) w inside before)) c.deref.ensures.value)
    c.loop-arm.invariant.ran

-- what tests lead to

pub run_check-returns-in_ok-run_arms-in-Some-clause-ran : goal.run_check-returns-in_ok-run_arms-in-Some-clause-ran
run_check-returns-in_ok-run_arms-in-Some-clause-ran g t c =
    let w = stage_view g.E.Externs.functions c.args.stage.now in
    let env = env_view c.args.env.now.items in
    let before = trace_view c.args.trace.now in
    let m = c.in-Match in
    let seen : check_view c.args.check.now ≡ match_at m.source (arms_view m.arms.items) = ap check_view m.is ∙ match_seen m.source m.arms in
    match_ran w m.source (arms_view m.arms.items) (content_view c.in-Some.content) env before (outcome_at c.in_ok-run_arms-in-Some.field-0 c.run_arms.new.trace)
    (ap (option_map content_view) (sym c.in-Some.is) ∙ c.in_ok-content-in-Match.ensures ∙ ap (λ l. used w (env_view l) m.source) c.deref.ensures.value)
    (c.in_ok-run_arms-in-Some.ensures.ran ∙ ap (λ l. run_arms (arms_view l) w (content_view c.in-Some.content) env before) c.deref-in-Some.ensures.value)
    ∙ ap (λ k. run_check k w env before) (sym seen)

pub run_check-returns-in-None-clause-ran : goal.run_check-returns-in-None-clause-ran
run_check-returns-in-None-clause-ran g t c =
    let w = stage_view g.E.Externs.functions c.args.stage.now in
    let env = env_view c.args.env.now.items in
    let before = trace_view c.args.trace.now in
    let m = c.in-Match in
    let seen : check_view c.args.check.now ≡ match_at m.source (arms_view m.arms.items) = ap check_view m.is ∙ match_seen m.source m.arms in
    match_stuck w m.source (arms_view m.arms.items) env before (ap (option_map content_view) (sym c.in-None.is) ∙ c.in_ok-content-in-Match.ensures ∙ ap (λ l. used w (env_view l) m.source) c.deref.ensures.value)
    ∙ ap (λ k. run_check k w env before) (sym seen)

pub run_check-returns-in_ok-run_block-in-Some-true-clause-ran : goal.run_check-returns-in_ok-run_block-in-Some-true-clause-ran
run_check-returns-in_ok-run_block-in-Some-true-clause-ran g t c =
    let w = stage_view g.E.Externs.functions c.args.stage.now in
    let env = env_view c.args.env.now.items in
    let before = trace_view c.args.trace.now in
    let m = c.in-Equal in
    let seen : check_view c.args.check.now ≡ equal_at m.a m.b (tree_view m.body) = ap check_view m.is ∙ equal_seen m.a m.b m.body in
    let q : c.in_ok-are_equal-in-Equal.field-0 ≡ Some true = cc (c.in-Some-true.is, c.in-Some-true.field-0-test) in
    equal_ran w m.a m.b (tree_view m.body) env before (outcome_at c.in_ok-run_block-in-Some-true.field-0 c.run_block.new.trace) (Some true) (sym q ∙ c.in_ok-are_equal-in-Equal.ensures ∙ ap (λ l. equality_by (used_value w (env_view l) m.a) (used_value w (env_view l) m.b)) c.deref-in-Equal.ensures.value) c.in_ok-run_block-in-Some-true.ensures.ran
    ∙ ap (λ k. run_check k w env before) (sym seen)

pub run_check-returns-in-Some-false-clause-ran : goal.run_check-returns-in-Some-false-clause-ran
run_check-returns-in-Some-false-clause-ran g t c =
    let w = stage_view g.E.Externs.functions c.args.stage.now in
    let env = env_view c.args.env.now.items in
    let before = trace_view c.args.trace.now in
    let m = c.in-Equal in
    let seen : check_view c.args.check.now ≡ equal_at m.a m.b (tree_view m.body) = ap check_view m.is ∙ equal_seen m.a m.b m.body in
    let q : c.in_ok-are_equal-in-Equal.field-0 ≡ Some false = cc (c.in-Some-false.is, c.in-Some-false.field-0-test) in
    equal_ran w m.a m.b (tree_view m.body) env before (ending_at ran_through before) (Some false) (sym q ∙ c.in_ok-are_equal-in-Equal.ensures ∙ ap (λ l. equality_by (used_value w (env_view l) m.a) (used_value w (env_view l) m.b)) c.deref-in-Equal.ensures.value) refl
    ∙ ap (λ k. run_check k w env before) (sym seen)

pub run_check-returns-in-None-2-clause-ran : goal.run_check-returns-in-None-2-clause-ran
run_check-returns-in-None-2-clause-ran g t c =
    let w = stage_view g.E.Externs.functions c.args.stage.now in
    let env = env_view c.args.env.now.items in
    let before = trace_view c.args.trace.now in
    let m = c.in-Equal in
    let seen : check_view c.args.check.now ≡ equal_at m.a m.b (tree_view m.body) = ap check_view m.is ∙ equal_seen m.a m.b m.body in
    equal_ran w m.a m.b (tree_view m.body) env before (ending_at stuck before) None (sym c.in-None-2.is ∙ c.in_ok-are_equal-in-Equal.ensures ∙ ap (λ l. equality_by (used_value w (env_view l) m.a) (used_value w (env_view l) m.b)) c.deref-in-Equal.ensures.value) refl
    ∙ ap (λ k. run_check k w env before) (sym seen)

pub run_check-returns-in_ok-run_each-in-Some-2-clause-ran : goal.run_check-returns-in_ok-run_each-in-Some-2-clause-ran
run_check-returns-in_ok-run_each-in-Some-2-clause-ran g t c =
    let w = stage_view g.E.Externs.functions c.args.stage.now in
    let env = env_view c.args.env.now.items in
    let before = trace_view c.args.trace.now in
    let m = c.in-Loop in
    let seen : check_view c.args.check.now ≡ loop_at m.result (tree_view m.body) = ap check_view m.is ∙ loop_seen m.result m.body in
    loop_ran w m.result (tree_view m.body) env before (outcome_at c.in_ok-run_each-in-Some-2.field-0 c.run_each.new.trace) (Some (content_list c.in-Some-2.contents.items))
    (ap (option_map (λ v. content_list v.items)) (sym c.in-Some-2.is) ∙ c.in_ok-contents-in-Loop.ensures ∙ ap (λ l. many_by (then_option (then_option (slice_get w.sites m.result) iterated) (used w (env_view l)))) c.deref-in-Loop.ensures.value)
    (c.in_ok-run_each-in-Some-2.ensures.ran ∙ ap (λ l. for_each (content_list l) (λ d after. run_tree (tree_view m.body) w ((m.result, d) ∷ env) after) before) c.deref-in-Some-2.ensures.value)
    ∙ ap (λ k. run_check k w env before) (sym seen)

pub run_check-returns-in-None-3-clause-ran : goal.run_check-returns-in-None-3-clause-ran
run_check-returns-in-None-3-clause-ran g t c =
    let w = stage_view g.E.Externs.functions c.args.stage.now in
    let env = env_view c.args.env.now.items in
    let before = trace_view c.args.trace.now in
    let m = c.in-Loop in
    let seen : check_view c.args.check.now ≡ loop_at m.result (tree_view m.body) = ap check_view m.is ∙ loop_seen m.result m.body in
    loop_ran w m.result (tree_view m.body) env before (ending_at stuck before) None
    (ap (option_map (λ v. content_list v.items)) (sym c.in-None-3.is) ∙ c.in_ok-contents-in-Loop.ensures ∙ ap (λ l. many_by (then_option (then_option (slice_get w.sites m.result) iterated) (used w (env_view l)))) c.deref-in-Loop.ensures.value) refl
    ∙ ap (λ k. run_check k w env before) (sym seen)

pub run_check-returns-in_ok-give-in-Return-clause-ran : goal.run_check-returns-in_ok-give-in-Return-clause-ran
run_check-returns-in_ok-give-in-Return-clause-ran g t c =
    let w = stage_view g.E.Externs.functions c.args.stage.now in
    let env = env_view c.args.env.now.items in
    let before = trace_view c.args.trace.now in
    let m = c.in-Return in
    let seen : check_view c.args.check.now ≡ return_at (position m.pos) m.result = ap check_view m.is ∙ return_seen m.pos m.result in
    return_ran w (position m.pos) m.result env before (outcome_at c.in_ok-give-in-Return.field-0 c.give.new.trace)
    (c.in_ok-give-in-Return.ensures ∙ ap (λ l. with_content (used w (env_view l) m.result) before (returned w.multi before)) c.deref-in-Return.ensures.value)
    ∙ ap (λ k. run_check k w env before) (sym seen)

pub run_once-returns-clause-ran : goal.run_once-returns-clause-ran
run_once-returns-clause-ran g t c =
    let w = stage_view g.E.Externs.functions c.args.stage.now in
    let env = env_view c.args.env.now.items in
    let before = trace_view c.args.trace.now in
    c.in_ok-ending.ensures.ran
    ∙ ap (λ l. run_tree (tree_view c.args.body.now) w l before)
    (env_pushed c.args.env.now.items c.push.new.self.items c.args.site c.in_ok-clone.field-0 c.in_ok-push.ensures.items ∙ ap (λ d. (c.args.site, d) ∷ env) c.in_ok-clone.ensures.cases)
