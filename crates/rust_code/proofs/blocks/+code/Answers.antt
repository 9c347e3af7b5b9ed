use Rattle.std.proofs.Common.{◌≡◌, ◌+◌, ◌∙◌, ◌==◌, length, suc, true, rules, refl, sym, ap}
use Rattle.model_code.specs.Code.{no_statement, statement}
use Rattle.model_code.specs.Flat.{flat_arms}
use Rattle.core_serialize.specs.declared.serialize.MatchArm.{out-MatchArm}
use Rattle.core_serialize.specs.TreeViews.{arms_view, steps_view, tree_view}
use Rattle.core_serialize.proofs.TreeLaws.{block_steps}
use Rattle.core_rule_sets.specs.SiteViews.{site_views}
use Rattle.rust_code.specs.CodeViews.{arms_before, before}
use Rattle.rust_code.specs.HeldViews.{passes_in}
use Rattle.rust_code.specs.Labels.{arms_in, code_in, is_deep, shaped}
use Rattle.rust_code.proofs.BlockSteps.{room_inside, steps_more, steps_done, body_made, match_made, equal_made, loop_made, result_made, arms_more, arms_done, one_arm_last, many_arms_last, only_item, none_not_one, many_not_one, loop_last, result_last, equal_last, arm_last}
use Rattle.rust_code.proofs.StatementSteps.{before_pushed}
use Rattle.rust_code.proofs.blocks.+code.Goals as goal

-- steps
pub add_steps-loop-step-init : goal.add_steps-loop-step-init
add_steps-loop-step-init t c = record { number = refl; made = λ n r. refl }

pub add_steps-loop-step-preserved : goal.add_steps-loop-step-preserved
add_steps-loop-step-preserved t c =
    let sites = site_views c.args.stage.now.sites.now in
    let p = passes_in c.args.stage.now in
    record {
      number = ap (λ k. k + 1) c.loop-step.invariant.number;
      made = λ n r.
          steps_more sites p c.args.leaves c.is_end-ends.result c.loop-step.out.items c.add_step.new.out.items c.args.steps.now c.step-item.result (c.loop-step.number + 1) c.loop-step.step-index n _ (search rules) c.step-item.is
          (ap (λ k. k + 1) c.loop-step.invariant.number) (search rules) (λ rest e. c.in_ok-add_step.ensures n rest r e) (c.loop-step.invariant.made n r);
    }

pub add_steps-returns : goal.add_steps-returns
add_steps-returns t c = λ n r.
    steps_done (site_views c.args.stage.now.sites.now) (passes_in c.args.stage.now) c.args.leaves c.loop-step.out.items c.args.steps.now c.loop-step.step-index n _ (search rules) (c.loop-step.invariant.made n r)

-- tests
pub add_check-returns : goal.add_check-returns
add_check-returns t c = λ n rest r.
    before_pushed c.args.out.now.items c.push.new.self.items c.in_ok-tested.tested rest c.in_ok-push.ensures.items ∙ ap (λ x. before c.args.out.now.items (statement x rest)) (c.in_ok-tested.ensures n r)

pub check_of-returns-in_ok-made-in-Match : goal.check_of-returns-in_ok-made-in-Match
check_of-returns-in_ok-made-in-Match t c = λ n r.
    let m = c.in-Match in
    match_made (site_views c.args.stage.now.sites.now) (passes_in c.args.stage.now) c.matched.result c.in_ok-made-in-Match.made.items c.args.check.now m.source m.arms n m.is c.matched.ensures
    (c.in_ok-made-in-Match.ensures n r ∙ ap (λ l. flat_arms (arms_in c.args.stage.now (arms_view l)) is_deep n) c.deref.ensures.value)

pub check_of-returns-in_ok-made-in-Equal : goal.check_of-returns-in_ok-made-in-Equal
check_of-returns-in_ok-made-in-Equal t c = λ n r.
    let m = c.in-Equal in
    equal_made (site_views c.args.stage.now.sites.now) (passes_in c.args.stage.now) c.compared.result c.in_ok-made-in-Equal.made c.args.check.now m.a m.b m.body n m.is c.compared.ensures (c.in_ok-made-in-Equal.ensures n r)

pub check_of-returns-in_ok-made-in-Loop : goal.check_of-returns-in_ok-made-in-Loop
check_of-returns-in_ok-made-in-Loop t c = λ n r.
    let m = c.in-Loop in
    loop_made (site_views c.args.stage.now.sites.now) (passes_in c.args.stage.now) c.loop_over.result c.in_ok-made-in-Loop.made c.args.check.now m.result m.body n m.is c.loop_over.ensures (c.in_ok-made-in-Loop.ensures n r)

pub check_of-returns-in-Return : goal.check_of-returns-in-Return
check_of-returns-in-Return t c = λ n r.
    let m = c.in-Return in
    result_made (site_views c.args.stage.now.sites.now) (passes_in c.args.stage.now) c.given.result c.args.check.now m.pos m.result n m.is c.given.ensures

-- arms
pub arms_of-loop-arm-init : goal.arms_of-loop-arm-init
arms_of-loop-arm-init t c = λ n r. ap (λ l. arms_before l (flat_arms (arms_in c.args.stage.now (arms_view c.args.arms.now)) is_deep n)) c.new-out.ensures.items

pub arms_of-loop-arm-preserved : goal.arms_of-loop-arm-preserved
arms_of-loop-arm-preserved t c = λ n r.
    arms_more (site_views c.args.stage.now.sites.now) (passes_in c.args.stage.now) c.loop-arm.out.items c.push.new.self.items c.args.arms.now c.in_ok-made.made c.arm-item.result c.loop-arm.arm-index n _ (search rules) c.arm-item.is
    c.in_ok-push.ensures.items (λ rest. c.in_ok-made.ensures n rest r) (c.loop-arm.invariant n r)

pub arms_of-returns : goal.arms_of-returns
arms_of-returns t c = λ n r.
    arms_done (site_views c.args.stage.now.sites.now) (passes_in c.args.stage.now) c.loop-arm.out.items c.args.arms.now c.loop-arm.arm-index n _ (search rules) (c.loop-arm.invariant n r)

-- bodies
pub body_of-returns : goal.body_of-returns
body_of-returns t c = λ n r.
    let made =
    c.in_ok-add_steps.ensures (suc n) (room_inside c.args.room c.saturating_sub-inside.result n (search rules) r)
    ∙ ap (λ l. before l (shaped (c.args.room == 0) (code_in c.args.stage.now (steps_view c.deref.result.now)) (suc n))) c.new-statements.ensures.items
    ∙ ap (λ b. shaped (c.args.room == 0) (code_in c.args.stage.now b) (suc n)) (ap steps_view c.deref.ensures.value ∙ sym (block_steps c.args.body.now)) in
    body_made (site_views c.args.stage.now.sites.now) (passes_in c.args.stage.now) c.in_ok-in_label.field-0 c.add_steps.new.out.items (c.args.room == 0) c.args.room n (tree_view c.args.body.now) refl r c.in_ok-in_label.ensures made

-- the test that ends the block of a label
pub add_last-returns-in_ok-add_check-in-Loop : goal.add_last-returns-in_ok-add_check-in-Loop
add_last-returns-in_ok-add_check-in-Loop t c = λ n r.
    let m = c.in-Loop in
    c.in_ok-add_check-in-Loop.ensures n no_statement r ∙ ap (before c.args.out.now.items) (loop_last (site_views c.args.stage.now.sites.now) (passes_in c.args.stage.now) c.args.check.now m.result m.body n m.is)

pub add_last-returns-in_ok-add_check-in-Return : goal.add_last-returns-in_ok-add_check-in-Return
add_last-returns-in_ok-add_check-in-Return t c = λ n r.
    let m = c.in-Return in
    c.in_ok-add_check-in-Return.ensures n no_statement r ∙ ap (before c.args.out.now.items) (result_last (site_views c.args.stage.now.sites.now) (passes_in c.args.stage.now) c.args.check.now m.pos m.result n m.is)

pub add_last-returns-in_ok-add_check-in-empty : goal.add_last-returns-in_ok-add_check-in-empty
add_last-returns-in_ok-add_check-in-empty t c = λ n r.
    let m = c.in-Match in
    let other : length m.arms.items ≡ 1 → ⊥ = λ one. none_not_one c.as_slice.result.now c.in-empty.len_below (ap length c.as_slice.ensures.value ∙ one) in
    c.in_ok-add_check-in-empty.ensures n no_statement r
    ∙ ap (before c.args.out.now.items) (many_arms_last (site_views c.args.stage.now.sites.now) (passes_in c.args.stage.now) c.args.check.now m.source m.arms n m.is other)

pub add_last-returns-in_ok-add_unless-in-len1 : goal.add_last-returns-in_ok-add_unless-in-len1
add_last-returns-in_ok-add_unless-in-len1 t c = λ n r.
    let m = c.in-Match in
    let a = c.arm-item.result in
    let alone = only_item c.as_slice.result.now a c.in-len1.len_at_least c.in-len1.len_below c.arm-item.is in
    c.in_ok-add_unless-in-len1.ensures n r
    ∙ ap (before c.args.out.now.items) (one_arm_last (site_views c.args.stage.now.sites.now) (passes_in c.args.stage.now) c.args.check.now m.source m.arms a n m.is (sym c.as_slice.ensures.value ∙ alone))

pub add_last-returns-in_ok-add_check-in-len2-up : goal.add_last-returns-in_ok-add_check-in-len2-up
add_last-returns-in_ok-add_check-in-len2-up t c = λ n r.
    let m = c.in-Match in
    let other : length m.arms.items ≡ 1 → ⊥ = λ one. many_not_one c.as_slice.result.now c.in-len2-up.len_at_least (ap length c.as_slice.ensures.value ∙ one) in
    c.in_ok-add_check-in-len2-up.ensures n no_statement r
    ∙ ap (before c.args.out.now.items) (many_arms_last (site_views c.args.stage.now.sites.now) (passes_in c.args.stage.now) c.args.check.now m.source m.arms n m.is other)

pub add_last-returns-in_ok-add_steps-in-Equal : goal.add_last-returns-in_ok-add_steps-in-Equal
add_last-returns-in_ok-add_steps-in-Equal t c = λ n r.
    let m = c.in-Equal in
    equal_last (site_views c.args.stage.now.sites.now) (passes_in c.args.stage.now) c.args.out.now.items c.add_unless_equal.new.out.items c.add_steps.new.out.items c.args.check.now m.a m.b m.body n m.is c.in_ok-add_unless_equal-in-Equal.ensures
    (c.in_ok-add_steps-in-Equal.ensures n r ∙ ap (λ b. before c.add_unless_equal.new.out.items (shaped true (code_in c.args.stage.now b) n)) (ap steps_view c.deref.ensures.value ∙ sym (block_steps m.body)))

pub add_unless-returns : goal.add_unless-returns
add_unless-returns t c = λ n r.
    let a = c.args.arm.now in
    arm_last (site_views c.args.stage.now.sites.now) (passes_in c.args.stage.now) c.args.out.now.items c.add_unless_let.new.out.items c.add_steps.new.out.items a c.args.source n (search rules)
    (c.in_ok-add_steps.ensures n r ∙ ap (λ b. before c.add_unless_let.new.out.items (shaped true (code_in c.args.stage.now b) n)) (search rules ∙ sym (block_steps (out-MatchArm a).body)))
