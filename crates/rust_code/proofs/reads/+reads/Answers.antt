use Rattle.std.proofs.Common.{◌∙◌, ◌||◌, rules, refl, sym, ap}
use Rattle.model_code.specs.MovedOnce.{arms_read}
use Rattle.rust_code.specs.CodeViews.{place_view}
use Rattle.rust_code.proofs.Reading.{arm_here, hidden_here, more_arms, no_arm_left, none_left, read_further, read_here}
use Rattle.rust_code.proofs.reads.+reads.Goals as goal

pub is_read-loop-statement-init : goal.is_read-loop-statement-init
is_read-loop-statement-init t c = refl

pub is_read-loop-statement-preserved : goal.is_read-loop-statement-preserved
is_read-loop-statement-preserved t c =
    sym (read_further (place_view c.args.place.now) c.args.statements.now c.loop-statement.statement-index c.statement-item.result c.is_read_at.result c.hides.result (search rules) c.statement-item.is c.is_read_at.ensures c.hides.ensures
    c.if-is_read_at.false c.if-hides.false)
    ∙ c.loop-statement.invariant

pub is_read-returns-then-is_read_at : goal.is_read-returns-then-is_read_at
is_read-returns-then-is_read_at t c =
    sym (read_here (place_view c.args.place.now) c.args.statements.now c.loop-statement.statement-index c.statement-item.result c.is_read_at.result c.is_read_at.result (search rules) c.statement-item.is c.is_read_at.ensures c.if-is_read_at.true)
    ∙ c.loop-statement.invariant

pub is_read-returns-then-hides : goal.is_read-returns-then-hides
is_read-returns-then-hides t c =
    sym (hidden_here (place_view c.args.place.now) c.args.statements.now c.loop-statement.statement-index c.statement-item.result c.is_read_at.result c.hides.result (search rules) c.statement-item.is c.is_read_at.ensures c.hides.ensures
    c.if-is_read_at.false c.if-hides.true)
    ∙ c.loop-statement.invariant

pub is_read-returns : goal.is_read-returns
is_read-returns t c = sym (none_left (place_view c.args.place.now) c.args.statements.now c.loop-statement.statement-index (search rules)) ∙ c.loop-statement.invariant

pub is_read_in-loop-arm-init : goal.is_read_in-loop-arm-init
is_read_in-loop-arm-init t c = refl

pub is_read_in-loop-arm-preserved : goal.is_read_in-loop-arm-preserved
is_read_in-loop-arm-preserved t c =
    let q = place_view c.args.place.now in
    let here = arm_here q c.args.arms.now c.loop-arm.arm-index c.arm-item.result c.is_read_by.result (search rules) c.arm-item.is c.is_read_by.ensures in
    sym (here ∙ ap (λ b. b || more_arms q c.args.arms.now c.loop-arm.arm-index) c.if-is_read_by.false) ∙ c.loop-arm.invariant

pub is_read_in-returns-then-is_read_by : goal.is_read_in-returns-then-is_read_by
is_read_in-returns-then-is_read_by t c =
    let q = place_view c.args.place.now in
    let here = arm_here q c.args.arms.now c.loop-arm.arm-index c.arm-item.result c.is_read_by.result (search rules) c.arm-item.is c.is_read_by.ensures in
    sym (here ∙ ap (λ b. b || more_arms q c.args.arms.now c.loop-arm.arm-index) c.if-is_read_by.true) ∙ c.loop-arm.invariant

pub is_read_in-returns : goal.is_read_in-returns
is_read_in-returns t c = sym (no_arm_left (place_view c.args.place.now) c.args.arms.now c.loop-arm.arm-index (search rules)) ∙ c.loop-arm.invariant
