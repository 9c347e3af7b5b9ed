use Rattle.std.proofs.Common.{sym, get_or, drop, map, ◌+◌, ◌∙◌}
use Rattle.core_typed.specs.PatternViews.{pattern_view}
use Rattle.core_typed.specs.RuleViews.{iflet_view}
use Rattle.model.specs.lists.Visitable.{bound_after}
use Rattle.model.specs.visits.Runs.{bound_vars}
use Rattle.core_typed.specs.VisitorSteps.{expr_steps, pattern_steps, rule_steps}
use Rattle.core_typed.proofs.PatternRunSteps.{err_is}
use Rattle.core_typed.proofs.RuleRunSteps.{iflets_step, iflets_stop_value, iflets_stop_input, iflets_stop_pattern, next_iflet, iflets_same, call_binds}
use Rattle.core_typed.proofs.rule_visits.visit_iflets.Goals as goal

pub visit_value-requires : goal.visit_value-requires
visit_value-requires g c =
    rw c.iflet-item.is (next_iflet (g.E.UsedTerms.term_entries c.args.termenv.now) c.args.iflets.now c.loop-iflet.iflet-index c.iflet-item.result (bound_vars c.loop-iflet.bound) c.loop-iflet-test.true c.loop-iflet.invariant.1).0

pub show_pattern-requires : goal.show_pattern-requires
show_pattern-requires g c =
    rw c.iflet-item.is (next_iflet (g.E.UsedTerms.term_entries c.args.termenv.now) c.args.iflets.now c.loop-iflet.iflet-index c.iflet-item.result (bound_vars c.loop-iflet.bound) c.loop-iflet-test.true c.loop-iflet.invariant.1).1.0

pub returns-in_err-value : goal.returns-in_err-value
returns-in_err-value g c =
    let v = rule_steps g.V.RuleVisitor in
    let p = pattern_steps g.V.PatternVisitor.PatternVisitor in
    let q = expr_steps g.V.ExprVisitor.ExprVisitor in
    let terms = g.E.UsedTerms.term_entries c.args.termenv.now in
    rw (err_is c.from_residual.result c.in_err-value.field-0.0 c.from_residual.ensures)
    (c.loop-iflet.invariant.0 _ _
    (iflets_stop_value v p q terms c.args.iflets.now c.loop-iflet.iflet-index c.iflet-item.result c.loop-iflet.bound c.loop-iflet.visitor c.in_err-value.field-0.0 c.visit_value.new.visitor
    c.loop-iflet-test.true (rw (sym c.iflet-item.is) c.in_err-value.ensures)))

pub returns-in_err-input : goal.returns-in_err-input
returns-in_err-input g c =
    let v = rule_steps g.V.RuleVisitor in
    let p = pattern_steps g.V.PatternVisitor.PatternVisitor in
    let q = expr_steps g.V.ExprVisitor.ExprVisitor in
    let terms = g.E.UsedTerms.term_entries c.args.termenv.now in
    rw (err_is c.from_residual-in_err-input.result c.in_err-input.field-0.0 c.from_residual-in_err-input.ensures)
    (c.loop-iflet.invariant.0 _ _
    (iflets_stop_input v p q terms c.args.iflets.now c.loop-iflet.iflet-index c.iflet-item.result c.loop-iflet.bound c.in_ok-value.value
    c.loop-iflet.visitor c.visit_value.new.visitor c.in_err-input.field-0.0 c.expr_as_pattern.new.self
    c.loop-iflet-test.true (rw (sym c.iflet-item.is) c.in_ok-value.ensures) c.in_err-input.ensures))

pub returns-in_err-bound : goal.returns-in_err-bound
returns-in_err-bound g c =
    let v = rule_steps g.V.RuleVisitor in
    let p = pattern_steps g.V.PatternVisitor.PatternVisitor in
    let q = expr_steps g.V.ExprVisitor.ExprVisitor in
    let terms = g.E.UsedTerms.term_entries c.args.termenv.now in
    rw (err_is c.from_residual-in_err-bound.result c.in_err-bound.field-0.0 c.from_residual-in_err-bound.ensures)
    (c.loop-iflet.invariant.0 _ _
    (iflets_stop_pattern v p q terms c.args.iflets.now c.loop-iflet.iflet-index c.iflet-item.result c.loop-iflet.bound c.in_ok-value.value c.in_ok-input.input
    c.loop-iflet.visitor c.visit_value.new.visitor c.expr_as_pattern.new.self c.in_err-bound.field-0.0 c.show_pattern.new.visitor
    c.loop-iflet-test.true (rw (sym c.iflet-item.is) c.in_ok-value.ensures) c.in_ok-input.ensures (rw (sym c.iflet-item.is) c.in_err-bound.ensures)))

pub loop-iflet-preserved : goal.loop-iflet-preserved
loop-iflet-preserved g c =
    let v = rule_steps g.V.RuleVisitor in
    let p = pattern_steps g.V.PatternVisitor.PatternVisitor in
    let q = expr_steps g.V.ExprVisitor.ExprVisitor in
    let terms = g.E.UsedTerms.term_entries c.args.termenv.now in
    let d = c.iflet-item.result in (
      λ r u h.
          c.loop-iflet.invariant.0 r u
          (iflets_step v p q terms c.args.iflets.now c.loop-iflet.iflet-index d c.loop-iflet.bound c.in_ok-bound.bound c.in_ok-value.value c.in_ok-input.input
          c.loop-iflet.visitor c.visit_value.new.visitor c.expr_as_pattern.new.self c.show_pattern.new.visitor r u
          c.loop-iflet-test.true (rw (sym c.iflet-item.is) c.in_ok-value.ensures) c.in_ok-input.ensures (rw (sym c.iflet-item.is) c.in_ok-bound.ensures) h),
      iflets_same terms (map iflet_view (drop (c.loop-iflet.iflet-index + 1) c.args.iflets.now)) (bound_vars c.in_ok-bound.bound)
          (bound_after (pattern_view (get_or c.args.iflets.now c.loop-iflet.iflet-index d).lhs) (bound_vars c.loop-iflet.bound))
          (call_binds v p q terms (pattern_view (get_or c.args.iflets.now c.loop-iflet.iflet-index d).lhs) c.in_ok-input.input c.loop-iflet.bound
          c.expr_as_pattern.new.self c.in_ok-bound.bound c.show_pattern.new.visitor (rw (sym c.iflet-item.is) c.in_ok-bound.ensures))
          ∙ (next_iflet terms c.args.iflets.now c.loop-iflet.iflet-index d (bound_vars c.loop-iflet.bound) c.loop-iflet-test.true c.loop-iflet.invariant.1).1.1,
    )
