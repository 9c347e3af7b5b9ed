use Rattle.std.proofs.Common.{sym, arith, get_or, drop, ◌+◌, ◌∙◌}
use Rattle.core_typed.specs.PatternViews.{pattern_view, pattern_views}
use Rattle.model.specs.lists.Visitable.{bound_after}
use Rattle.model.specs.visits.Runs.{bound_vars}
use Rattle.core_typed.specs.VisitorSteps.{expr_steps, pattern_steps, rule_steps}
use Rattle.core_typed.proofs.PatternRunSteps.{err_is}
use Rattle.core_typed.proofs.RuleRunSteps.{args_step, args_stop, args_stop_arg, next_arg, list_same, call_binds}
use Rattle.core_typed.proofs.rule_visits.visit_args.Goals as goal

pub show_pattern-requires : goal.show_pattern-requires
show_pattern-requires g c =
    rw c.index-args-i.is (next_arg (g.E.UsedTerms.term_entries c.args.termenv.now) c.args.args.now c.loop-i.i c.index-args-i.result (bound_vars c.loop-i.vars) c.loop-i-test.true c.loop-i.invariant.1).0

pub returns-in_err-vars : goal.returns-in_err-vars
returns-in_err-vars g c =
    let v = rule_steps g.V.RuleVisitor in
    let p = pattern_steps g.V.PatternVisitor.PatternVisitor in
    let q = expr_steps g.V.ExprVisitor.ExprVisitor in
    let terms = g.E.UsedTerms.term_entries c.args.termenv.now in
    rw (err_is c.from_residual-in_err-vars.result c.in_err-vars.field-0.0 c.from_residual-in_err-vars.ensures)
    (c.loop-i.invariant.0 _ _
    (args_stop v p q terms c.args.args.now c.args.tys.now c.loop-i.i c.index-args-i.result (record { 0 = 0 }) c.loop-i.vars c.in_ok-input.input c.loop-i.visitor c.add_arg.new.self c.in_err-vars.field-0.0 c.show_pattern.new.visitor
    c.loop-i-test.true (omega (arith, c.loop-i-test.true, c.requires.count)) c.in_ok-input.ensures (rw (sym c.index-args-i.is) c.in_err-vars.ensures)))

pub returns-in_err-input : goal.returns-in_err-input
returns-in_err-input g c =
    let v = rule_steps g.V.RuleVisitor in
    let p = pattern_steps g.V.PatternVisitor.PatternVisitor in
    let q = expr_steps g.V.ExprVisitor.ExprVisitor in
    let terms = g.E.UsedTerms.term_entries c.args.termenv.now in
    rw (err_is c.from_residual.result c.in_err-input.field-0.0 c.from_residual.ensures)
    (c.loop-i.invariant.0 _ _
    (args_stop_arg v p q terms c.args.args.now c.args.tys.now c.loop-i.i c.index-args-i.result (record { 0 = 0 }) c.loop-i.vars c.loop-i.visitor c.in_err-input.field-0.0 c.add_arg.new.self
    c.loop-i-test.true (omega (arith, c.loop-i-test.true, c.requires.count)) c.in_err-input.ensures))

pub loop-i-preserved : goal.loop-i-preserved
loop-i-preserved g c =
    let v = rule_steps g.V.RuleVisitor in
    let p = pattern_steps g.V.PatternVisitor.PatternVisitor in
    let q = expr_steps g.V.ExprVisitor.ExprVisitor in
    let terms = g.E.UsedTerms.term_entries c.args.termenv.now in
    let d = c.index-args-i.result in (
      λ r u h.
          c.loop-i.invariant.0 r u
          (args_step v p q terms c.args.args.now c.args.tys.now c.loop-i.i d (record { 0 = 0 }) c.loop-i.vars c.in_ok-vars.vars c.in_ok-input.input c.loop-i.visitor
          c.add_arg.new.self c.show_pattern.new.visitor r u
          c.loop-i-test.true (omega (arith, c.loop-i-test.true, c.requires.count)) c.in_ok-input.ensures (rw (sym c.index-args-i.is) c.in_ok-vars.ensures) h),
      list_same terms (pattern_views (drop (c.loop-i.i + 1) c.args.args.now)) (bound_vars c.in_ok-vars.vars) (bound_after (pattern_view (get_or c.args.args.now c.loop-i.i d)) (bound_vars c.loop-i.vars))
          (call_binds v p q terms (pattern_view (get_or c.args.args.now c.loop-i.i d)) c.in_ok-input.input c.loop-i.vars
          c.add_arg.new.self c.in_ok-vars.vars c.show_pattern.new.visitor (rw (sym c.index-args-i.is) c.in_ok-vars.ensures))
          ∙ (next_arg terms c.args.args.now c.loop-i.i d (bound_vars c.loop-i.vars) c.loop-i-test.true c.loop-i.invariant.1).1,
    )
