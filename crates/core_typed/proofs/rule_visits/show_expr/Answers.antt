use Rattle.std.proofs.Common.{sym}
use Rattle.core_typed.specs.ExprViews.{expr_view}
use Rattle.core_typed.specs.VisitorSteps.{expr_steps, pattern_steps, rule_steps}
use Rattle.core_typed.proofs.RuleRunSteps.{lends_value}
use Rattle.core_typed.proofs.rule_visits.show_expr.Goals as goal

pub returns : goal.returns
returns g c =
    lends_value (rule_steps g.V.RuleVisitor) (pattern_steps g.V.PatternVisitor.PatternVisitor) (expr_steps g.V.ExprVisitor.ExprVisitor) (g.E.UsedTerms.term_entries c.args.termenv.now) (expr_view c.args.expr.now) c.args.values.now
    _ c.args.visitor.now c.add_expr.result c.add_expr.new.self (λ l a k h. rw (sym h.shows, sym h.leaves) h.met) c.add_expr.ensures
