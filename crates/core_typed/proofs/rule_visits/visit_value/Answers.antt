use Rattle.std.proofs.Common.{ap, ◌∙◌}
use Rattle.model.specs.trees.Places.{is_in}
use Rattle.core_typed.specs.ExprViews.{expr_view}
use Rattle.model.specs.visits.Runs.{bound_vars}
use Rattle.core_typed.specs.VisitorSteps.{rule_steps}
use Rattle.core_typed.proofs.BoundVars.{expr_same}
use Rattle.core_typed.proofs.RuleRunSteps.{exchange_binds}
use Rattle.core_typed.proofs.rule_visits.visit_value.Goals as goal

pub show_expr-requires : goal.show_expr-requires
show_expr-requires g c =
    expr_same (g.E.UsedTerms.term_entries c.args.termenv.now) (expr_view c.args.expr.now) (bound_vars c.in_ok-values.values) (bound_vars c.args.vars.now)
    (λ y. ap (is_in y) (exchange_binds (rule_steps g.V.RuleVisitor) c.args.vars.now c.args.visitor.now c.in_ok-values.values c.exchange.new.visitor c.in_ok-values.ensures))
    ∙ c.requires
