use Rattle.std.proofs.Common.{[], drop, IsTrue}
use Rattle.core_typed.specs.PatternViews.{pattern_views}
use Rattle.model.specs.visits.RuleRuns.{ArgsRun}
use Rattle.model.specs.lists.Visitable.{are_visitable_list}
use Rattle.core_typed.specs.VisitAnswers.{type_numbers}
use Rattle.model.specs.visits.Runs.{bound_vars}
use Rattle.core_typed.specs.VisitorSteps.{expr_steps, no_memory, pattern_steps, rule_steps}
use Rattle.core_typed.proofs.rule_visits.visit_args.Given as goal

-- what the rest may lead to, the whole may; and the rest can be visited
abbrev pub invariant-loop-i : goal.invariant-loop-i
invariant-loop-i g l =
    ((r : _) (t : _) →
    ArgsRun no_memory (rule_steps g.V.RuleVisitor) (pattern_steps g.V.PatternVisitor.PatternVisitor) (expr_steps g.V.ExprVisitor.ExprVisitor) (g.E.UsedTerms.term_entries l.termenv)
    (pattern_views (drop l.i l.args)) (type_numbers (drop l.i l.tys)) l.i l.vars l.visitor r t →
    ArgsRun no_memory (rule_steps g.V.RuleVisitor) (pattern_steps g.V.PatternVisitor.PatternVisitor) (expr_steps g.V.ExprVisitor.ExprVisitor) (g.E.UsedTerms.term_entries l.termenv) (pattern_views l.args) (type_numbers l.tys) 0 [] l.fn.visitor r t)
    × IsTrue (are_visitable_list (g.E.UsedTerms.term_entries l.termenv) (pattern_views (drop l.i l.args)) (bound_vars l.vars))
