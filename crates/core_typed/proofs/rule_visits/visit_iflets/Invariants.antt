use Rattle.std.proofs.Common.{drop, map, IsTrue}
use Rattle.model.specs.visits.RuleRuns.{IfLetsRun}
use Rattle.core_typed.specs.RuleViews.{iflet_view}
use Rattle.model.specs.lists.Visitable.{are_visitable_iflets}
use Rattle.model.specs.visits.Runs.{bound_vars}
use Rattle.core_typed.specs.VisitorSteps.{expr_steps, no_memory, pattern_steps, rule_steps}
use Rattle.core_typed.proofs.rule_visits.visit_iflets.Given as goal

-- what the rest may lead to, the whole may; and the rest can be visited
abbrev pub invariant-loop-iflet : goal.invariant-loop-iflet
invariant-loop-iflet g l =
    ((r : _) (t : _) →
    IfLetsRun no_memory (rule_steps g.V.RuleVisitor) (pattern_steps g.V.PatternVisitor.PatternVisitor) (expr_steps g.V.ExprVisitor.ExprVisitor) (g.E.UsedTerms.term_entries l.termenv)
    (map iflet_view (drop l.iflet-index l.iflets)) l.bound l.visitor r t →
    IfLetsRun no_memory (rule_steps g.V.RuleVisitor) (pattern_steps g.V.PatternVisitor.PatternVisitor) (expr_steps g.V.ExprVisitor.ExprVisitor) (g.E.UsedTerms.term_entries l.termenv)
    (map iflet_view l.iflets) l.fn.vars l.fn.visitor r t)
    × IsTrue (are_visitable_iflets (g.E.UsedTerms.term_entries l.termenv) (map iflet_view (drop l.iflet-index l.iflets)) (bound_vars l.bound))
