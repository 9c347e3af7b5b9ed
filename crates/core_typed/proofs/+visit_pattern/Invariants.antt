use Rattle.std.proofs.Common.{IsTrue, drop}
use Rattle.model.specs.visits.PatternRuns.{PartsRun, EachRun}
use Rattle.core_typed.specs.PatternViews.{pattern_view, pattern_views, pattern_parts}
use Rattle.model.specs.lists.Visitable.{are_visitable_parts}
use Rattle.model.specs.visits.Runs.{bound_vars}
use Rattle.core_typed.specs.VisitorSteps.{no_memory, pattern_steps}
use Rattle.core_typed.proofs.VisitSizes.{pattern_size, patterns_size}
use Rattle.core_typed.proofs.+visit_pattern.Given as goal

abbrev pub decreases-patterns::Pattern::visit : goal.decreases-patterns::Pattern::visit
decreases-patterns::Pattern::visit g l = pattern_size (pattern_view l.self.now)

abbrev pub decreases-pattern_visits::visit_parts : goal.decreases-pattern_visits::visit_parts
decreases-pattern_visits::visit_parts g l = patterns_size (pattern_parts (pattern_views l.parts.now))

abbrev pub decreases-pattern_visits::visit_each : goal.decreases-pattern_visits::visit_each
decreases-pattern_visits::visit_each g l = patterns_size (pattern_parts (pattern_views l.parts.now))

-- what the rest may lead to, the whole may; and the rest can be visited
abbrev pub invariant-pattern_visits::visit_parts-loop-i : goal.invariant-pattern_visits::visit_parts-loop-i
invariant-pattern_visits::visit_parts-loop-i g l =
    ((r : _) (t : _) → PartsRun no_memory (pattern_steps g.V.PatternVisitor) (g.E.UsedTerms.term_entries l.termenv) (pattern_parts (pattern_views (drop l.i l.parts))) (drop l.i l.ids) (l.visitor, l.vars) r t →
    PartsRun no_memory (pattern_steps g.V.PatternVisitor) (g.E.UsedTerms.term_entries l.termenv) (pattern_parts (pattern_views l.parts)) l.ids (l.fn.visitor, l.fn.vars) r t)
    × IsTrue (are_visitable_parts (g.E.UsedTerms.term_entries l.termenv) (pattern_parts (pattern_views (drop l.i l.parts))) (bound_vars l.vars))

abbrev pub invariant-pattern_visits::visit_each-loop-part : goal.invariant-pattern_visits::visit_each-loop-part
invariant-pattern_visits::visit_each-loop-part g l =
    ((r : _) (t : _) → EachRun no_memory (pattern_steps g.V.PatternVisitor) (g.E.UsedTerms.term_entries l.termenv) (pattern_parts (pattern_views (drop l.part-index l.parts))) l.input (l.visitor, l.vars) r t →
    EachRun no_memory (pattern_steps g.V.PatternVisitor) (g.E.UsedTerms.term_entries l.termenv) (pattern_parts (pattern_views l.parts)) l.input (l.fn.visitor, l.fn.vars) r t)
    × IsTrue (are_visitable_parts (g.E.UsedTerms.term_entries l.termenv) (pattern_parts (pattern_views (drop l.part-index l.parts))) (bound_vars l.vars))
