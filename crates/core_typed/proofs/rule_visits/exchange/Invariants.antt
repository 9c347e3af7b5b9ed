use Rattle.std.proofs.Common.{◌≡◌, ◌++◌, drop}
use Rattle.model.specs.visits.RuleRuns.{ExchangeRun}
use Rattle.model.specs.visits.Runs.{bound_vars}
use Rattle.core_typed.specs.BoundEntries.{by_number}
use Rattle.core_typed.specs.VisitorSteps.{no_memory, rule_steps}
use Rattle.core_typed.proofs.ExprRunSteps.{after_these}
use Rattle.core_typed.proofs.rule_visits.exchange.Given as goal

-- what the rest may lead to, the whole may, with what was answered so far before it
abbrev pub invariant-loop-entry : goal.invariant-loop-entry
invariant-loop-entry g l =
    ((r : _) (t : _) → ExchangeRun no_memory (rule_steps g.V.RuleVisitor) (by_number (drop l.entry-index l.entry-items)) l.visitor r t →
    ExchangeRun no_memory (rule_steps g.V.RuleVisitor) l.vars l.fn.visitor (after_these l.values r) t)
    × (bound_vars l.values ++ bound_vars (by_number (drop l.entry-index l.entry-items)) ≡ bound_vars l.vars)
