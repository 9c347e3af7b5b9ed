use Rattle.std.proofs.Common.{◌≡◌, ◌++◌, drop, map}
use Rattle.cranelift_isle.specs.SyntaxViews.{position}
use Rattle.cranelift_isle.specs.RuleViews.{rule_views}
use Rattle.report_queries.specs.Lookups.{rule_numbers_at}
use Rattle.report_queries.proofs.positions.push_rules_at.Given as goal

abbrev pub invariant-loop-rule : goal.invariant-loop-rule
invariant-loop-rule l =
    map (λ r. r.0) l.found.items ++ rule_numbers_at (rule_views (drop l.rule-index l.rule-items)) (position l.pos)
    ≡ map (λ r. r.0) l.fn.found.items ++ rule_numbers_at (rule_views l.termenv.rules.items) (position l.pos)
