use Rattle.std.proofs.Common.{◌≡◌, ◌++◌, drop, map}
use Rattle.cranelift_isle.specs.SyntaxViews.{position}
use Rattle.cranelift_isle.specs.RuleViews.{rule_views}
use Rattle.report_queries.specs.Lookups.{rule_numbers_at_each}
use Rattle.report_queries.proofs.positions.rules_at_each.Given as goal

abbrev pub invariant-loop-pos : goal.invariant-loop-pos
invariant-loop-pos l =
    map (λ r. r.0) l.named.items ++ rule_numbers_at_each (rule_views l.termenv.rules.items) (map position (drop l.pos-index l.places))
    ≡ rule_numbers_at_each (rule_views l.termenv.rules.items) (map position l.places)
