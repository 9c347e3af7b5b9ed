use Rattle.std.proofs.Common.{◌≡◌, drop}
use Rattle.std.specs.List.{find}
use Rattle.cranelift_isle.specs.SyntaxViews.{position}
use Rattle.cranelift_isle.specs.SiteViews.{set_rule_views}
use Rattle.report_queries.specs.Lookups.{is_behind}
use Rattle.report_queries.proofs.rules.rule_behind.Given as goal

abbrev pub invariant-loop-rule : goal.invariant-loop-rule
invariant-loop-rule l =
    find (is_behind (position l.pos) l.result_site) (set_rule_views (drop l.rule-index l.rule-items))
    ≡ find (is_behind (position l.pos) l.result_site) (set_rule_views l.set.rules.items)
