use Rattle.std.proofs.Common.{◌≡◌, drop}
use Rattle.std.specs.List.{list_all}
use Rattle.cranelift_isle.specs.TypeViews.{type_views}
use Rattle.cranelift_isle.specs.SiteViews.{set_rule_views}
use Rattle.report_queries.specs.Premises.{rule_asks_own}
use Rattle.report_queries.proofs.premises.asks_own_constants.Given as goal

abbrev pub invariant-loop-rule : goal.invariant-loop-rule
invariant-loop-rule l =
    list_all (rule_asks_own (type_views l.tyenv.types.items)) (set_rule_views (drop l.rule-index l.rule-items))
    ≡ list_all (rule_asks_own (type_views l.tyenv.types.items)) (set_rule_views l.set.rules.items)
