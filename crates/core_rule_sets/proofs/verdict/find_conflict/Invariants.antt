use Rattle.std.proofs.Common.{◌≡◌, drop}
use Rattle.core_rule_sets.specs.SiteViews.{constraint_views}
use Rattle.core_rule_sets.specs.Verdicts.{class_head}
use Rattle.core_rule_sets.proofs.FirstConflicts.{conflict_from}
use Rattle.core_rule_sets.proofs.verdict.find_conflict.Given as goal

abbrev pub invariant-loop-site : goal.invariant-loop-site
invariant-loop-site l =
    conflict_from (class_head l.classes) (constraint_views l.constraints) (constraint_views (drop l.site-index l.constraints))
    ≡ conflict_from (class_head l.classes) (constraint_views l.constraints) (constraint_views l.constraints)
