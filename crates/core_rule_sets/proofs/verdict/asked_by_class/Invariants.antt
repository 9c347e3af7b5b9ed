use Rattle.std.proofs.Common.{◌≡◌, ℕ, drop}
use Rattle.std.specs.Prelude.{None, option_map}
use Rattle.std.specs.BTreeMap.{get}
use Rattle.std.specs.Ordering.{nat_cmp}
use Rattle.core_rule_sets.specs.SiteViews.{constraint_views}
use Rattle.core_rule_sets.specs.Verdicts.{asked_view, class_head}
use Rattle.core_rule_sets.proofs.AskedClasses.{asked_from}
use Rattle.core_rule_sets.proofs.verdict.asked_by_class.Given as goal

abbrev pub invariant-loop-site : goal.invariant-loop-site
invariant-loop-site l =
    (k : ℕ) → asked_from (class_head l.classes) k (option_map asked_view (get nat_cmp l.by_class k)) (constraint_views (drop l.site-index l.constraints))
    ≡ asked_from (class_head l.classes) k None (constraint_views l.constraints)
