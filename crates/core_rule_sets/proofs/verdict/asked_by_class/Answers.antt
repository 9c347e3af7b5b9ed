use Rattle.std.proofs.Common.{◌≡◌, [], drop, sym, ap, ◌∙◌, option_map, arith}
use Rattle.std.proofs.lemmas.List.{drop_all}
use Rattle.std.specs.BTreeMap.{get}
use Rattle.std.specs.Ordering.{nat_cmp}
use Rattle.core_rule_sets.specs.SiteViews.{constraint_views}
use Rattle.core_rule_sets.specs.Verdicts.{asked_view, class_head}
use Rattle.core_rule_sets.proofs.AskedClasses.{asked_from, asked_whole}
use Rattle.core_rule_sets.proofs.verdict.asked_by_class.Goals as goal

pub returns : goal.returns
returns c k =
    let done : drop c.loop-site.site-index c.args.constraints.now ≡ [] = drop_all c.loop-site.site-index c.args.constraints.now (omega arith) in
    sym (ap (λ l. asked_from (class_head c.args.classes.now) k (option_map asked_view (get nat_cmp c.loop-site.by_class k)) (constraint_views l)) done)
    ∙ c.loop-site.invariant k
    ∙ asked_whole (class_head c.args.classes.now) k (constraint_views c.args.constraints.now)
