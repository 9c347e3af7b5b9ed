use Rattle.std.proofs.Common.{rules}
use Rattle.std.proofs.lemmas.Fn.{always_returns_same}
use Rattle.laws_trees.proofs.Covers.{prio_at}
use Rattle.core_rule_sets.specs.SiteViews.{set_view}
use Rattle.core_serialize.proofs.EndSteps.{sorted_descend}
use Rattle.core_serialize.proofs.serialize.in_order.Goals as goal

pub returns-clause-order : goal.returns-clause-order
returns-clause-order c =
    let set_rules = (set_view c.args.set.now).rules in
    sorted_descend set_rules c.args.here.items c.sort_by_key.new.self.items c.requires
    (c.in_ok-sort_by_key.ensures.sorted (λ i. record { 0 = prio_at set_rules i }) (always_returns_same _ _ _ (λ a r q k. search rules)))
    (c.in_ok-sort_by_key.ensures.stable (λ i. record { 0 = prio_at set_rules i }) (always_returns_same _ _ _ (λ a r q k. search rules)))
