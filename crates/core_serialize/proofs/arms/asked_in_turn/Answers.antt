use Rattle.std.proofs.Common.{rules}
use Rattle.std.proofs.lemmas.Fn.{always_returns_same}
use Rattle.core_rule_sets.specs.SiteViews.{set_view}
use Rattle.core_serialize.specs.ArmOrder.{is_ahead}
use Rattle.core_serialize.proofs.ArmRuns.{in_turn, order}
use Rattle.core_serialize.proofs.arms.asked_in_turn.Goals as goal

pub returns : goal.returns
returns c =
    in_turn (set_view c.args.set.now).rules c.args.source c.args.here.now c.in_ok-turns.turns.items c.sort_by.new.self.items
    c.in_ok-turns.ensures.each c.in_ok-turns.ensures.numbers c.sort_by.ensures.permutation
    (c.in_ok-sort_by.ensures.sorted is_ahead order (always_returns_same _ _ _ (λ a r q k. search rules)))
    (c.in_ok-sort_by.ensures.stable is_ahead order (always_returns_same _ _ _ (λ a r q k. search rules)))
