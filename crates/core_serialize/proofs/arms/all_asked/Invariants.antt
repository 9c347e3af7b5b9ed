use Rattle.std.proofs.Common.{◌≡◌, take}
use Rattle.std.specs.List.{filter}
use Rattle.core_rule_sets.specs.SiteViews.{set_view}
use Rattle.core_serialize.specs.ArmOrder.{asks_some, asked_numbers, AreAsked}
use Rattle.core_serialize.proofs.arms.all_asked.Given as goal

abbrev pub invariant-loop-number : goal.invariant-loop-number
invariant-loop-number l = record {
  each : AreAsked (set_view l.set).rules l.source l.turns.items;
  numbers : asked_numbers l.turns.items ≡ filter (asks_some (set_view l.set).rules l.source) (take l.number-index l.here);
}
