use Rattle.std.proofs.Common.{◌≡◌, not, take}
use Rattle.std.specs.List.{filter}
use Rattle.core_rule_sets.specs.SiteViews.{set_view}
use Rattle.core_serialize.specs.TestViews.{test_view}
use Rattle.core_serialize.specs.Bars.{is_at_bar}
use Rattle.core_serialize.proofs.tests.parted_at.Given as goal

abbrev pub invariant-loop-number : goal.invariant-loop-number
invariant-loop-number l = record {
  reaching : l.reaching.items ≡ filter (is_at_bar (set_view l.set).rules (test_view l.test) l.bar) (take l.number-index l.here);
  others : l.others.items ≡ filter (λ i. not (is_at_bar (set_view l.set).rules (test_view l.test) l.bar i)) (take l.number-index l.here);
}
