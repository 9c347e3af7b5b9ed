use Rattle.std.proofs.Common.{◌≡◌}
use Rattle.std.specs.BTreeSet.{btree_set_len}
use Rattle.core_rule_sets.specs.Closings.{KeepsDue}
use Rattle.core_rule_sets.proofs.demanded.Demanded.next_due.Given as goal

abbrev pub invariant-loop-site : goal.invariant-loop-site
invariant-loop-site l = record {
  due : KeepsDue l.self;
  asked : l.self.constraints ≡ l.fn.self.constraints;
  equated : l.self.equals ≡ l.fn.self.equals;
}

abbrev pub decreases-loop-site : goal.decreases-loop-site
decreases-loop-site l = btree_set_len l.self.open
