use Rattle.std.proofs.Common.{◌≡◌, ℕ, drop}
use Rattle.std.specs.List.{zip}
use Rattle.core_rule_sets.specs.Closings.{KeepsDue}
use Rattle.core_rule_sets.specs.SiteDemands.{are_equated, equated_each}
use Rattle.core_rule_sets.proofs.demanded.Demanded.equate_each.Given as goal

abbrev pub invariant-loop-i : goal.invariant-loop-i
invariant-loop-i l = record {
  asked : l.self.constraints ≡ l.fn.self.constraints;
  due : KeepsDue l.fn.self → KeepsDue l.self;
  equated : (a b : ℕ) → equated_each (are_equated l.self) (zip (drop l.i l.firsts) (drop l.i l.seconds)) a b ≡ equated_each (are_equated l.fn.self) (zip l.firsts l.seconds) a b;
}
