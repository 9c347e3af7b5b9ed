use Rattle.std.proofs.Common.{◌-◌}
use Rattle.model.specs.sites.Closure.{Closed, most_closing_steps}
use Rattle.core_rule_sets.specs.Closings.{AreDemandsOf, KeepsDue}
use Rattle.core_rule_sets.specs.SiteTables.{IsTable, table_sites}
use Rattle.core_rule_sets.proofs.ClosingClasses.{ClosedSoFar}
use Rattle.core_rule_sets.proofs.demanded.Demanded.close.Given as goal

abbrev pub invariant-loop : goal.invariant-loop
invariant-loop l = record {
  table : IsTable l.table;
  due : KeepsDue l.self;
  closed : (k : Closed) → AreDemandsOf (table_sites l.fn.table) l.fn.self k
      → ClosedSoFar (table_sites l.fn.table) (table_sites l.table) l.self k most_closing_steps (most_closing_steps - l.counter);
}
