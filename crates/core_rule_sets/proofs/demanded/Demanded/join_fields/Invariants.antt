use Rattle.std.proofs.Common.{◌≡◌, ℕ, ◌∷◌, map, drop}
use Rattle.model.specs.sites.Sites.{unfold_site}
use Rattle.model.specs.sites.Closure.{Closed}
use Rattle.core_rule_sets.specs.Closings.{AreDemandsOf, KeepsDue}
use Rattle.core_rule_sets.specs.SiteTables.{IsTable, table_sites}
use Rattle.core_rule_sets.specs.SiteViews.{constraint_view}
use Rattle.core_rule_sets.proofs.ClosingClasses.{JoinedSoFar}
use Rattle.core_rule_sets.proofs.demanded.Demanded.join_fields.Given as goal

abbrev pub invariant-loop-member : goal.invariant-loop-member
invariant-loop-member l = record {
  table : IsTable l.table;
  due : KeepsDue l.self;
  joined : (k : Closed) (least : ℕ) → l.members ≡ least ∷ l.rest → AreDemandsOf (table_sites l.fn.table) l.fn.self k
      → JoinedSoFar (table_sites l.fn.table) (table_sites l.table) l.self (constraint_view l.constraint) (unfold_site (table_sites l.fn.table) least) k l.fields.items
      (map (unfold_site (table_sites l.fn.table)) l.rest) (map (unfold_site (table_sites l.fn.table)) (drop l.member-index l.rest));
}
