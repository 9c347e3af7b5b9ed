use Rattle.std.proofs.Common.{◌≤◌, length}
use Rattle.model.specs.sites.Sites.{extract_struct_site}
use Rattle.model.specs.sites.SetRules.{each_place}
use Rattle.core_rule_sets.specs.SiteTables.{AddsSites, IsTable, table_sites}
use Rattle.core_rule_sets.proofs.site_table.SiteTable.add_struct_fields.Given as goal

abbrev pub invariant-loop-place : goal.invariant-loop-place
invariant-loop-place l = record {
  table : IsTable l.self;
  longer : length (table_sites l.fn.self) ≤ length (table_sites l.self);
  added : AddsSites (table_sites l.fn.self) (table_sites l.self) (each_place (extract_struct_site l.source) 0 l.place) l.numbers.items;
}
