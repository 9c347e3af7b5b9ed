use Rattle.std.proofs.Common.{◌≡◌, ◌<◌, ◌++◌, ◌∷◌, [], length, inr, ap, ◌∙◌, arith}
use Rattle.std.proofs.lemmas.List.{length-map, map-append}
use Rattle.core_rule_sets.specs.SiteViews.{site_view, site_views}
use Rattle.core_rule_sets.specs.SiteTables.{table_sites}
use Rattle.core_rule_sets.specs.declared.site_table.SiteTable.{SiteTable}
use Rattle.core_rule_sets.proofs.TablesGrown.{table_grown}
use Rattle.core_rule_sets.proofs.site_table.SiteTable.push.Goals as goal

pub returns-clause-added : goal.returns-clause-added
returns-clause-added c may absent =
    let old = c.args.self.now in
    let new : SiteTable = record { bindings = c.push.new.self; numbers = c.insert.new.self } in
    let long = length-map old.bindings.items site_view in
    let own = old.bindings.ok.0 in
    let n : c.in-Ok.number ≡ length (table_sites old) = omega (arith, c.in-Ok.ensures, c.len.ensures) in
    let fits : c.in-Ok.number < 65536 = omega (arith, c.in-Ok.ensures) in
    let sites : table_sites new ≡ table_sites old ++ site_view c.args.binding ∷ [] =
    ap site_views c.in_ok-push.ensures.items ∙ map-append site_view old.bindings.items (c.args.binding ∷ []) in (
      inr (absent, n, sites),
      table_grown old new c.args.binding c.in_ok-copy.copy c.in-Ok.number may.table may.sources absent c.in_ok-copy.ensures n fits c.in_ok-push.ensures.items c.in_ok-insert.ensures.updates.0,
    )
