use Rattle.std.proofs.Common.{inl, refl}
use Rattle.std.proofs.lemmas.Option.{none-some}
use Rattle.core_rule_sets.specs.SiteViews.{site_view}
use Rattle.core_rule_sets.specs.SiteTables.{table_sites, IsAbsent}
use Rattle.core_rule_sets.proofs.site_table.SiteTable.add.Goals as goal

pub returns-in-Some-clause-added : goal.returns-in-Some-clause-added
returns-in-Some-clause-added c may = (inl ((c.in-Some.ensures may.table c.in-Some.number).0 refl, refl), may.table)

pub returns-in-None-clause-added : goal.returns-in-None-clause-added
returns-in-None-clause-added c may =
    let absent : IsAbsent (table_sites c.args.self.now) (site_view c.args.binding) = λ s e. none-some s ((c.in-None.ensures may.table s).1 e) in
    c.push.ensures.added may absent

pub returns-in-None-clause-full : goal.returns-in-None-clause-full
returns-in-None-clause-full c may =
    let absent : IsAbsent (table_sites c.args.self.now) (site_view c.args.binding) = λ s e. none-some s ((c.in-None.ensures may.table s).1 e) in
    c.push.ensures.full may absent
