use Rattle.std.proofs.Common.{◌∷◌, []}
use Rattle.std.proofs.lemmas.Result.{IfErr-weaker}
use Rattle.model.specs.sites.Sites.{layer, unfold_site}
use Rattle.model.specs.visits.Demands.{making}
use Rattle.core_rule_sets.specs.SiteViews.{site_view}
use Rattle.core_rule_sets.specs.SiteTables.{table_sites, AddsSite, ForWantOfRoom, HasNoRoom, IsTable}
use Rattle.core_builder.specs.VisitedSites.{EndsBefore, MakesSite}
use Rattle.core_builder.proofs.BuilderSteps.{with_table, site_made, site_ends}
use Rattle.core_rule_sets.proofs.SitesAdded.{no_shorter_by, weaker_ok}
use Rattle.core_rule_sets.proofs.SitesGrown.{added_stands}
use Rattle.core_builder.proofs.ruleset_builder.RuleSetBuilder.make.Goals as goal

pub returns-clause-made : goal.returns-clause-made
returns-clause-made c before v h below =
    let b = c.args.self.now in
    let old = table_sites b.table in
    let t = c.add.new.self in
    let s = site_view c.args.binding in
    weaker_ok (λ n. AddsSite old (table_sites t) s n × IsTable t) (MakesSite before b (with_table b t) v (layer (unfold_site old) s)) c.add.result
    (λ n a. site_made before b t v s n h a.1 (no_shorter_by old (table_sites t) s n a.0)
    (λ terms once stand. added_stands old terms h.table.sources once stand s below (table_sites t) n a.0))
    (c.add.ensures.added (record { table = h.table; sources = below }))

pub returns-clause-full : goal.returns-clause-full
returns-clause-full c before v h below =
    let b = c.args.self.now in
    let old = table_sites b.table in
    let t = c.add.new.self in
    let s = site_view c.args.binding in
    IfErr-weaker c.add.result (λ e. HasNoRoom old (table_sites t) s e × ForWantOfRoom (IsTable t) e) (EndsBefore before (with_table b t) (making (layer (unfold_site old) s ∷ []) v))
    (λ e a. site_ends before b t v s e h below a.0 a.1) (c.add.ensures.full (record { table = h.table; sources = below }))
