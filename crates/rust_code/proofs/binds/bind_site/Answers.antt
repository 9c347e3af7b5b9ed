use Rattle.std.proofs.Common.{◌≡◌, ◌≤◌, ◌∙◌, None, length, option_map, slice_get, subst, sym, ap}
use Rattle.std.proofs.lemmas.Option.{slice_get-map, slice_get_past}
use Rattle.model_code.specs.TreeCode.{bind_code}
use Rattle.core_rule_sets.specs.SiteViews.{site_view, site_views}
use Rattle.rust_code.specs.HeldViews.{passes_in}
use Rattle.rust_code.proofs.CodeBridges.{no_way_seen}
use Rattle.rust_code.proofs.binds.bind_site.Goals as goal

pub returns-in-None : goal.returns-in-None
returns-in-None c =
    let bs = c.args.stage.now.sites.now in
    let past : length bs ≤ c.args.site = subst (λ n. length bs ≤ n) c.index.ensures.number c.in-None.ensures.lookup.3 in
    let none : slice_get (site_views bs) c.args.site ≡ None = slice_get-map site_view bs c.args.site ∙ ap (option_map site_view) (slice_get_past bs c.args.site past) in
    no_way_seen ∙ ap (bind_code (site_views bs) (passes_in c.args.stage.now) c.args.site) (sym none)
