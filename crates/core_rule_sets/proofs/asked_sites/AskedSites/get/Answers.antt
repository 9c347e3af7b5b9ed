use Rattle.std.proofs.Common.{◌≡◌, ◌∙◌, ap, slice_get, Some, length, ◌<◌, arith}
use Rattle.core_containers.specs.Places.{is_in}
use Rattle.model.specs.trees.Places.{constraint_at}
use Rattle.core_rule_sets.specs.Listings.{sites_of}
use Rattle.core_rule_sets.specs.SiteViews.{constraint_view, constraint_views}
use Rattle.core_rule_sets.proofs.AskedOnce.{asked_at, none_asked, within}
use Rattle.core_rule_sets.proofs.asked_sites.AskedSites.get.Goals as goal

pub index-requires : goal.index-requires
index-requires c =
    let cs = c.self.inside.asked.items in
    let p = c.in-Some.place in
    let there : p < length cs = within cs p c.site.inside.0 (ap (λ l. slice_get l p) c.self.invariant.0 ∙ c.in-Some.ensures) in
    omega (arith, there, c.self.inside.asked.ok.0)

pub returns-in-Some : goal.returns-in-Some
returns-in-Some c =
    let cs = c.self.inside.asked.items in
    let n = c.site.inside.0 in
    let p = c.in-Some.place in
    let there : slice_get (sites_of cs) p ≡ Some n = ap (λ l. slice_get l p) c.self.invariant.0 ∙ c.in-Some.ensures in
    ap (λ e. Some (constraint_view e.1)) c.index.ensures
    ∙ asked_at cs p n c.index.result.now c.self.invariant.1 there
    ∙ ap (λ l. constraint_at (constraint_views l) n) c.self.view_is
    ∙ ap (constraint_at (constraint_views c.args.self.now)) c.site.view_is

pub returns-in-None : goal.returns-in-None
returns-in-None c =
    let cs = c.self.inside.asked.items in
    let n = c.site.inside.0 in
    none_asked cs n (ap (is_in n) c.self.invariant.0 ∙ c.in-None.ensures)
    ∙ ap (λ l. constraint_at (constraint_views l) n) c.self.view_is
    ∙ ap (constraint_at (constraint_views c.args.self.now)) c.site.view_is
