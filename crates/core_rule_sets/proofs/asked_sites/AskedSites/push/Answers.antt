use Rattle.std.proofs.Common.{◌≡◌, ◌∷◌, ◌++◌, [], false, sym, ap, ◌∙◌, subst}
use Rattle.std.specs.Prelude.{nat_eq}
use Rattle.std.specs.List.{IsDistinct}
use Rattle.std.proofs.lemmas.List.{map-append}
use Rattle.core_containers.specs.Places.{is_in}
use Rattle.model.specs.trees.Places.{constraint_at}
use Rattle.core_rule_sets.specs.Listings.{sites_of}
use Rattle.core_rule_sets.specs.SiteViews.{constraint_views}
use Rattle.core_rule_sets.proofs.AskedOnce.{not_there, once_more}
use Rattle.core_rule_sets.proofs.asked_sites.AskedSites.push.Goals as goal

pub push-requires : goal.push-requires
push-requires c =
    let xs = c.self.inside.asked.items in
    let n = c.site.inside.0 in
    ap (is_in n) (sym c.self.invariant.0)
    ∙ not_there xs n (ap (λ l. constraint_at (constraint_views l) n) c.self.view_is ∙ ap (constraint_at (constraint_views c.args.self.now)) c.site.view_is ∙ c.requires)

pub invariant_of-self-2 : goal.invariant_of-self-2
invariant_of-self-2 c =
    let xs = c.self.inside.asked.items in
    let n = c.site.inside.0 in
    let absent : is_in n (sites_of xs) ≡ false =
    not_there xs n (ap (λ l. constraint_at (constraint_views l) n) c.self.view_is ∙ ap (constraint_at (constraint_views c.args.self.now)) c.site.view_is ∙ c.requires) in
    let grown : sites_of c.push-2.new.self.items ≡ sites_of xs ++ n ∷ [] =
    ap sites_of (c.in_ok-push-2.ensures.items ∙ ap (λ l. l ++ (c.args.site, c.args.constraint) ∷ []) c.in_ok-reserve.ensures.items)
    ∙ map-append (λ a. a.0) xs ((c.args.site, c.args.constraint) ∷ [])
    ∙ ap (λ m. sites_of xs ++ m ∷ []) (sym c.site.view_is) in (
      grown ∙ ap (λ l. l ++ n ∷ []) c.self.invariant.0 ∙ sym c.in_ok-push.ensures.pushed,
      subst (IsDistinct nat_eq) (sym grown) (once_more n (sites_of xs) c.self.invariant.1 absent),
    )
