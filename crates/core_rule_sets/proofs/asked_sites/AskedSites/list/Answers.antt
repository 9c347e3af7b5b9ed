use Rattle.std.proofs.Common.{◌∙◌, ap, sym, subst, rules}
use Rattle.std.specs.Prelude.{nat_eq}
use Rattle.std.specs.List.{IsDistinct}
use Rattle.std.proofs.lemmas.List.Sorted.{answers_always}
use Rattle.model.specs.trees.Places.{constraint_at}
use Rattle.core_rule_sets.specs.Listings.{sites_of}
use Rattle.core_rule_sets.specs.SiteViews.{constraint_views}
use Rattle.core_rule_sets.proofs.AskedOnce.{listed_ascend, same_asked, still_once}
use Rattle.core_rule_sets.proofs.asked_sites.AskedSites.list.Goals as goal

pub returns-clause-ascending : goal.returns-clause-ascending
returns-clause-ascending c =
    let xs = c.in_ok-listed.listed.items in
    let ys = c.sort_unstable_by_key.new.self.items in
    let once : IsDistinct nat_eq (sites_of xs) = subst (λ l. IsDistinct nat_eq (sites_of l)) (sym c.in_ok-listed.ensures.copied) c.copy.ensures.once in
    listed_ascend ys (still_once xs ys once c.sort_unstable_by_key.ensures.permutation)
    (c.sort_unstable_by_key.ensures.sorted (λ asked. asked.0) (answers_always _ _ _ (λ f a r h called. search rules)))

pub returns-clause-asked : goal.returns-clause-asked
returns-clause-asked c s =
    let xs = c.in_ok-listed.listed.items in
    let ys = c.sort_unstable_by_key.new.self.items in
    let once : IsDistinct nat_eq (sites_of xs) = subst (λ l. IsDistinct nat_eq (sites_of l)) (sym c.in_ok-listed.ensures.copied) c.copy.ensures.once in
    same_asked xs ys once c.sort_unstable_by_key.ensures.permutation s ∙ ap (λ l. constraint_at (constraint_views l) s) c.in_ok-listed.ensures.copied
