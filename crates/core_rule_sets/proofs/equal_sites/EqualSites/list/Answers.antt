use Rattle.std.proofs.Common.{◌≡◌, [], ◌∷◌, subst, rules}
use Rattle.core_rule_sets.specs.Listings.{class_lists}
use Rattle.core_rule_sets.specs.SetLists.{IsListedBefore}
use Rattle.core_rule_sets.proofs.SetsListed.{listing_starts, listing_ends}
use Rattle.core_rule_sets.proofs.equal_sites.EqualSites.list.Goals as goal

pub loop-site-init : goal.loop-site-init
loop-site-init c =
    let s = c.self.inside in
    let given = c.into_iter-site-iterator.ensures.into_iter_gives in
    rw (← c.self.view_is, c.in_ok-rest.ensures.same, c.new-listed.ensures.items, given.0)
    (listing_starts s.sets s.noted (rw c.in_ok-rest.ensures.same at c.in_ok-rest.ensures.partition) c.self.invariant given.4)

pub loop-site-preserved : goal.loop-site-preserved
loop-site-preserved c =
    let step : c.loop-site.site-iterator ≡ c.in-Some.site.now ∷ c.next.new.self = search rules in
    c.in_ok-list_set_of.ensures c.args.self.now c.next.new.self (subst (IsListedBefore c.args.self.now c.loop-site.rest (class_lists c.loop-site.listed.items)) step c.loop-site.invariant)

pub returns-clause-joined : goal.returns-clause-joined
returns-clause-joined c =
    let done : c.loop-site.site-iterator ≡ [] = search rules in
    listing_ends c.args.self.now c.loop-site.rest (class_lists c.loop-site.listed.items) (subst (IsListedBefore c.args.self.now c.loop-site.rest (class_lists c.loop-site.listed.items)) done c.loop-site.invariant)

pub returns-clause-partition : goal.returns-clause-partition
returns-clause-partition c = rw (← c.self.view_is) (rw c.in_ok-rest.ensures.same at c.in_ok-rest.ensures.partition)
