use Rattle.std.proofs.Common.{◌≡◌, true, ap, subst, sym}
use Rattle.core_rule_sets.specs.Listings.{ascends, sites_of}
use Rattle.core_rule_sets.specs.SiteViews.{constraint_views, set_rule_view}
use Rattle.core_serialize.specs.NeededTests.{SearchesMore, IsMatchAsked, OfSome}
use Rattle.core_serialize.specs.PlaceViews.{around_at, here_at, set_at}
use Rattle.core_serialize.proofs.BestSearches.{ascends_drop, matches_behind}
use Rattle.core_serialize.proofs.MatchCounts.{first_matched}
use Rattle.core_serialize.proofs.open_tests.try_matches.Goals as goal

pub try_matches_of-requires : goal.try_matches_of-requires
try_matches_of-requires c = record {
  search = c.requires.search;
  ascending = subst (λ l. ascends (sites_of l) ≡ true) (sym c.behind.ensures) (ascends_drop c.count_of-count.result c.constraints.result.now c.constraints.ensures.ascending);
}

pub returns : goal.returns
returns c =
    let set = set_at c.args.place.now in
    let ar = around_at c.args.place.now in
    let here = here_at c.args.place.now in
    let cs = c.constraints.result.now in
    let n = c.count_of-count.result in
    let around = c.args.place.now.around.now in
    let seen = ap constraint_views (sym c.constraints.ensures.value) in
    matches_behind set ar here cs (set_rule_view c.args.rule.now) n c.args.search.now c.try_matches_of.new.search seen
    (first_matched set.rules around.matched.counts.items around.sources c.args.number n (set_rule_view c.args.rule.now) cs c.requires.numbered seen c.count_of-count.ensures c.args.place.now.are_matched)
    (subst (λ l. SearchesMore set ar here (OfSome IsMatchAsked l) c.args.search.now c.try_matches_of.new.search) c.behind.ensures c.in_ok-try_matches_of.ensures)
