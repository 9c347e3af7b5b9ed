use Rattle.std.proofs.Common.{◌⊎◌, sym}
use Rattle.core_rule_sets.specs.SiteViews.{set_rule_view}
use Rattle.core_serialize.specs.NeededTests.{IsEqualOf, IsMatchOf, IsWanted}
use Rattle.core_serialize.specs.PlaceViews.{around_at, here_at, set_at}
use Rattle.core_serialize.proofs.BestSearches.{searches_as, searches_both, wanted_of}
use Rattle.core_serialize.proofs.Tables.{rule_at}
use Rattle.core_serialize.proofs.open_tests.try_wanted.Goals as goal

pub try_matches-requires : goal.try_matches-requires
try_matches-requires c =
    let rule = c.in-Some.rule.now in
    let found = c.in-Some.ensures.lookup in
    record { search = c.requires; numbered = rule_at c.args.place.now.indexed.set.now.rules.items c.deref.result.now c.args.number rule (sym c.deref.ensures.value) found.3.0 found.1 }

pub returns : goal.returns
returns c =
    let set = set_at c.args.place.now in
    let ar = around_at c.args.place.now in
    let i = c.args.number in
    let rule = c.in-Some.rule.now in
    let r = set_rule_view rule in
    let found = c.in-Some.ensures.lookup in
    let at = rule_at c.args.place.now.indexed.set.now.rules.items c.deref.result.now i rule (sym c.deref.ensures.value) found.3.0 found.1 in
    let here = here_at c.args.place.now in
    let old = c.args.search.now in
    let mid = c.try_matches.new.search in
    let new = c.try_equalities.new.search in
    searches_as set ar here (λ u. IsMatchOf r u ⊎ IsEqualOf r u) (IsWanted set.rules i) old new (wanted_of set ar here i r at)
    (searches_both set ar here (IsMatchOf r) (IsEqualOf r) old mid new c.in_ok-try_matches.ensures c.in_ok-try_equalities.ensures)
