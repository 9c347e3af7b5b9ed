use Rattle.std.proofs.Common.{◌≡◌, true, sym, subst, take}
use Rattle.core_rule_sets.specs.Listings.{ascends}
use Rattle.core_rule_sets.specs.SiteViews.{set_rule_view}
use Rattle.core_serialize.specs.NeededTests.{SearchesMore, IsEqualOf, IsPairOf, OfSome}
use Rattle.core_serialize.specs.PlaceViews.{around_at, here_at, set_at}
use Rattle.core_serialize.proofs.BestSearches.{class_ascends, equalities_below, searches_as, searches_more, searches_none, equalities_of}
use Rattle.core_serialize.proofs.open_tests.try_equalities.Goals as goal
use Rattle.std.proofs.lemmas.List.{take_all}

pub loop-class-init : goal.loop-class-init
loop-class-init c = searches_none (set_at c.args.place.now) (around_at c.args.place.now) (here_at c.args.place.now) (λ d. IsPairOf d.items) c.args.search.now c.requires

pub try_pairs-requires : goal.try_pairs-requires
try_pairs-requires c = record {
  search = c.loop-class.invariant.now;
  ascending = subst (λ l. ascends l ≡ true) (sym c.deref.ensures.value) (class_ascends c.classes-class-items.result.now c.loop-class.class-index c.class-item.result c.classes-class-items.ensures.listed c.loop-class-test.true c.class-item.is);
}

pub loop-class-preserved : goal.loop-class-preserved
loop-class-preserved c =
    let set = set_at c.args.place.now in
    let ar = around_at c.args.place.now in
    let here = here_at c.args.place.now in
    let x = c.class-item.result in
    searches_more set ar here (λ d. IsPairOf d.items) c.classes-class-items.result.now c.loop-class.class-index x x c.args.search.now c.loop-class.search c.try_pairs.new.search
    c.loop-class-test.true c.class-item.is c.loop-class.invariant (subst (λ l. SearchesMore set ar here (IsPairOf l) c.loop-class.search c.try_pairs.new.search) c.deref.ensures.value c.in_ok-try_pairs.ensures)

pub returns : goal.returns
returns c =
    let set = set_at c.args.place.now in
    let ar = around_at c.args.place.now in
    let here = here_at c.args.place.now in
    let items = c.classes-class-items.result.now in
    let k = c.loop-class.class-index in
    let r = set_rule_view c.args.rule.now in
    searches_as set ar here (OfSome (λ d. IsPairOf d.items) (take k items)) (IsEqualOf r) c.args.search.now c.loop-class.search
    (λ u n. subst (λ l. OfSome (λ d. IsPairOf d.items) l u) (sym (take_all k items c.loop-class-test.false)) (equalities_of items r c.classes-class-items.ensures.joined u n)) c.loop-class.invariant

pub returns-then-all_stay_below : goal.returns-then-all_stay_below
returns-then-all_stay_below c =
    equalities_below (set_at c.args.place.now) (around_at c.args.place.now) (here_at c.args.place.now) (set_rule_view c.args.rule.now) c.from.result c.args.search.now c.from.ensures
    (c.all_stay_below.ensures c.if-all_stay_below.true) c.requires
