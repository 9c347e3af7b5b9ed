use Rattle.std.proofs.Common.{◌≡◌, true, take}
use Rattle.std.specs.List.{list_all}
use Rattle.model.specs.trees.Places.{available}
use Rattle.core_serialize.specs.AroundViews.{AreAtHand}
use Rattle.core_serialize.specs.PlaceViews.{around_at, set_at}
use Rattle.core_serialize.proofs.open_tests.+comes_to_hand.Given as goal

abbrev pub decreases-comes_to_hand : goal.decreases-comes_to_hand
decreases-comes_to_hand l = l.site

abbrev pub invariant-loop-source : goal.invariant-loop-source
invariant-loop-source l = record {
  found : AreAtHand (set_at l.place).sites (around_at l.place) l.found;
  come : list_all (available (set_at l.place).sites (around_at l.place)) (take l.source-index l.source-items) ≡ true;
}
