use Rattle.std.proofs.Common.{◌≡◌, ◌≤◌, ◌++◌, false, ℕ, List, take}
use Rattle.model.specs.trees.Places.{is_in, each_after, listed_below}
use Rattle.core_serialize.specs.PlaceViews.{set_in}
use Rattle.core_serialize.proofs.binds.+list_below.Given as goal

abbrev pub decreases-list_below : goal.decreases-list_below
decreases-list_below l = l.site

abbrev pub invariant-loop-source : goal.invariant-loop-source
invariant-loop-source l = record {
  fresh : is_in l.site l.listed ≡ false;
  listed : (start done : List ℕ) → l.initial.listed ≡ start ++ done → (m : ℕ) → l.site ≤ m → l.listed ≡ start ++ each_after (listed_below m (set_in l.indexed).sites start) done (take l.source-index l.source-items);
}
