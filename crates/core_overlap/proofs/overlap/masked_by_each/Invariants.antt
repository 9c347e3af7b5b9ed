use Rattle.std.proofs.Common.{◌≡◌, take}
use Rattle.std.specs.Prelude.{vec_len}
use Rattle.core_overlap.specs.Comparisons.{AreGrouped, masked_views}
use Rattle.core_overlap.proofs.overlap.masked_by_each.Given as goal

abbrev pub invariant-loop-mask : goal.invariant-loop-mask
invariant-loop-mask l = record {
  count : vec_len l.lists ≡ l.count;
  grouped : AreGrouped l.lists.items (masked_views (take l.mask-index l.masked));
}
