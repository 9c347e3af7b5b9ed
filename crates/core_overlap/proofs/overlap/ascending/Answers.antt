use Rattle.std.proofs.lemmas.List.Filters.{dedup_is}
use Rattle.core_overlap.proofs.SortedErrors.{sorted_places}
use Rattle.core_overlap.proofs.overlap.ascending.Goals as goal

pub returns : goal.returns
returns c =
    sorted_places c.args.places.items c.sort.new.self.items c.dedup.new.self.items c.in_ok-sort.ensures.permutation c.in_ok-sort.ensures.sorted
    (dedup_is _ _ _ c.dedup.ensures.filtered)
