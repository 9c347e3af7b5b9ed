-- What is read so far, and what the other chunks give, is what all give.
use Rattle.std.proofs.Common.{◌≡◌, drop}
use Rattle.text_reader.specs.Recovering.{beside, of_parts}
use Rattle.text_reader.specs.RecoveryViews.{part_views, recovery_view}
use Rattle.text_reader.proofs.recovery.of_chunks.Given as goal

abbrev pub invariant-loop-chunk : goal.invariant-loop-chunk
invariant-loop-chunk l = beside (recovery_view l.found) (of_parts l.file (part_views (drop l.chunk-index l.chunks))) ≡ of_parts l.file (part_views l.chunks)
