use Rattle.std.proofs.Common.{nat_le, rules, tests}
use Rattle.std.proofs.lemmas.List.Sorted.{IsPartitionedBy-leb, IsPartitionPoint-from_clause}
use Rattle.rust_items.proofs.FileLines.{parted_count}
use Rattle.rust_items.proofs.lines.lines_up_to.Goals as goal

pub returns : goal.returns
returns c =
    let at = c.partition_point.ensures in
    parted_count (λ b. nat_le b c.args.offset) c.args.begins.now c.partition_point.result at.bound
    (IsPartitionPoint-from_clause (λ b. nat_le b c.args.offset) c.args.begins.now c.partition_point.result at.partitioned
    (IsPartitionedBy-leb (λ b. b) c.args.begins.now c.args.offset c.requires) (λ a r f k. search (rules, tests)))
