use Rattle.std.proofs.Common.{◌≡◌}
use Rattle.rust_code.specs.CodeViews.{place_view}
use Rattle.rust_code.proofs.Reading.{arms_left, left}
use Rattle.rust_code.proofs.reads.+reads.Given as goal

abbrev pub invariant-is_read-loop-statement : goal.invariant-is_read-loop-statement
invariant-is_read-loop-statement l = left (place_view l.place) l.statements l.statement-index ≡ left (place_view l.place) l.statements 0

abbrev pub invariant-is_read_in-loop-arm : goal.invariant-is_read_in-loop-arm
invariant-is_read_in-loop-arm l = arms_left (place_view l.place) l.arms l.arm-index ≡ arms_left (place_view l.place) l.arms 0
