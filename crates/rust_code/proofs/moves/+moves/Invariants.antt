use Rattle.std.proofs.Common.{◌≡◌, ℕ, List, drop}
use Rattle.model_code.specs.Code.{no_code_arm, no_statement}
use Rattle.model_code.specs.Saving.{saved, saved_arms}
use Rattle.rust_code.specs.CodeViews.{arms_before, before}
use Rattle.rust_code.specs.Spots.{left_reads, HasSame, OfSpots}
use Rattle.rust_code.proofs.MovedBlocks.{arms_left, left}
use Rattle.rust_code.proofs.moves.+moves.Given as goal

abbrev pub invariant-block_with_moves-loop-statement : goal.invariant-block_with_moves-loop-statement
invariant-block_with_moves-loop-statement l = record {
  number : l.number ≡ l.statement-index;
  made : OfSpots l.around.held.now l.fn.movable.items (λ types movable.
      (here : List ℕ) × (HasSame l.inside.items here
      × (before l.out.items (left types (left_reads l.around.after.now) here (drop l.statement-index l.statements)) ≡ saved types movable (left_reads l.around.after.now) (before l.statements no_statement))));
}

abbrev pub invariant-arms_with_moves-loop-arm : goal.invariant-arms_with_moves-loop-arm
invariant-arms_with_moves-loop-arm l =
    OfSpots l.around.held.now l.inside (λ types movable.
    arms_before l.out.items (arms_left types (left_reads l.around.after.now) movable (drop l.arm-index l.arms)) ≡ saved_arms types movable (left_reads l.around.after.now) (arms_before l.arms no_code_arm))
