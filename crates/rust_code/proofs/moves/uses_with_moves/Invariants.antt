use Rattle.std.proofs.Common.{[], ◌≡◌, drop}
use Rattle.model_code.specs.Saving.{all_saved}
use Rattle.rust_code.specs.CodeViews.{use_views}
use Rattle.rust_code.specs.Spots.{later_at, OfSpots}
use Rattle.rust_code.proofs.MovedUses.{uses_left}
use Rattle.rust_code.proofs.moves.uses_with_moves.Given as goal

abbrev pub invariant-loop-value : goal.invariant-loop-value
invariant-loop-value l = record {
  number : l.number ≡ l.value-index;
  made : OfSpots l.spot.held.now l.spot.inside.now (λ types movable.
      uses_left types movable (later_at l.statement l.spot) l.out.items (drop l.value-index l.uses) ≡ all_saved types movable (later_at l.statement l.spot) [] (use_views l.uses));
}
