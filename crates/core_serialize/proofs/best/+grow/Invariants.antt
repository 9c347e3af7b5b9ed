use Rattle.std.proofs.Common.{◌+◌, ◌*◌, length}
use Rattle.core_serialize.specs.AroundViews.{around_view}
use Rattle.core_serialize.specs.Changes.{Emits, IsBack, IsKept}
use Rattle.core_serialize.specs.PlaceViews.{set_in}
use Rattle.core_serialize.proofs.ArmSteps.{ArmsGrow}
use Rattle.core_serialize.proofs.PlaceSteps.{BlockGrows}
use Rattle.core_serialize.proofs.UntriedTests.{untried}
use Rattle.core_serialize.proofs.best.+grow.Given as goal

abbrev pub decreases-block_of : goal.decreases-block_of
decreases-block_of l = 4 * untried (length (set_in l.indexed.now).sites) (around_view l.around.now) + 3

abbrev pub decreases-check_of : goal.decreases-check_of
decreases-check_of l = 4 * untried (length (set_in l.indexed.now).sites) (around_view l.around.now) + 2

abbrev pub decreases-arms_of : goal.decreases-arms_of
decreases-arms_of l = 4 * untried (length (set_in l.indexed.now).sites) (around_view l.around.now) + 1

abbrev pub decreases-body_of : goal.decreases-body_of
decreases-body_of l = 4 * untried (length (set_in l.indexed.now).sites) (around_view l.around.now)

abbrev pub decreases-joined_body : goal.decreases-joined_body
decreases-joined_body l = 4 * untried (length (set_in l.indexed.now).sites) (around_view l.around.now)

abbrev pub invariant-block_of-loop-left : goal.invariant-block_of-loop-left
invariant-block_of-loop-left l = record {
  grows : BlockGrows (set_in l.indexed) (around_view l.fn.around) l.fn.here.items (around_view l.around) l.left.items l.steps.items;
  emits : Emits l.fn.around l.around;
  kept : IsKept (set_in l.indexed) l.around;
}

abbrev pub decreases-block_of-loop-left : goal.decreases-block_of-loop-left
decreases-block_of-loop-left l = length l.left.items

abbrev pub invariant-arms_of-loop-arms : goal.invariant-arms_of-loop-arms
invariant-arms_of-loop-arms l = record {
  grows : ArmsGrow (set_in l.indexed) (around_view l.fn.around) l.source l.here.items l.left l.arms.items;
  back : IsBack l.fn.around l.around;
}

abbrev pub decreases-arms_of-loop-arms : goal.decreases-arms_of-loop-arms
decreases-arms_of-loop-arms l = length l.left
