use Rattle.core_serialize.specs.AroundViews.{around_view}
use Rattle.core_serialize.specs.Changes.{Emits, IsKept}
use Rattle.core_serialize.specs.PlaceViews.{set_in}
use Rattle.core_serialize.proofs.EndSteps.{EndsSoFar}
use Rattle.core_serialize.proofs.ends.returns_of.Given as goal

abbrev pub invariant-loop-number : goal.invariant-loop-number
invariant-loop-number l = record {
  far : EndsSoFar (set_in l.indexed) (around_view l.initial.around) l.here (around_view l.around) l.number-index l.steps.items;
  emits : Emits l.initial.around l.around;
  kept : IsKept (set_in l.indexed) l.around;
}
