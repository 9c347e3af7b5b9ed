use Rattle.std.proofs.Common.{get_or, refl, sym, subst, slice_get}
use Rattle.model.specs.trees.Places.{return_uses}
use Rattle.model.specs.trees.Trees.{join}
use Rattle.core_serialize.specs.AroundViews.{around_view}
use Rattle.core_serialize.specs.Growing.{AreEnds}
use Rattle.core_serialize.specs.PlaceViews.{set_in}
use Rattle.core_serialize.specs.TreeViews.{steps_view}
use Rattle.core_serialize.proofs.EndSteps.{return_more, returns_whole}
use Rattle.core_serialize.proofs.ListChanges.{emits_alike, emits_itself, emits_more}
use Rattle.core_serialize.proofs.ends.returns_of.Goals as goal

pub loop-number-init : goal.loop-number-init
loop-number-init c =
    let set = set_in c.args.indexed.now in
    let ar = around_view c.args.around.now in
    record {
      far = λ t a. subst (λ l. AreEnds set ar c.args.here.now (join (steps_view l) t)) (sym c.in_ok-steps.ensures.items) a;
      emits = emits_itself c.args.around.now;
      kept = c.requires.kept;
    }

pub loop-number-preserved : goal.loop-number-preserved
loop-number-preserved c =
    let set = set_in c.args.indexed.now in
    let order = c.args.here.now in
    let k = c.loop-number.number-index in
    let n = get_or order k 0 in
    let now = c.loop-number.around in
    let next = c.return_step.new.around in
    let step = c.in_ok-step.ensures in
    record {
      far = return_more set (around_view c.args.around.now) order c.requires.order (around_view now) (around_view next) k n c.loop-number.steps.items c.push.new.self.items c.in_ok-step.step
          c.loop-number-test.true refl c.in_ok-push.ensures.items step.binds step.check (emits_alike set now next (return_uses (slice_get set.rules n)) step.emits step.emitted) c.loop-number.invariant.far;
      emits = emits_more c.args.around.now now next c.loop-number.invariant.emits step.emits;
      kept = step.kept;
    }

pub returns : goal.returns
returns c =
    record {
      ends = returns_whole (set_in c.args.indexed.now) (around_view c.args.around.now) c.args.here.now (around_view c.loop-number.around) c.loop-number.number-index c.loop-number.steps.items
          c.loop-number-test.false c.loop-number.invariant.far;
      emits = c.loop-number.invariant.emits;
    }
