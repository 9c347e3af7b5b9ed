use Rattle.std.proofs.Common.{◌∙◌, ap, subst}
use Rattle.model.specs.trees.Places.{bind_order}
use Rattle.core_serialize.specs.AroundViews.{around_view, AreEmitted}
use Rattle.core_serialize.specs.PlaceViews.{set_in}
use Rattle.core_serialize.proofs.ends.return_step.Goals as goal

pub returns : goal.returns
returns c =
    let set = set_in c.args.indexed.now in
    let ar = around_view c.args.around.now in
    record {
      binds = c.in_ok-bind_order.ensures.binds ∙ ap (bind_order set.sites ar) (c.deref.ensures.value ∙ c.in_ok-used.ensures);
      check = c.return_of-check.ensures;
      emitted = subst (λ us. AreEmitted set ar us c.bind.new.around.emitted) (c.deref-2.ensures.value ∙ c.in_ok-used.ensures) c.in_ok-bind_order.ensures.emitted;
      emits = c.in_ok-bind_order.ensures.emits;
      kept = c.in_ok-bind_order.ensures.kept;
    }
