use Rattle.std.proofs.Common.{◌+◌, ◌-◌, ◌∙◌, length, take, drop, rules, ap}
use Rattle.model_code.specs.MovedOnce.{beside}
use Rattle.model_code.specs.Saving.{saved_use}
use Rattle.rust_code.specs.CodeViews.{use_view, use_views}
use Rattle.rust_code.specs.Spots.{later_at}
use Rattle.rust_code.proofs.MovedUses.{slice_behind, uses_more}
use Rattle.rust_code.proofs.moves.uses_with_moves.Goals as goal

pub loop-value-preserved : goal.loop-value-preserved
loop-value-preserved c = record {
  number = ap (λ k. k + 1) c.loop-value.invariant.number;
  made = λ types movable modes same.
      let later = later_at c.args.statement.now c.args.spot.now in
      let uses = c.args.uses.now in
      let rest = take (length uses - (c.loop-value.number + 1)) (drop (c.loop-value.number + 1) uses) in
      uses_more types movable later c.loop-value.out.items c.push.new.self.items uses rest c.value-item.result c.use_with_moves-made.result c.loop-value.value-index _ (search rules) c.value-item.is
      (slice_behind uses c.loop-value.number c.loop-value.value-index c.loop-value.invariant.number) c.in_ok-push.ensures.items
      (c.use_with_moves-made.ensures types movable modes same ∙ ap (λ l. saved_use types movable (beside (use_views l) (use_views rest) later) (use_view c.value-item.result)) c.deref.ensures.value)
      (c.loop-value.invariant.made types movable modes same);
}
