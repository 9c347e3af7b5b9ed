use Rattle.std.proofs.Common.{◌≡◌, ℕ, drop}
use Rattle.model_code.specs.Flat.{flat_arms}
use Rattle.core_serialize.specs.TreeViews.{arms_view, steps_view}
use Rattle.rust_code.specs.CodeViews.{arms_before, before}
use Rattle.rust_code.specs.Labels.{arms_in, code_in, is_deep, room_at, shaped}
use Rattle.rust_code.proofs.blocks.+code.Given as goal

abbrev pub invariant-add_steps-loop-step : goal.invariant-add_steps-loop-step
invariant-add_steps-loop-step l = record {
  number : l.number ≡ l.step-index;
  made : (n : ℕ) → l.room ≡ room_at n → before l.out.items (shaped l.leaves (code_in l.stage (steps_view (drop l.step-index l.steps))) n) ≡ before l.fn.out.items (shaped l.leaves (code_in l.stage (steps_view l.steps)) n);
}

abbrev pub invariant-arms_of-loop-arm : goal.invariant-arms_of-loop-arm
invariant-arms_of-loop-arm l =
    (n : ℕ) → l.room ≡ room_at n → arms_before l.out.items (flat_arms (arms_in l.stage (arms_view (drop l.arm-index l.arms))) is_deep n) ≡ flat_arms (arms_in l.stage (arms_view l.arms)) is_deep n
