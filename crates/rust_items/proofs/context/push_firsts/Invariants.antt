use Rattle.std.proofs.Common.{◌≡◌, ◌++◌, take}
use Rattle.std.specs.Prelude.{string_bytes}
use Rattle.rust_items.specs.ItemViews.{added_views, held_in}
use Rattle.rust_items.specs.WrittenItems.{firsts, function_lines}
use Rattle.rust_items.proofs.Firsts.{AreHeld}
use Rattle.rust_items.proofs.context.push_firsts.Given as goal

abbrev pub invariant-loop-function : goal.invariant-loop-function
invariant-loop-function l = record {
  lines : string_bytes l.out ≡ string_bytes l.fn.out ++ function_lines (firsts (added_views (take l.function-index l.functions)));
  held : AreHeld (added_views (take l.function-index l.functions)) (held_in l.held);
}
