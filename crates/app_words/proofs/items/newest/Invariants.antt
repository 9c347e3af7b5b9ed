use Rattle.std.proofs.Common.{◌≡◌, length}
use Rattle.app_words.specs.Items.{items_behind}
use Rattle.app_words.proofs.items.newest.Given as goal

abbrev pub invariant-loop-left : goal.invariant-loop-left
invariant-loop-left l = items_behind l.fn.items l.left ≡ items_behind l.fn.items l.fn.items

abbrev pub decreases-loop-left : goal.decreases-loop-left
decreases-loop-left l = length l.left
