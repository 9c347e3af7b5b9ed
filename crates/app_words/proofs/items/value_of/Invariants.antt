use Rattle.std.proofs.Common.{◌≡◌, drop}
use Rattle.app_words.specs.Items.{value_of}
use Rattle.app_words.proofs.items.value_of.Given as goal

abbrev pub invariant-loop-item : goal.invariant-loop-item
invariant-loop-item l = value_of l.fn.name (drop l.item-index l.items) ≡ value_of l.fn.name l.items
