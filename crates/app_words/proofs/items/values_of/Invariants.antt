use Rattle.std.proofs.Common.{◌≡◌, ◌++◌, drop, map}
use Rattle.app_words.specs.Items.{values_of}
use Rattle.app_words.proofs.items.values_of.Given as goal

abbrev pub invariant-loop-item : goal.invariant-loop-item
invariant-loop-item l = map (λ value. value.now) l.values.items ++ values_of l.fn.name (drop l.item-index l.items) ≡ values_of l.fn.name l.items
