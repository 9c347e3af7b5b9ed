use Rattle.std.proofs.Common.{◌≡◌, drop}
use Rattle.std.specs.List.{list_any}
use Rattle.app_words.specs.Items.{is_option}
use Rattle.app_words.proofs.items.is_given.Given as goal

abbrev pub invariant-loop-item : goal.invariant-loop-item
invariant-loop-item l = list_any (is_option l.fn.name) (drop l.item-index l.items) ≡ list_any (is_option l.fn.name) l.items
