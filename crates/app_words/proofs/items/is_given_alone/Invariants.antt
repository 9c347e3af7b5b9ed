use Rattle.std.proofs.Common.{◌≡◌, drop}
use Rattle.std.specs.List.{list_any}
use Rattle.app_words.specs.Items.{is_alone}
use Rattle.app_words.proofs.items.is_given_alone.Given as goal

abbrev pub invariant-loop-item : goal.invariant-loop-item
invariant-loop-item l = list_any (is_alone l.fn.name) (drop l.item-index l.items) ≡ list_any (is_alone l.fn.name) l.items
