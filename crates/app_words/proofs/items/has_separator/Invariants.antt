use Rattle.std.proofs.Common.{◌≡◌, drop}
use Rattle.std.specs.List.{list_any}
use Rattle.app_words.specs.Items.{is_separator}
use Rattle.app_words.proofs.items.has_separator.Given as goal

abbrev pub invariant-loop-item : goal.invariant-loop-item
invariant-loop-item l = list_any is_separator (drop l.item-index l.items) ≡ list_any is_separator l.items
