use Rattle.std.proofs.Common.{◌≡◌, drop}
use Rattle.std.specs.List.{list_any}
use Rattle.app_words.specs.Items.{file_of, is_same_path}
use Rattle.app_words.proofs.items.is_among.Given as goal

abbrev pub invariant-loop-item : goal.invariant-loop-item
invariant-loop-item l = list_any (λ item. is_same_path l.fn.path (file_of item)) (drop l.item-index l.items) ≡ list_any (λ item. is_same_path l.fn.path (file_of item)) l.items
