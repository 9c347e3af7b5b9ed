use Rattle.std.proofs.Common.{◌≡◌, ◌++◌, drop, map, string_bytes}
use Rattle.app_words.specs.Items.{files_of}
use Rattle.app_words.proofs.items.files_of.Given as goal

abbrev pub invariant-loop-item : goal.invariant-loop-item
invariant-loop-item l = map string_bytes l.files.items ++ files_of (drop l.item-index l.items) ≡ files_of l.items
