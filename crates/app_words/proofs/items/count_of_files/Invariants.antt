use Rattle.std.proofs.Common.{◌≡◌, ◌+◌, ◌≤◌, drop, length}
use Rattle.app_words.specs.Items.{files_of}
use Rattle.app_words.proofs.items.count_of_files.Given as goal

abbrev pub invariant-loop-item : goal.invariant-loop-item
invariant-loop-item l = (l.count + length (files_of (drop l.item-index l.items)) ≡ length (files_of l.items)) × (l.count ≤ l.item-index)
