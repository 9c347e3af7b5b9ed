use Rattle.std.proofs.Common.{◌≡◌, take, map}
use Rattle.std.specs.Prelude.{string_bytes}
use Rattle.rust_items.specs.FilePlaces.{line_begins, number_lists}
use Rattle.rust_items.proofs.lines.Lines.new.Given as goal

abbrev pub invariant-loop-text : goal.invariant-loop-text
invariant-loop-text l = number_lists l.begins.items ≡ map line_begins (map string_bytes (take l.text-index l.files.texts.items))
