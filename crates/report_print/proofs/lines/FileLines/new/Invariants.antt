use Rattle.std.proofs.Common.{◌≡◌, take, map}
use Rattle.std.specs.Prelude.{string_bytes}
use Rattle.report_print.proofs.lines.FileLines.new.Given as goal

abbrev pub invariant-loop-text : goal.invariant-loop-text
invariant-loop-text l = map (λ table. table.text.now) l.tables.items ≡ map string_bytes (take l.text-index l.files.texts.items)
