use Rattle.std.proofs.Common.{◌≡◌, ◌++◌, map, take}
use Rattle.std.specs.Prelude.{string_bytes}
use Rattle.std.specs.List.{flat_map}
use Rattle.rust_items.specs.SourceViews.{beginning_view}
use Rattle.rust_items.specs.WrittenItems.{file_line}
use Rattle.rust_items.proofs.lines.Lines.push_files.Given as goal

abbrev pub invariant-loop-name : goal.invariant-loop-name
invariant-loop-name l =
    string_bytes l.out ≡ string_bytes l.fn.out ++ flat_map (file_line (map beginning_view l.self.prefixes.now)) (map string_bytes (take l.name-index l.self.files.now.names.items))
