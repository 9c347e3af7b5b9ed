use Rattle.std.proofs.Common.{◌≡◌, ◌++◌, map, drop, string_bytes}
use Rattle.core_syntax.specs.SyntaxViews.{name_view}
use Rattle.text_reader.specs.FormTrees.{no_form}
use Rattle.text_writer.specs.Forms.{names_before}
use Rattle.text_writer.specs.Texts.{spaced}
use Rattle.text_writer.proofs.pieces.push_words.Given as goal

abbrev pub invariant-loop-name : goal.invariant-loop-name
invariant-loop-name l =
    string_bytes l.out ++ spaced (names_before (map name_view (drop l.name-index l.names)) no_form) ≡ string_bytes l.fn.out ++ spaced (names_before (map name_view l.names) no_form)
