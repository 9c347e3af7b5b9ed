use Rattle.std.proofs.Common.{◌≡◌, ◌++◌, map, drop, string_bytes}
use Rattle.core_syntax.specs.SyntaxViews.{iflet_view}
use Rattle.text_reader.specs.FormTrees.{no_form}
use Rattle.text_writer.specs.Forms.{if_lets_before}
use Rattle.text_writer.specs.Texts.{spaced}
use Rattle.text_writer.proofs.rules.push_if_lets.Given as goal

abbrev pub invariant-loop-if_let : goal.invariant-loop-if_let
invariant-loop-if_let l =
    string_bytes l.out ++ spaced (if_lets_before (map iflet_view (drop l.if_let-index l.if_lets)) no_form) ≡ string_bytes l.fn.out ++ spaced (if_lets_before (map iflet_view l.if_lets) no_form)
