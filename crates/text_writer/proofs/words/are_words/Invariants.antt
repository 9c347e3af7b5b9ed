use Rattle.std.proofs.Common.{◌≡◌, map, drop}
use Rattle.core_syntax.specs.SyntaxViews.{name_view}
use Rattle.text_writer.specs.Spellable.{are_words}
use Rattle.text_writer.proofs.words.are_words.Given as goal

abbrev pub invariant-loop-name : goal.invariant-loop-name
invariant-loop-name l =
    are_words (map name_view (drop l.name-index l.names)) ≡ are_words (map name_view l.names)
