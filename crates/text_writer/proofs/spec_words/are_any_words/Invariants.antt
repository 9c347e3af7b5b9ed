use Rattle.std.proofs.Common.{◌≡◌, map, drop}
use Rattle.std.specs.List.{list_all}
use Rattle.core_syntax.specs.SyntaxViews.{name_view}
use Rattle.text_writer.specs.Spellable.{is_any_word}
use Rattle.text_writer.proofs.spec_words.are_any_words.Given as goal

abbrev pub invariant-loop-name : goal.invariant-loop-name
invariant-loop-name l = list_all is_any_word (map name_view (drop l.name-index l.names)) ≡ list_all is_any_word (map name_view l.names)
