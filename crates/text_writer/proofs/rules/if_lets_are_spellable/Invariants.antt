use Rattle.std.proofs.Common.{◌≡◌, map, drop}
use Rattle.std.specs.List.{list_all}
use Rattle.core_syntax.specs.SyntaxViews.{iflet_view}
use Rattle.text_writer.specs.Spellable.{if_let_is_spellable}
use Rattle.text_writer.proofs.rules.if_lets_are_spellable.Given as goal

abbrev pub invariant-loop-if_let : goal.invariant-loop-if_let
invariant-loop-if_let l =
    list_all if_let_is_spellable (map iflet_view (drop l.if_let-index l.if_lets)) ≡ list_all if_let_is_spellable (map iflet_view l.if_lets)
