use Rattle.std.proofs.Common.{◌≡◌, drop}
use Rattle.core_syntax.specs.SyntaxViews.{pattern_views}
use Rattle.text_writer.specs.Spellable.{patterns_are_spellable}
use Rattle.text_writer.proofs.patterns.+spellable.Given as goal

abbrev pub invariant-patterns_are_spellable-loop-pattern : goal.invariant-patterns_are_spellable-loop-pattern
invariant-patterns_are_spellable-loop-pattern l =
    patterns_are_spellable (pattern_views (drop l.pattern-index l.patterns)) l.room ≡ patterns_are_spellable (pattern_views l.patterns) l.room
