use Rattle.std.proofs.Common.{◌≡◌, ◌++◌, drop}
use Rattle.model.specs.visits.PatternRuns.{part_types}
use Rattle.core_typed.specs.PatternViews.{pattern_views, pattern_parts}
use Rattle.core_typed.specs.VisitAnswers.{type_numbers}
use Rattle.core_typed.proofs.pattern_visits.types_of.Given as goal

abbrev pub invariant-loop-pattern : goal.invariant-loop-pattern
invariant-loop-pattern l =
    type_numbers l.tys.items ++ part_types (pattern_parts (pattern_views (drop l.pattern-index l.patterns))) ≡ part_types (pattern_parts (pattern_views l.patterns))
