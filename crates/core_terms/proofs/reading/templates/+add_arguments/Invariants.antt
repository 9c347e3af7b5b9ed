use Rattle.std.proofs.Common.{◌≡◌, ◌++◌, map, drop}
use Rattle.model.specs.lists.TermTable.{arguments_in, arguments_in_all}
use Rattle.core_syntax.specs.SyntaxViews.{pattern_view, pattern_views, position}
use Rattle.core_terms.specs.TermPositions.{argument_places, argument_places_all}
use Rattle.core_terms.proofs.reading.templates.+add_arguments.Given as goal

abbrev pub invariant-loop-arg : goal.invariant-loop-arg
invariant-loop-arg l =
    (map (λ a. a.1) l.out.items ++ arguments_in_all (pattern_views (drop l.arg-index l.arg-items))
    ≡ map (λ a. a.1) l.fn.out.items ++ arguments_in (pattern_view l.pattern))
    × (map (λ a. position a.0) l.out.items ++ argument_places_all (pattern_views (drop l.arg-index l.arg-items))
    ≡ map (λ a. position a.0) l.fn.out.items ++ argument_places (pattern_view l.pattern))

abbrev pub invariant-loop-subpat : goal.invariant-loop-subpat
invariant-loop-subpat l =
    (map (λ a. a.1) l.out.items ++ arguments_in_all (pattern_views (drop l.subpat-index l.subpat-items))
    ≡ map (λ a. a.1) l.fn.out.items ++ arguments_in (pattern_view l.pattern))
    × (map (λ a. position a.0) l.out.items ++ argument_places_all (pattern_views (drop l.subpat-index l.subpat-items))
    ≡ map (λ a. position a.0) l.fn.out.items ++ argument_places (pattern_view l.pattern))
