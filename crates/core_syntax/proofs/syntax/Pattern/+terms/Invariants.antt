use Rattle.std.proofs.Common.{map, drop}
use Rattle.core_syntax.specs.Places.{term_view, HoldsAllBut}
use Rattle.core_syntax.specs.SyntaxViews.{pattern_view, pattern_views}
use Rattle.model.specs.lists.TermTable.{terms_of, terms_of_all}
use Rattle.core_syntax.proofs.syntax.Pattern.+terms.Given as goal

abbrev pub invariant-loop-arg : goal.invariant-loop-arg
invariant-loop-arg l =
    HoldsAllBut (map (λ t. term_view t.0 t.1.now) l.fn.out.items) (terms_of (pattern_view l.self)) (terms_of_all (pattern_views (drop l.arg-index l.arg-items)))
    (map (λ t. term_view t.0 t.1.now) l.out.items)

abbrev pub invariant-loop-subpat : goal.invariant-loop-subpat
invariant-loop-subpat l =
    HoldsAllBut (map (λ t. term_view t.0 t.1.now) l.fn.out.items) (terms_of (pattern_view l.self)) (terms_of_all (pattern_views (drop l.subpat-index l.subpat-items)))
    (map (λ t. term_view t.0 t.1.now) l.out.items)
