use Rattle.std.proofs.Common.{◌≡◌, ◌++◌, map, All}
use Rattle.model.specs.trees.Best.{IsBestTree}
use Rattle.model.specs.claims.Layers.{IsBuiltForSome}
use Rattle.cranelift_isle.specs.BuiltSets.{term_set_views}
use Rattle.cranelift_isle.specs.Lowerings.{lowered_views, set_of_term}
use Rattle.cranelift_isle.proofs.lower.trees_of.Given as goal

-- the terms so far, with the sets that are left, are all sets; their trees are best trees; what is left is built
abbrev pub invariant-loop-id : goal.invariant-loop-id
invariant-loop-id l =
    (map set_of_term (lowered_views l.terms.items) ++ term_set_views l.id-iterator.rest.items ≡ term_set_views l.fn.sets.items)
    × All (λ t. IsBestTree t.set t.tree) (lowered_views l.terms.items)
    × All (λ b. IsBuiltForSome b.1) (term_set_views l.id-iterator.rest.items)
