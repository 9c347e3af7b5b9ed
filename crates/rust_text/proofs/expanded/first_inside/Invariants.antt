use Rattle.std.proofs.Common.{◌≡◌, drop}
use Rattle.core_terms.specs.TermViews.{term_views}
use Rattle.rust_text.specs.Expanded.{first_inside, lowered_sites}
use Rattle.rust_text.proofs.expanded.first_inside.Given as goal

abbrev pub invariant-loop-of : goal.invariant-loop-of
invariant-loop-of l = first_inside (term_views l.terms) (lowered_sites (drop l.of-index l.lowered)) ≡ first_inside (term_views l.terms) (lowered_sites l.lowered)
