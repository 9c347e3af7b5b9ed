use Rattle.std.proofs.Common.{◌≡◌, take}
use Rattle.core_syntax.specs.SyntaxViews.{position}
use Rattle.core_syntax.specs.declared.syntax.Pos.{Pos}
use Rattle.core_overlap.specs.Comparisons.{pair_views, positions}
use Rattle.core_overlap.specs.Graphs.{neighbours_at, neighbours}
use Rattle.core_overlap.proofs.overlap.others_of.Given as goal

abbrev pub invariant-loop-first : goal.invariant-loop-first
invariant-loop-first l = (q : Pos) → positions (neighbours_at l.others q) ≡ neighbours (pair_views (take l.first-index l.fn.wrong.items)) (position q)
