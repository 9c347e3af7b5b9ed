use Rattle.std.proofs.Common.{◌≡◌, List, drop}
use Rattle.model_code.specs.Notation.{Notation}
use Rattle.model_code.specs.Pieces as P
use Rattle.model_code.specs.Pieces.{unnamed_values}
use Rattle.rust_code.specs.CodeViews.{use_views}
use Rattle.rust_text.specs.Adding.{ahead}
use Rattle.rust_text.proofs.expressions.add_unnamed_values.Given as goal

abbrev pub invariant-loop-index : goal.invariant-loop-index
invariant-loop-index l =
    (p : Notation) (rest : List P.CodePiece) → ahead p l.out.items (unnamed_values p l.index (use_views (drop l.index l.values)) rest)
    ≡ ahead p l.fn.out.items (unnamed_values p 0 (use_views l.values) rest)
