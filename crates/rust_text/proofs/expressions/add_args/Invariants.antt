use Rattle.std.proofs.Common.{◌≡◌, List, drop}
use Rattle.model_code.specs.Notation.{Notation}
use Rattle.model_code.specs.Pieces as P
use Rattle.model_code.specs.Pieces.{args_before}
use Rattle.rust_code.specs.CodeViews.{use_views}
use Rattle.rust_text.specs.Adding.{ahead}
use Rattle.rust_text.proofs.expressions.add_args.Given as goal

abbrev pub invariant-loop-used : goal.invariant-loop-used
invariant-loop-used l =
    (p : Notation) (rest : List P.CodePiece) → ahead p l.out.items (args_before p (use_views (drop l.used-index l.args)) rest) ≡ ahead p l.fn.out.items (args_before p (use_views l.args) rest)
