use Rattle.std.proofs.Common.{◌≡◌, List, drop, false}
use Rattle.model_code.specs.Notation.{Notation}
use Rattle.model_code.specs.Pieces as P
use Rattle.model_code.specs.Pieces.{named_bindings}
use Rattle.rust_text.specs.TokenViews.{owner_view}
use Rattle.rust_text.specs.Adding.{ahead}
use Rattle.rust_text.specs.Writers.{IsNotationOf}
use Rattle.rust_text.proofs.notation.Writer.add_named_bindings.Given as goal

abbrev pub invariant-loop-index : goal.invariant-loop-index
invariant-loop-index l =
    (p : Notation) → IsNotationOf l.self p → (rest : List P.CodePiece)
    → ahead p l.out.items (named_bindings p (owner_view l.owner) l.index l.is_bound l.is_lacking (drop l.index l.fields) rest)
    ≡ ahead p l.fn.out.items (named_bindings p (owner_view l.owner) 0 false false l.fields rest)
