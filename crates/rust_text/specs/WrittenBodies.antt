-- Bodies as they are written.
use Rattle.std.specs.Prelude.{◌∷◌, List}
use Rattle.model_code.specs.Code.{Block}
use Rattle.model_code.specs.Tokens.{opening_brace}
use Rattle.model_code.specs.Notation.{Notation}
use Rattle.model_code.specs.Pieces.{CodePiece, Margin, set_in, line_end, put, inside, in_braces_at, block_before, close_body, label_before, is_left, result_ends}
use Rattle.model_code.specs.Written.{is_bare, unwrapped, written}

-- a body behind the brace that it begins with, with the brace that it ends with
abbrev pub body_before : Notation → Margin → Block → List CodePiece → List CodePiece
body_before p at body rest = block_before p (inside at) (unwrapped (is_bare p body) (written p body)) (close_body at rest)

-- a block with a label, if the label is left
abbrev pub labelled_before : Notation → Margin → Block → List CodePiece → List CodePiece
labelled_before p at body rest =
    set_in at.depth ∷ label_before (is_left (result_ends p) body) at (put opening_brace (line_end ∷
    block_before p (in_braces_at (is_left (result_ends p) body) at) (written p body) (close_body at rest)))
