-- What is added to pieces, whatever pieces follow.
use Rattle.std.specs.Prelude.{◌≡◌, ◌++◌, List}
use Rattle.model_code.specs.Notation.{Notation}
use Rattle.model_code.specs.Pieces as P
use Rattle.rust_text.specs.declared.tokens.Piece.{Piece}
use Rattle.rust_text.specs.TokenViews.{piece_views}
use Rattle.rust_text.specs.declared.notation.Writer.{Writer}
use Rattle.rust_text.specs.Writers.{IsNotationOf}

-- pieces before others
unfoldable pub ahead : Notation → List Piece → List P.CodePiece → List P.CodePiece
ahead p ps rest = piece_views p ps ++ rest

-- the new pieces are the old ones and these, which are given before the rest of them
abbrev pub Adds : (old new : List Piece) → (Notation → List P.CodePiece → List P.CodePiece) → Type 0
Adds old new part = (p : Notation) (rest : List P.CodePiece) → ahead p new rest ≡ ahead p old (part p rest)

-- the same, where things are written as a program asks
abbrev pub AddsBy : Writer → (old new : List Piece) → (Notation → List P.CodePiece → List P.CodePiece) → Type 0
AddsBy w old new part = (p : Notation) → IsNotationOf w p → (rest : List P.CodePiece) → ahead p new rest ≡ ahead p old (part p rest)
