-- Pieces that are added one after another.
use Rattle.std.proofs.Common.{◌≡◌, ◌++◌, ◌∷◌, [], List, refl, ap}
use Rattle.model_code.specs.Notation.{Notation}
use Rattle.model_code.specs.Pieces as P
use Rattle.rust_text.specs.declared.tokens.Piece.{Piece}
use Rattle.rust_text.specs.TokenViews.{piece_view}
use Rattle.rust_text.specs.Adding.{ahead}

pub ahead_appended : (p : Notation) (ps : List Piece) (x : Piece) (rest : List P.CodePiece) → ahead p (ps ++ x ∷ []) rest ≡ ahead p ps (piece_view p x ∷ rest)
unfolding ahead
ahead_appended p [] x rest = refl
ahead_appended p (y ∷ ps) x rest = ap (λ l. piece_view p y ∷ l) (ahead_appended p ps x rest)

pub ruleset added_steps = (ahead_appended)
