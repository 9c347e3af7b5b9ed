-- All pieces of a function.
use Rattle.std.proofs.Common.{◌≡◌, ◌∙◌, [], List, sym}
use Rattle.std.proofs.lemmas.List.{append-nil}
use Rattle.model_code.specs.Notation.{Notation}
use Rattle.model_code.specs.Pieces as P
use Rattle.rust_text.specs.declared.tokens.Piece.{Piece}
use Rattle.rust_text.specs.TokenViews.{piece_views}
use Rattle.rust_text.specs.Adding.{ahead}

-- pieces that are ahead of nothing
pub all_ahead : (p : Notation) (old new : List Piece) (all : List P.CodePiece) → old ≡ [] → ahead p new [] ≡ ahead p old all → piece_views p new ≡ all
unfolding ahead
all_ahead p old new all e h = sym (append-nil (piece_views p new)) ∙ rw e at h
