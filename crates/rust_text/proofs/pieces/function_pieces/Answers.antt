use Rattle.std.proofs.Common.{[]}
use Rattle.rust_text.proofs.PieceSteps.{all_ahead}
use Rattle.rust_text.proofs.pieces.function_pieces.Goals as goal

pub returns : goal.returns
returns c = λ p n. all_ahead p _ _ _ c.new-out.ensures.items (c.in_ok-add_function.ensures p n [])
