use Rattle.std.proofs.Common.{arith}
use Rattle.rust_text.specs.ProgramNames.{names_of, notation_in}
use Rattle.rust_text.specs.SettingViews.{setting_of}
use Rattle.rust_text.proofs.PieceTexts.{one_piece_more, no_piece_more}
use Rattle.rust_text.proofs.spelling.push_all.Goals as goal

pub loop-piece-preserved : goal.loop-piece-preserved
loop-piece-preserved c =
    let s = setting_of c.args.names in
    one_piece_more (names_of s) (notation_in s) c.args.pieces.now c.loop-piece.piece-index c.piece-item.result _ _ _ c.loop-piece-test.true c.piece-item.is c.in_ok-push_piece.ensures c.loop-piece.invariant

pub returns : goal.returns
returns c =
    let s = setting_of c.args.names in
    no_piece_more (names_of s) (notation_in s) c.args.pieces.now c.loop-piece.piece-index _ _ (omega (arith, c.loop-piece-test.false)) c.loop-piece.invariant
