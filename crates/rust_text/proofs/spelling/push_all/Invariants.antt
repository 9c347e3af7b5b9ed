use Rattle.std.proofs.Common.{◌≡◌, ◌++◌, drop}
use Rattle.std.specs.Prelude.{string_bytes}
use Rattle.model_code.specs.Spelling.{spelled}
use Rattle.rust_text.specs.ProgramNames.{names_of, notation_in}
use Rattle.rust_text.specs.SettingViews.{setting_of}
use Rattle.rust_text.specs.TokenViews.{piece_views}
use Rattle.rust_text.proofs.spelling.push_all.Given as goal

abbrev pub invariant-loop-piece : goal.invariant-loop-piece
invariant-loop-piece l =
    string_bytes l.out ++ spelled (names_of (setting_of l.names)) (piece_views (notation_in (setting_of l.names)) (drop l.piece-index l.pieces))
    ≡ string_bytes l.fn.out ++ spelled (names_of (setting_of l.names)) (piece_views (notation_in (setting_of l.names)) l.pieces)
