use Rattle.std.proofs.Common.{◌++◌, sym, ap, ◌∙◌}
use Rattle.std.specs.Prelude.{string_bytes}
use Rattle.std.proofs.lemmas.Result.{on_ok_weaker}
use Rattle.model_code.specs.Spelling.{spelled}
use Rattle.rust_text.specs.ProgramNames.{names_of}
use Rattle.rust_text.specs.SettingViews.{setting_of}
use Rattle.rust_text.proofs.PieceTexts.{same_pieces}
use Rattle.rust_text.proofs.spelling.push_pieces.Goals as goal

pub returns : goal.returns
returns c p kind is_logged of =
    let s = setting_of c.args.names in
    on_ok_weaker c.push_all.result (λ w. w ∙ ap (λ ps. string_bytes c.args.out.now ++ spelled (names_of s) ps) (sym (same_pieces s p kind is_logged of c.args.pieces.now))) c.push_all.ensures
