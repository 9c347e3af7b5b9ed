use Rattle.std.proofs.Common.{◌++◌, ap, ◌∙◌}
use Rattle.std.specs.Prelude.{codes, string_bytes}
use Rattle.std.proofs.lemmas.List.{append_assoc}
use Rattle.std.proofs.lemmas.Result.{on_ok_weaker}
use Rattle.model.specs.lists.Signatures.{text_of}
use Rattle.core_syntax.specs.SyntaxViews.{position}
use Rattle.rust_items.specs.FilePlaces.{place_written}
use Rattle.rust_text.specs.ProgramNames.{told}
use Rattle.rust_text.specs.SettingViews.{setting_of}
use Rattle.rust_items.proofs.GrownTexts.{on_ok_text}
use Rattle.rust_text.proofs.names.Names.push_log.Goals as goal

pub returns : goal.returns
returns c =
    let s = setting_of c.args.self in
    let line = told (codes "log::debug") (codes "ISLE: {} by the rule at {}") (text_of s.names s.term_name) (place_written s.sources (position c.args.pos)) in
    on_ok_weaker c.push_str.result (λ w. w ∙ ap (λ t. t ++ codes ";") c.in_ok-push_told.ensures ∙ append_assoc (string_bytes c.args.out.now) line (codes ";")) (on_ok_text c.push_str.result (string_bytes c.push_str.new.self) (string_bytes c.push_told.new.out ++ codes ";") (string_bytes c.push_told.new.out) c.push_str.ensures.bytes)
