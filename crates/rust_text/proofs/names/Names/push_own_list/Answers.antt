use Rattle.std.proofs.Common.{◌++◌, ap, ◌∙◌}
use Rattle.std.specs.Prelude.{codes, string_bytes}
use Rattle.std.proofs.lemmas.List.{append_assoc}
use Rattle.std.proofs.lemmas.Result.{on_ok_weaker}
use Rattle.model.specs.lists.Signatures.{text_of}
use Rattle.rust_items.specs.RustNames.{part}
use Rattle.rust_text.specs.SettingViews.{setting_of}
use Rattle.rust_items.proofs.GrownTexts.{on_ok_text}
use Rattle.rust_text.proofs.names.Names.push_own_list.Goals as goal

pub returns : goal.returns
returns c =
    let old = string_bytes c.args.out.now in
    let name = part (text_of (setting_of c.args.self).names c.args.name.0) in
    let begun = c.in_ok-push_part.ensures ∙ ap (λ t. t ++ part c.text_of.result.now) c.in_ok-push_str.ensures.bytes ∙ ap (λ x. (old ++ codes "C::") ++ part x) c.text_of.ensures
    ∙ append_assoc old (codes "C::") name in
    on_ok_weaker c.push_str-2.result (λ w. w ∙ ap (λ t. t ++ codes "_returns::default()") begun ∙ append_assoc old (codes "C::" ++ name) (codes "_returns::default()")) (on_ok_text c.push_str-2.result (string_bytes c.push_str-2.new.self) (string_bytes c.push_part.new.out ++ codes "_returns::default()") (string_bytes c.push_part.new.out) c.push_str-2.ensures.bytes)
