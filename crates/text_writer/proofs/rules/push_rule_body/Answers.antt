use Rattle.std.proofs.Common.{◌++◌, map, ap, ◌∙◌}
use Rattle.std.specs.Prelude.{string_bytes}
use Rattle.core_syntax.specs.SyntaxViews.{iflet_view, rule_view}
use Rattle.text_reader.specs.FormTrees.{no_form}
use Rattle.text_writer.specs.Forms.{if_lets_before}
use Rattle.text_writer.specs.Texts.{spaced}
use Rattle.text_writer.proofs.Chains.{when, body_told}
use Rattle.text_writer.proofs.rules.push_rule_body.Goals as goal

pub returns : goal.returns
returns c =
    when c.push_last.result
    (body_told (rule_view c.args.rule.now) (string_bytes c.args.out.now) (string_bytes c.push_str.new.self) (string_bytes c.push_pattern.new.out)
    (string_bytes c.push_if_lets.new.out) (string_bytes c.push_last.new.out) c.in_ok-push_str.ensures.bytes c.in_ok-push_pattern.ensures
    (c.in_ok-push_if_lets.ensures ∙ ap (λ l. string_bytes c.push_pattern.new.out ++ spaced (if_lets_before (map iflet_view l) no_form)) c.deref.ensures.value))
    c.push_last.ensures
