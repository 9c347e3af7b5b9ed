use Rattle.std.specs.Prelude.{string_bytes}
use Rattle.core_syntax.specs.SyntaxViews.{rule_view}
use Rattle.text_writer.proofs.Chains.{when, rule_told}
use Rattle.text_writer.proofs.rules.push_rule.Goals as goal

pub returns : goal.returns
returns c =
    when c.push_rule_body.result
    (rule_told (rule_view c.args.rule.now) (string_bytes c.args.out.now) (string_bytes c.push_str.new.self) (string_bytes c.push_rule_words.new.out) (string_bytes c.push_rule_body.new.out)
    c.in_ok-push_str.ensures.bytes c.in_ok-push_rule_words.ensures) c.push_rule_body.ensures
