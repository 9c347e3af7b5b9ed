use Rattle.std.specs.Prelude.{string_bytes, codes}
use Rattle.core_syntax.specs.SyntaxViews.{type_view}
use Rattle.text_writer.proofs.Chains.{at_last, type_told}
use Rattle.text_writer.proofs.types.push_type.Goals as goal

pub returns : goal.returns
returns c =
    at_last c.push_str-2.result (string_bytes c.push_value.new.out) (string_bytes c.push_str-2.new.self) (codes ")") c.push_str-2.ensures.bytes
    (type_told (type_view c.args.ty.now) (string_bytes c.args.out.now) (string_bytes c.push_str.new.self) (string_bytes c.push_type_words.new.out) (string_bytes c.push_value.new.out)
    (string_bytes c.push_str-2.new.self) c.in_ok-push_str.ensures.bytes c.in_ok-push_type_words.ensures c.in_ok-push_value.ensures)
