use Rattle.std.specs.Prelude.{string_bytes, codes}
use Rattle.core_syntax.specs.SyntaxViews.{decl_view}
use Rattle.text_writer.proofs.Chains.{at_last, decl_told}
use Rattle.text_writer.proofs.terms.push_decl.Goals as goal

pub returns : goal.returns
returns c =
    at_last c.push_str-2.result (string_bytes c.push_signature.new.out) (string_bytes c.push_str-2.new.self) (codes ")") c.push_str-2.ensures.bytes
    (decl_told (decl_view c.args.decl.now) (string_bytes c.args.out.now) (string_bytes c.push_str.new.self) (string_bytes c.push_flags.new.out) (string_bytes c.push_signature.new.out)
    (string_bytes c.push_str-2.new.self) c.in_ok-push_str.ensures.bytes c.in_ok-push_flags.ensures c.in_ok-push_signature.ensures)
