use Rattle.std.specs.Prelude.{string_bytes}
use Rattle.std.specs.Str.{chars}
use Rattle.text_reader.specs.Pieces.{pieces_of}
use Rattle.text_writer.proofs.HasLists.{has_layout, has_same}
use Rattle.text_writer.proofs.formatted.formatted.Goals as goal

pub returns-clause-exact : goal.returns-clause-exact
returns-clause-exact c =
    let text = c.args.text.now in
    has_layout c.args.file c.args.indentation text (chars (string_bytes c.in_ok-made.made)) c.in_ok-has_lists.ensures.exact
    (c.in_ok-made.ensures (pieces_of (chars text)) (c.texts_have_one_division.ensures.are (chars text)))

pub returns-clause-same : goal.returns-clause-same
returns-clause-same c =
    let text = c.args.text.now in
    has_same c.args.file c.args.indentation text (chars (string_bytes c.in_ok-made.made)) c.in_ok-has_lists.ensures.exact
    (c.texts_have_one_division.ensures.one (chars text)) c.in_ok-made.ensures
    (λ ps qs ts. c.layout_keeps_tokens.ensures c.args.indentation c.args.file (chars text) ps qs ts)
