use Rattle.std.proofs.Common.{sym, ap, ◌∙◌, arith, chars}
use Rattle.text_documents.proofs.Walking.{without_feed_on}
use Rattle.text_documents.proofs.lines.without_feed.Goals as goal

pub returns-in-Some-eq10 : goal.returns-in-Some-eq10
returns-in-Some-eq10 c =
    ap chars c.as_str.ensures
    ∙ without_feed_on c.args.text.now _ c.in-Some-eq10.field-0 c.utf8.text (sym c.chars-rest.ensures.rest ∙ c.in-Some-eq10.ensures.steps.0) (omega arith)
