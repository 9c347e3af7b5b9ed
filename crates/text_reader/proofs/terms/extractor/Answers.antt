use Rattle.text_reader.proofs.Rows.{names-viewed}
use Rattle.text_reader.proofs.terms.extractor.Goals as goal

pub returns-clause-within : goal.returns-clause-within
returns-clause-within c =
    (c.in_ok-term.ensures.within.0, names-viewed c.args.at.file c.args.at.len c.in_ok-args.args.items c.in_ok-args.ensures.within, c.in_ok-template.ensures.within, c.requires.1)
