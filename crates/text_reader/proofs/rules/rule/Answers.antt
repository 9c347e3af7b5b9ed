use Rattle.text_reader.proofs.Rows.{iflets-viewed}
use Rattle.text_reader.proofs.rules.rule.Goals as goal

pub returns-clause-within : goal.returns-clause-within
returns-clause-within c =
    (c.in_ok-pattern.ensures.within, iflets-viewed c.args.at.file c.args.at.len c.in_ok-iflets.iflets.items c.in_ok-iflets.ensures.within, c.in_ok-expr.ensures.within, c.in_ok-name.ensures.within.0, c.requires.1)
