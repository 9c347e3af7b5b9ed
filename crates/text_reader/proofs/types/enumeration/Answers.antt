use Rattle.text_reader.proofs.Rows.{variants-viewed}
use Rattle.text_reader.proofs.types.enumeration.Goals as goal

pub returns-clause-within : goal.returns-clause-within
returns-clause-within c =
    (variants-viewed c.args.at.file c.args.at.len c.in_ok-variants.variants.items c.in_ok-variants.ensures.within, c.requires.1)
