use Rattle.text_reader.proofs.ReadSpecs.{some-parts}
use Rattle.text_reader.proofs.spec_expressions.is_empty.Goals as goal

pub returns-in-len1-up : goal.returns-in-len1-up
returns-in-len1-up c = some-parts c.args.parts.now c.in-len1-up.len_at_least
