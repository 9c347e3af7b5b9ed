use Rattle.text_reader.proofs.Bound.{bound_some}
use Rattle.text_reader.proofs.tokens.pop_word.Goals as goal

pub returns-in-Some-clause-bound : goal.returns-in-Some-clause-bound
returns-in-Some-clause-bound c = bound_some _ _ c.in-Some.token _ c.in-Some.ensures.items c.as_word.ensures.bound
