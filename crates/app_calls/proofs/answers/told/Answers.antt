use Rattle.std.proofs.Common.{inr}
use Rattle.app_calls.proofs.answers.told.Goals as goal

pub returns-in-Ok-clause-told : goal.returns-in-Ok-clause-told
returns-in-Ok-clause-told c = inr (c.in-Ok.reading, c.in-Ok.ensures, c.told_of.ensures.told)
