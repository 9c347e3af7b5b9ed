use Rattle.laws_errors.proofs.Samples.{rules_are_told_lem}
use Rattle.laws_errors.proofs.rules_are_told.Goals as goal

pub returns : goal.returns
returns c = rules_are_told_lem
