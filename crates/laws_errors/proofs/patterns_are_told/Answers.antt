use Rattle.laws_errors.proofs.Samples.{patterns_are_told_lem}
use Rattle.laws_errors.proofs.patterns_are_told.Goals as goal

pub returns : goal.returns
returns c = patterns_are_told_lem
