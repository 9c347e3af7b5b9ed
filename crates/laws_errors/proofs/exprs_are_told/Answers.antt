use Rattle.laws_errors.proofs.Samples.{exprs_are_told_lem}
use Rattle.laws_errors.proofs.exprs_are_told.Goals as goal

pub returns : goal.returns
returns c = exprs_are_told_lem
