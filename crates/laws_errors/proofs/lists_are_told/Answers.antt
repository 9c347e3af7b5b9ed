use Rattle.laws_errors.proofs.Samples.{lists_are_told_lem}
use Rattle.laws_errors.proofs.lists_are_told.Goals as goal

pub returns : goal.returns
returns c = lists_are_told_lem
