use Rattle.cranelift_isle.proofs.LowerLaws.{chosen_as_source_lem}
use Rattle.cranelift_isle.proofs.laws.chosen_as_source.Goals as goal

pub returns : goal.returns
returns c = chosen_as_source_lem
