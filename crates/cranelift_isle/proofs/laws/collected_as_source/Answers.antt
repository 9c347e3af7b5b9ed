use Rattle.cranelift_isle.proofs.LowerLaws.{collected_as_source_lem}
use Rattle.cranelift_isle.proofs.laws.collected_as_source.Goals as goal

pub returns : goal.returns
returns c = collected_as_source_lem
