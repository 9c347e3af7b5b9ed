use Rattle.cranelift_isle.proofs.OneAnswer.{lowering_is_a_function_lem}
use Rattle.cranelift_isle.proofs.lower.lowering_is_a_function.Goals as goal

pub returns : goal.returns
returns c = lowering_is_a_function_lem
