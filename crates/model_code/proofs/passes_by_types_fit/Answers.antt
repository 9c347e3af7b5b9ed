use Rattle.model_code.proofs.Modes.{passes_by_types_fit_lem}
use Rattle.model_code.proofs.passes_by_types_fit.Goals as goal

pub returns : goal.returns
returns c = passes_by_types_fit_lem
