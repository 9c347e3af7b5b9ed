use Rattle.rust_text.proofs.Fronts.{fronts_are_closed_lem}
use Rattle.rust_text.proofs.fronts_are_closed.Goals as goal

pub returns : goal.returns
returns c = fronts_are_closed_lem
