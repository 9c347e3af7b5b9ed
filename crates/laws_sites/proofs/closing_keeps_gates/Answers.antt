use Rattle.laws_sites.proofs.ClosingGates.{closing_keeps_gates_lem}
use Rattle.laws_sites.proofs.closing_keeps_gates.Goals as goal

pub returns : goal.returns
returns c = closing_keeps_gates_lem
