use Rattle.report_traces.proofs.EchoesFit.{echoes_are_well_typed_lem}
use Rattle.report_traces.proofs.laws.echoes_are_well_typed.Goals as goal

pub returns : goal.returns
returns c = echoes_are_well_typed_lem
