use Rattle.report_traces.proofs.EchoesApart.{echoes_choose_as_source_lem}
use Rattle.report_traces.proofs.laws.echoes_choose_as_source.Goals as goal

pub returns : goal.returns
returns c = echoes_choose_as_source_lem
