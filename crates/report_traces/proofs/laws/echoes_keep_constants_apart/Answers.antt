use Rattle.report_traces.proofs.EchoesApart.{echoes_keep_constants_apart_lem}
use Rattle.report_traces.proofs.laws.echoes_keep_constants_apart.Goals as goal

pub returns : goal.returns
returns c = echoes_keep_constants_apart_lem
