use Rattle.laws_specs.proofs.SampleUnwraps.{unused_calls_show_nothing_lem}
use Rattle.laws_specs.proofs.unused_calls_show_nothing.Goals as goal

pub returns : goal.returns
returns c = unused_calls_show_nothing_lem
