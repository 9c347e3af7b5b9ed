use Rattle.laws_specs.proofs.SampleAnswers.{others_are_refused_lem}
use Rattle.laws_specs.proofs.others_are_refused.Goals as goal

pub returns : goal.returns
returns c = others_are_refused_lem
