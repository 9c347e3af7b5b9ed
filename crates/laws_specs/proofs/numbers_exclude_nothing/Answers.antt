use Rattle.laws_specs.proofs.SampleNumbers.{numbers_exclude_nothing_lem}
use Rattle.laws_specs.proofs.numbers_exclude_nothing.Goals as goal

pub returns : goal.returns
returns c = numbers_exclude_nothing_lem
