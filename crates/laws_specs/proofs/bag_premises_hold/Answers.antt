use Rattle.laws_specs.proofs.SampleLists.{bag_premises_hold_lem}
use Rattle.laws_specs.proofs.bag_premises_hold.Goals as goal

pub returns : goal.returns
returns c = bag_premises_hold_lem
