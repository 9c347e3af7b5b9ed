use Rattle.laws_specs.proofs.sets.SetLaws.{terms_of_valid_sets_are_valid_lem}
use Rattle.laws_specs.proofs.terms_of_valid_sets_are_valid.Goals as goal

pub returns : goal.returns
returns c = terms_of_valid_sets_are_valid_lem c.accepted_sets_are_whole.ensures
