use Rattle.laws_code.proofs.WellMade.{code_of_each_term_is_well_made_lem}
use Rattle.laws_code.proofs.code_of_each_term_is_well_made.Goals as goal

pub returns : goal.returns
returns c = code_of_each_term_is_well_made_lem c.built_sets_constrain_by_types.ensures c.code_of_accepted_is_well_made.ensures
