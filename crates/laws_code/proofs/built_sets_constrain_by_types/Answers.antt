use Rattle.laws_code.proofs.ConstrainedTypes.{built_sets_constrain_by_types_lem}
use Rattle.laws_code.proofs.built_sets_constrain_by_types.Goals as goal

pub returns : goal.returns
returns c = built_sets_constrain_by_types_lem
