-- The sample whose rule leaves a call unused is lowered: its tree is the best one.
use Rattle.std.proofs.Common.{refl}
use Rattle.laws_examples.proofs.SetStages.{built_multi}
use Rattle.laws_examples.specs.Stages.{IsBuiltOf}
use Rattle.laws_examples.specs.Unasked.{unasked_defs, unasked_rules, unasked_set}

pub unasked_built : IsBuiltOf unasked_defs unasked_rules 2 unasked_set
unasked_built = built_multi unasked_defs unasked_rules 2 unasked_set refl refl refl refl refl refl refl refl
