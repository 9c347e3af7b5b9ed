-- What the meaning of the sample has on 2: two literals, and no call that is made.
use Rattle.std.proofs.Common.{refl, arith}
use Rattle.std.proofs.lemmas.Grind.{common_steps}
use Rattle.laws_examples.proofs.Served.{literals_apart}
use Rattle.laws_examples.proofs.SetStages.{built}
use Rattle.laws_examples.specs.SmallestInputs.{wrapped_meaning, wrapped_set}
use Rattle.laws_examples.specs.Stages.{IsBuiltOf}
use Rattle.laws_examples.specs.WrappedCalls.{NothingIsAskedAboveCalls, wrapped_defs, wrapped_program, wrapped_rules}

pub wrapped_built : IsBuiltOf wrapped_defs wrapped_rules 1 wrapped_set
wrapped_built = built wrapped_defs wrapped_rules 1 wrapped_set refl refl refl refl refl refl refl refl

pub nothing_is_asked_above_calls : NothingIsAskedAboveCalls
nothing_is_asked_above_calls = grind (arith, common_steps, literals_apart wrapped_program wrapped_meaning wrapped_rules.rules refl refl, literals_apart)
