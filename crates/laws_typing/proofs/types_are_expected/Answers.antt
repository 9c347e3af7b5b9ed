use Rattle.laws_typing.proofs.TypedResults as results
use Rattle.laws_typing.proofs.types_are_expected.Goals as goal

pub returns : goal.returns
returns c = results.types_are_expected
