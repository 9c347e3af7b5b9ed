use Rattle.laws_typing.proofs.TypedResults as results
use Rattle.laws_typing.proofs.names_stay.Goals as goal

pub returns : goal.returns
returns c = results.names_stay
