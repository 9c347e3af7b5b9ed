use Rattle.laws_typing.proofs.TypedResults as results
use Rattle.laws_typing.proofs.variables_at_places.Goals as goal

pub returns : goal.returns
returns c = results.variables_at_places
