use Rattle.laws_typing.proofs.TypedResults as results
use Rattle.laws_typing.proofs.names_stay_in_lists.Goals as goal

pub returns : goal.returns
returns c = results.names_stay_in_lists
