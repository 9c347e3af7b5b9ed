use Rattle.laws_typing.proofs.TermLaws.{terms_stand_at_ids_lem}
use Rattle.laws_typing.proofs.terms_stand_at_ids.Goals as goal

pub returns : goal.returns
returns c = terms_stand_at_ids_lem
