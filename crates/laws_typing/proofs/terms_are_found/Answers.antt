use Rattle.laws_typing.proofs.TermLaws.{terms_are_found_lem}
use Rattle.laws_typing.proofs.terms_are_found.Goals as goal

pub returns : goal.returns
returns c = terms_are_found_lem
