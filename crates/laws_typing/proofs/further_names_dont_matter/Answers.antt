use Rattle.laws_typing.proofs.FurtherNames.{further_names_dont_matter_lem}
use Rattle.laws_typing.proofs.further_names_dont_matter.Goals as goal

pub returns : goal.returns
returns c = further_names_dont_matter_lem
