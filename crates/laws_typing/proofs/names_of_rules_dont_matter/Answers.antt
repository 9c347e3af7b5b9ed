use Rattle.laws_typing.proofs.NamesOfTables.{names_of_rules_dont_matter_lem}
use Rattle.laws_typing.proofs.names_of_rules_dont_matter.Goals as goal

pub returns : goal.returns
returns c = names_of_rules_dont_matter_lem
