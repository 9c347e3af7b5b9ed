use Rattle.laws_typing.proofs.JudgedReading.{typed_rules_are_found_lem}
use Rattle.laws_typing.proofs.typed_rules_are_found.Goals as goal

pub returns : goal.returns
returns c = typed_rules_are_found_lem
