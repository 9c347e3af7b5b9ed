use Rattle.app_command.proofs.RecoveredTexts.{all_fine}
use Rattle.app_command.proofs.reading.recovered_texts_have_no_mistake.Goals as goal

pub returns : goal.returns
returns c = λ has_none texts. all_fine c.read_texts_are_recovered.ensures.fine has_none 0 texts
