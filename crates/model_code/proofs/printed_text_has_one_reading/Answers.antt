use Rattle.model_code.proofs.OneReading.{printed_text_has_one_reading_lem}
use Rattle.model_code.proofs.printed_text_has_one_reading.Goals as goal

pub returns : goal.returns
returns c = printed_text_has_one_reading_lem
