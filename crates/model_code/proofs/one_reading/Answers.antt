use Rattle.model_code.proofs.OneReading.{one_reading_lem}
use Rattle.model_code.proofs.one_reading.Goals as goal

pub returns : goal.returns
returns c = one_reading_lem
