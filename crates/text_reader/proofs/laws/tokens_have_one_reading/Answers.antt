use Rattle.text_reader.proofs.OneForm.{one_reading}
use Rattle.text_reader.proofs.laws.tokens_have_one_reading.Goals as goal

pub returns : goal.returns
returns c = one_reading
