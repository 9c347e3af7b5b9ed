use Rattle.text_reader.proofs.OneText.{one_text}
use Rattle.text_reader.proofs.laws.texts_have_one_reading.Goals as goal

pub returns : goal.returns
returns c = one_text
