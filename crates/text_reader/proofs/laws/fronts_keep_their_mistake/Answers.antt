use Rattle.text_reader.proofs.Fronts.{same_front}
use Rattle.text_reader.proofs.laws.fronts_keep_their_mistake.Goals as goal

pub returns : goal.returns
returns c = same_front
