use Rattle.text_writer.proofs.Sound.{wholes}
use Rattle.text_writer.proofs.Whole.{laid_are}
use Rattle.text_writer.proofs.layout_laws.layout_writes_pieces.Goals as goal

pub returns : goal.returns
returns c = λ i file text ps ts h t. laid_are i ps (wholes file ps 0 text 0 0 _ ts h t)
