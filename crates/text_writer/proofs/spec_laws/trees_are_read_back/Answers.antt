use Rattle.text_writer.proofs.TreesRead.{tree_read}
use Rattle.text_writer.proofs.spec_laws.trees_are_read_back.Goals as goal

pub returns : goal.returns
returns c = tree_read
