use Rattle.rust_text.proofs.WrittenOnce.{written_once_are_apart_lem}
use Rattle.rust_text.proofs.written_once_are_apart.Goals as goal

pub returns : goal.returns
returns c = written_once_are_apart_lem
