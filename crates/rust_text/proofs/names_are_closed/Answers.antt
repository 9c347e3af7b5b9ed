use Rattle.rust_text.proofs.WholeNames.{names_are_closed_lem}
use Rattle.rust_text.proofs.names_are_closed.Goals as goal

pub returns : goal.returns
returns c = names_are_closed_lem
