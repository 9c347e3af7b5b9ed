use Rattle.rust_text.proofs.ProgramTokens.{well_named_are_written_once_lem}
use Rattle.rust_text.proofs.well_named_are_written_once.Goals as goal

pub returns : goal.returns
returns c = well_named_are_written_once_lem
