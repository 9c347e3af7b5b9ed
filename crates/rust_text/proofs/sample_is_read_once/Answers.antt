use Rattle.rust_text.proofs.ReadOnceSample.{sample_is_read_once_lem}
use Rattle.rust_text.proofs.sample_is_read_once.Goals as goal

pub returns : goal.returns
returns c = sample_is_read_once_lem
