use Rattle.std.proofs.Common.{refl}
use Rattle.text_writer.proofs.spec_laws.a_sample_is_printed.Goals as goal

pub returns : goal.returns
returns c = refl
