use Rattle.std.proofs.Common.{refl}
use Rattle.std.specs.Fmt.{digits}
use Rattle.model_print.proofs.sample_is_printed.Goals as goal

pub returns : goal.returns
unfolding digits
returns c = refl
