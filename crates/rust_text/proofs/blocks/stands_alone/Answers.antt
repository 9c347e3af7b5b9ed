use Rattle.std.proofs.Common.{sym}
use Rattle.rust_text.proofs.WrittenSteps.{alone_by_length}
use Rattle.rust_text.proofs.blocks.stands_alone.Goals as goal

pub returns : goal.returns
returns c = λ p. sym (alone_by_length p c.args.arms.now)
