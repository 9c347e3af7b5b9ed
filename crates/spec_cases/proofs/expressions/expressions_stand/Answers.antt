use Rattle.spec_cases.proofs.Sayings.{all_said}
use Rattle.spec_cases.proofs.expressions.expressions_stand.Goals as goal

pub returns : goal.returns
returns c = λ below. all_said c.args.exprs.now below
