use Rattle.std.proofs.Common.{not, arith}
use Rattle.report_compare.specs.Agreement.{is_named}
use Rattle.report_compare.proofs.HeadSteps.{each_none}
use Rattle.report_compare.proofs.Compared.push_doubles.Goals as goal

pub returns : goal.returns
returns c = each_none (λ head behind. not (is_named behind head)) c.args.self.text.now c.loop-i.i _ _ (omega (arith, c.loop-i-test.false)) c.loop-i.invariant
