use Rattle.std.proofs.Common.{arith}
use Rattle.report_compare.specs.Agreement.{is_named}
use Rattle.report_compare.specs.LineViews.{texts_of}
use Rattle.report_compare.proofs.HeadSteps.{each_none}
use Rattle.report_compare.proofs.Compared.push_names.Goals as goal

pub returns : goal.returns
returns c = each_none (λ head behind. is_named (texts_of c.args.self.ours.now) head) c.args.self.text.now c.loop-i.i _ _ (omega (arith, c.loop-i-test.false)) c.loop-i.invariant
