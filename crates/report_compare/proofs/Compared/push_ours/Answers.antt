use Rattle.std.proofs.Common.{arith}
use Rattle.report_compare.specs.Agreement.{is_ours}
use Rattle.report_compare.specs.LineViews.{texts_of}
use Rattle.report_compare.proofs.HeadSteps.{each_none}
use Rattle.report_compare.proofs.Compared.push_ours.Goals as goal

pub returns : goal.returns
returns c = each_none (is_ours (texts_of c.args.self.text.now)) c.args.self.ours.now c.loop-i.i _ _ (omega (arith, c.loop-i-test.false)) c.loop-i.invariant
