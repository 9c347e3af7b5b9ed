use Rattle.std.proofs.Common.{arith}
use Rattle.report_warnings.proofs.RuleGroups.{all_grouped, grouped_more}
use Rattle.report_warnings.proofs.priorities.Groups.of.Goals as goal

pub loop-number-preserved : goal.loop-number-preserved
loop-number-preserved c = grouped_more c.args.rules.now c.loop-number.number c.index-rules-number.result c.loop-number.groups c.add.new.self c.index-rules-number.is c.loop-number.invariant c.in_ok-add.ensures

pub returns : goal.returns
returns c = all_grouped c.args.rules.now c.loop-number.number c.loop-number.groups (omega (arith, c.loop-number-test.false)) c.loop-number.invariant
