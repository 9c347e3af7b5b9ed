use Rattle.std.proofs.Common.{rules, subst}
use Rattle.std.proofs.lemmas.List.{take_all}
use Rattle.report_warnings.specs.RuleGroups.{AreGroupedAmong}
use Rattle.report_warnings.proofs.RuleGroups.{among_more}
use Rattle.report_warnings.proofs.priorities.Groups.among.Goals as goal

pub loop-number-preserved : goal.loop-number-preserved
loop-number-preserved c =
    among_more c.args.rules.now c.args.numbers.now c.loop-number.number-index _ c.loop-number-test.true (search rules) c.loop-number.groups c.add_number.new.self c.loop-number.invariant c.in_ok-add_number.ensures

pub returns : goal.returns
returns c =
    subst (λ ns. AreGroupedAmong ns c.args.rules.now c.loop-number.groups) (take_all c.loop-number.number-index c.args.numbers.now c.loop-number-test.false) c.loop-number.invariant
