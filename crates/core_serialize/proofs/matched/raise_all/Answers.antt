use Rattle.core_serialize.proofs.MatchCounts.{raised_itself, raised_more}
use Rattle.core_serialize.proofs.matched.raise_all.Goals as goal

pub loop-number-init : goal.loop-number-init
loop-number-init c = record { matched = c.requires; raised = raised_itself c.args.matched.now }

pub loop-number-preserved : goal.loop-number-preserved
loop-number-preserved c = record {
  matched = c.in_ok-raise_rule.ensures.matched;
  raised = raised_more c.args.matched.now c.loop-number.matched c.raise_rule.new.matched c.loop-number.invariant.raised c.in_ok-raise_rule.ensures.raised;
}
