use Rattle.std.proofs.Common.{◌∙◌}
use Rattle.core_rule_sets.proofs.JoinedSets.{together_joins}
use Rattle.core_serialize.proofs.tests.is_equated.Goals as goal

pub returns : goal.returns
returns c = c.in_same_set.ensures.value ∙ together_joins c.args.rule.now.equals c.in_same_set.ensures.partition c.args.a c.args.b
