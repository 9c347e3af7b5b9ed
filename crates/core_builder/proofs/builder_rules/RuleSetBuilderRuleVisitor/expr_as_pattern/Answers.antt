use Rattle.std.proofs.Common.{refl}
use Rattle.core_builder.proofs.builder_rules.RuleSetBuilderRuleVisitor.expr_as_pattern.Goals as goal

pub returns : goal.returns
returns c before v h there nothing_else = (refl, c.in_ok-ask_unwrapped.ensures before v h there nothing_else)
