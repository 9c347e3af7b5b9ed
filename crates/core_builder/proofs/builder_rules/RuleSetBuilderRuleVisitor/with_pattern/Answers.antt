use Rattle.std.proofs.Common.{inr, refl}
use Rattle.core_builder.proofs.LendingVisitors.{taken_back}
use Rattle.core_builder.proofs.builder_rules.RuleSetBuilderRuleVisitor.with_pattern.Goals as goal

pub returns : goal.returns
returns g c = inr (c.args.self.now, c.args.self.now, c.run.result, c.run.new.visitor, (refl, refl), c.run.ensures, taken_back c.args.self.now c.run.new.visitor c.run.result)
