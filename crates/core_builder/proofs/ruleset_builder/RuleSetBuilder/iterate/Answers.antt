use Rattle.core_builder.proofs.BuilderSteps.{call_gone_over}
use Rattle.core_builder.proofs.ruleset_builder.RuleSetBuilder.iterate.Goals as goal

pub returns : goal.returns
returns c = record { gone_over = λ before v h l. call_gone_over before c.args.self.now v h c.insert.new.self c.args.call l c.in_ok-insert.ensures.has }
