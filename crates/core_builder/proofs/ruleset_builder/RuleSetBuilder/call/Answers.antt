use Rattle.core_builder.proofs.BuilderSteps.{call_made}
use Rattle.core_builder.proofs.ruleset_builder.RuleSetBuilder.call.Goals as goal

pub returns : goal.returns
returns c = record { called = λ before v h l next. call_made before c.args.self.now v h c.push.new.self c.args.site l next c.in_ok-push.ensures.items }
