use Rattle.model.specs.sites.Closure.{before_closing}
use Rattle.core_builder.proofs.BuilderSteps.{ok_both}
use Rattle.core_builder.proofs.ruleset_builder.RuleSetBuilder.close.Goals as goal

pub returns-clause-closed : goal.returns-clause-closed
returns-clause-closed c before v h = ok_both _ _ c.close.result c.close.ensures.table (c.close.ensures.closed (before_closing before v.demands) h.demands)

pub returns-clause-full : goal.returns-clause-full
returns-clause-full c before v h = c.close.ensures.full (before_closing before v.demands) h.demands
