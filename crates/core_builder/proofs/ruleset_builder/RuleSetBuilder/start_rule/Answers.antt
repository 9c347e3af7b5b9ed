use Rattle.core_builder.proofs.BuilderSteps.{nothing_visited}
use Rattle.core_builder.proofs.ruleset_builder.RuleSetBuilder.start_rule.Goals as goal

pub returns-clause-started : goal.returns-clause-started
returns-clause-started c before table once stand =
    nothing_visited before _ table c.clear.ensures.due once stand c.clear.ensures.asked c.clear.ensures.equated c.new.ensures.items c.new-2.ensures.none c.new-3.ensures.items c.new-4.ensures.none
