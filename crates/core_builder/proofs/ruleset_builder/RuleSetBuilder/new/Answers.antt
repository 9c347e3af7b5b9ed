use Rattle.std.proofs.Common.{[]}
use Rattle.model.proofs.Positions.{distinct_nil}
use Rattle.core_builder.proofs.BuilderSteps.{no_sites, nothing_visited}
use Rattle.core_builder.proofs.ruleset_builder.RuleSetBuilder.new.Goals as goal

pub returns : goal.returns
returns c =
    nothing_visited [] _ c.new.ensures.table c.new-2.ensures.due distinct_nil (no_sites _ c.new.ensures.sites) c.new-2.ensures.asked c.new-2.ensures.equated c.new-3.ensures.items c.new-4.ensures.none
    c.new-5.ensures.items c.new-6.ensures.none
