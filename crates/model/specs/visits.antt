-- The visit of a typed rule, by any visitor and by the one of sites: its run gives what the rule demands and the
-- site of its value, but for the Some that a partial term makes of its result.
pub mod Demands
pub mod ExprRuns
pub mod PatternRuns
pub mod RuleRuns
pub mod Runs
pub mod SiteVisitor
pub mod Visitors
