mod AskedNothingElse
mod BuiltRules
mod Calls
mod ClosingEnds
mod FittingPatterns
mod FollowedExprs
mod KnownVars
mod LentVisits
mod Owners
mod ScopeOfPatterns
mod VisitedRules
mod VisitsAlike
mod WholeClosing
pub mod AskedSites
pub mod BoundSites
pub mod BuiltWithinLimits
pub mod Classes
pub mod Closing
pub mod ClosingGates
pub mod ConstrainedOnce
pub mod Continued
pub mod Exprs
pub mod FollowedPatterns
pub mod FollowedRules
pub mod FollowingDemands
pub mod Gates
pub mod GivenFields
pub mod GrowingVisits
pub mod ImpureCallsMet
pub mod Limits
pub mod LimitsPassed
pub mod LimitsReported
pub mod LoopedCalls
pub mod Names
pub mod PatternParts
pub mod Patterns
pub mod PureCalls
pub mod Reports
pub mod RightSides
pub mod RuleParts
pub mod Rules
pub mod SameExprs
pub mod Settled
pub mod SiteRuns
pub mod SiteRunsMade
pub mod SitesAlike
pub mod Verdict
pub mod VisitInvariants
pub mod WithSites
pub mod WithTypes
pub mod building
pub mod built
pub mod overlaps
