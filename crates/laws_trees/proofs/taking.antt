-- Taking a rule: binding what it returns for, from whatever place.
mod BindOrderGrowth
mod CallAnswers
pub mod CallsIn
pub mod FollowedCalls
mod ImpureCalls
pub mod OneOutcome
mod PureSites
mod SettledSites
mod SitesBelow
pub mod TakenOutcomes
pub mod Taking
mod TakingProgress
mod UsedSites
