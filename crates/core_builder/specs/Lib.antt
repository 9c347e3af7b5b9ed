pub mod AddedRules
pub mod VisitedSites
