-- What built sets are.
pub mod BuiltGates
pub mod BuiltSets
pub mod CollectedSets
pub mod ConstrainedOrEquated
pub mod MultiCalls
pub mod Priorities
pub mod ServedSets
pub mod DistinctSites
pub mod Unfolding
pub mod WellBuiltSets
pub mod WholeDemands
