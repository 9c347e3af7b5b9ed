-- Sites, and what follows of the demands of rules: closure, overlap, limits, rule sets.
pub mod Closure
pub mod DemandedGates
pub mod Gates
pub mod Limits
pub mod Overlap
pub mod RuleSets
pub mod Serves
pub mod SetRules
pub mod Sites
