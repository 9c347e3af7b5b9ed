-- Building rule by rule.
pub mod Listed
pub mod Ordered
pub mod RulesPassed
pub mod SetsSoFar
