-- What warnings are told of, in the words of the laws.
pub mod Added
pub mod DeadReturns
pub mod IdlePriorities
pub mod Kinds
pub mod RuleGroups
