-- Lemmas on what warnings are told of.
mod Added
mod Constraints
mod DeadReturns
mod IdlePriorities
mod RuleGroups
