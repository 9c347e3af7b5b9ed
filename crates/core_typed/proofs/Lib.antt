mod BoundPlaces
mod BoundVars
mod CountSteps
mod DefinedSteps
mod ExprRunSteps
mod MapSteps
mod NameSteps
mod NotedPositions
mod OrderedVars
mod VisitSizes
pub mod Copies
pub mod Defaults
pub mod ExprBridges
pub mod ExprRunForms
pub mod FirstErrors
pub mod NotedErrors
pub mod PatternBridges
pub mod PatternRunForms
pub mod PatternRunSteps
pub mod RuleRunSteps
