mod BuildingLists
mod CheckedSets
mod ErrorsOfReading
mod LowerLaws
mod NamedErrors
mod NamedPlaces
mod OneAnswer
mod RefusedAnswers
mod TermsAscending
mod TreesSoFar
pub mod LoweredAnswers
