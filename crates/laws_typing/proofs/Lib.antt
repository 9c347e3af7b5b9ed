mod AfterRefusals
mod Converters
mod DistinctLists
mod ElaboratedCalls
mod EnvironmentsRead
mod FurtherNames
mod RefusedAgain
mod RulesAgain
mod TermTypes
mod UsesFound
mod WellFormed
mod WellTypedTerms
pub mod EnvironmentsShown
pub mod FormedParts
pub mod FormedRules
pub mod JudgedKnown
pub mod JudgedReading
pub mod JudgedTerms
pub mod JudgedTypes
pub mod LooksByNumber
pub mod NamesOfTables
pub mod NoReadLimits
pub mod OwnTypes
pub mod Ranges
pub mod RefusedTerms
pub mod TermLaws
pub mod TwoTables
pub mod TypeLaws
pub mod TypedExprs
pub mod TypedPatterns
pub mod TypedResults
pub mod TypedRules
pub mod TypesStay
pub mod Typings
pub mod VariantTerms
pub mod VisitableRules
pub mod WellTypedPrograms
pub mod WellTypedRules
