mod Booting
mod EntriesStay
mod EnvironmentSteps
mod FieldSteps
mod FieldTypes
mod FillingTypes
mod FirstBreaches
mod KnownTypes
mod LastTypes
mod NamesMet
mod Naming
mod NotedPositions
mod NumbersSeen
mod Places
mod ReadingSteps
mod Reducing
mod RightValues
mod SeenNames
mod TypeErrors
mod TypeMaps
mod TypesAtEnd
mod TypingConstants
mod VariantRuns
mod VariantSteps
pub mod Inverse
pub mod RightTypes
pub mod TablePositions
pub mod ToldErrors
pub mod WellFormedEnvs
