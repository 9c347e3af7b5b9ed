mod Collected
mod Followed
mod LikeRuns
mod ListRuns
mod SaidLists
mod SaidRuns
mod SampleAnswers
mod SampleBelow
mod SampleConditions
mod SampleListRuns
mod SampleLists
mod SampleNumbers
mod SampleOperators
mod SamplePriorities
mod SampleRuns
mod SampleSets
mod SampleUnknowns
mod SampleUnwraps
mod SampleWidths
mod SampleWritten
mod TotalAnswers
mod sets
pub mod Answers
pub mod Assumptions
pub mod PlainOutcomes
pub mod Valuations
