mod Answered
mod Availability
mod ClosedAlike
mod ClosedDemands
mod Contents
mod Counting
mod Demanded
mod DistinctSources
mod Ends
mod Exprs
mod FiniteAndTotal
mod FormedDemands
mod Gates
mod NeverChosen
mod NoLimits
mod NoLimitsLowered
mod NoLoops
mod Numbers
mod OneTree
mod OnlyTrees
mod OpenTests
mod Pairs
mod PatternConstants
mod Patterns
mod Rules
mod SameSets
mod SameTrees
mod SetsServed
mod SingleTests
mod StepCounts
mod TreeMeanings
mod Unreachable
mod Uses
mod Variables
mod WholeDemandsLowered
mod WholeSets
pub mod BuiltMatches
pub mod Constraints
pub mod ConstraintsTotal
pub mod Covers
pub mod DisjointRules
pub mod JudgeExactness
pub mod JudgedSets
pub mod Marking
pub mod NeverMatches
pub mod NoMulti
pub mod OneAnswer
pub mod Passing
pub mod PicksMade
pub mod Scores
pub mod SerializedSteps
pub mod SetsAnswered
pub mod Shapes
pub mod Shares
pub mod Soundness
pub mod Visits
pub mod WellBuilt
pub mod binding
pub mod choosing
pub mod headline
pub mod outcomes
pub mod picks
pub mod results
pub mod runs
pub mod taken
pub mod taking
pub mod total
