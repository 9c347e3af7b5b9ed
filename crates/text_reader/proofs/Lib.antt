mod Apart
mod Behind
mod Bound
mod Endings
mod Examples
mod FoundForms
mod Fronts
mod Grown
mod Mistakes
mod Numbered
mod OneDivision
mod OneForm
mod Only
mod OpenEnds
mod ReadSpecs
mod Recovered
mod Running
mod SameTokens
mod Turns
mod TypeReading
mod WholeChunks
pub mod Digits
pub mod Dividing
pub mod Exact
pub mod LastForms
pub mod Marked
pub mod OneText
pub mod OnlyForms
pub mod ReadLets
pub mod ReadLists
pub mod ReadOn
pub mod ReadTrees
pub mod Rows
pub mod SpecViews
pub mod Spelled
pub mod Stacks
