mod Again
mod BareTrees
mod Comments
mod ContentsRead
mod DigitTexts
mod Fronts
mod HasLists
mod ItemsReadBack
mod KeptTokens
mod Matched
mod Returns
mod Scans
mod Sound
mod SpecTexts
mod Texts
mod TreesFit
mod TreesRead
mod Turns
mod TwiceTrees
mod Whole
mod WordTests
mod WovenText
pub mod Bare
pub mod Chains
pub mod Fine
pub mod FormsRead
pub mod Lines
pub mod Names
pub mod Numbers
pub mod WordParts
pub mod Placed
pub mod ReadBack
pub mod Spaces
pub mod Tests
pub mod Twice
pub mod Written
