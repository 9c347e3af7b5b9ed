-- What rules of sets ask is enough for the conditions of source rules.
pub mod AskedEnough
pub mod CallsMade
pub mod CompletedSites
pub mod JoinedSites
pub mod NoneAbove
pub mod SetLaws
pub mod SetNumbers
pub mod ShapedSites
pub mod Shapes
pub mod SourceRules
