pub mod Lookups
pub mod NameTexts
pub mod Premises
pub mod Samples
pub mod Statuses
pub mod TermTexts
pub mod Walks
