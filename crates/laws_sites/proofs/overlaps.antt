-- Rules that overlap or are shadowed, and what is reported of them.
pub mod CheckedPrograms
pub mod Errors
pub mod JudgedLists
pub mod LeftOut
mod LeftOutErrors
pub mod ListedOverlaps
pub mod MaskErrors
pub mod Masks
pub mod Overlaps
pub mod Pairs
pub mod ReportedOverlaps
pub mod SetChecks
pub mod SetReports
pub mod SetRules
pub mod ShadowTest
pub mod Totals
