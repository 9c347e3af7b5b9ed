pub mod RightRules
pub mod TableSteps
pub mod TellingSteps
pub mod Told
pub mod Whole
