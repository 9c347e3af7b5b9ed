-- Steps that say what is wrong with rules, and laws on them.
pub mod AllMade
pub mod ExprSteps
pub mod LimitLaws
pub mod NameLaws
pub mod PatternSteps
pub mod PlaceLaws
pub mod ReachedLimits
pub mod RuleSteps
pub mod Samples
pub mod StepLaws
pub mod Steps
pub mod ToldLaws
