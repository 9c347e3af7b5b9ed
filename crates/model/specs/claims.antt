-- What each layer answers, up to the headline.
pub mod AcceptJudge
pub mod Environments
pub mod Headline
pub mod Layers
pub mod Questions
pub mod ReadJudge
pub mod Refusals
pub mod SetMeanings
