-- What the results of rules hold.
pub mod Held
mod PureRuns
