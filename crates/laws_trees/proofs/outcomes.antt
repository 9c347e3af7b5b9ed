-- Taking a rule gives its right side's outcome.
pub mod Evals
mod Ordered
pub mod Outcomes
pub mod RightSides
