mod Beginnings
mod Copies
mod Files
mod Pairs
pub mod ExprViews
pub mod NotedErrors
pub mod PatternViews
pub mod Positioned
