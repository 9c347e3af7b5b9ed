pub mod Nesting
pub mod Writing
