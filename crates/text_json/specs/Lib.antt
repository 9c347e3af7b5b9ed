pub mod Data
pub mod JsonLine
pub mod Nesting
pub mod Writing
