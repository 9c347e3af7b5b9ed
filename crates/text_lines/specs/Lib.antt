pub mod Columns
pub mod Marks
