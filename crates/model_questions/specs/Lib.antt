pub mod Evaluated
pub mod Formulas
pub mod Forms
pub mod Questions
pub mod Steps
