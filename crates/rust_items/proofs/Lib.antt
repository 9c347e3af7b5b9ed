mod FileLines
mod Firsts
pub mod FreeVariables
mod Grown
mod GrownFields
pub mod GrownTexts
mod HeldNames
pub mod PureFunctions
mod Segments
pub mod Spellings
pub mod Turns
pub mod Variables
