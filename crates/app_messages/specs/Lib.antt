pub mod Edits
pub mod Protocol
pub mod Refusals
