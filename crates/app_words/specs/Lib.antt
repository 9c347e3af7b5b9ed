pub mod Asked
pub mod Items
pub mod Options
pub mod Refusals
pub mod Requests
pub mod Tasks
pub mod Values
pub mod WrongItems
