pub mod Calls
pub mod Known
pub mod Told
