mod Answered
mod Below
mod Enough
pub mod Refuted
mod SiteForms
mod Values
