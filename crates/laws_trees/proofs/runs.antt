-- Runs of sound trees in terms that are not multi.
mod AddedResults
mod Arms
mod AvailableSites
pub mod Below
pub mod Binding
pub mod BindOrders
pub mod Choice
pub mod ChosenRules
pub mod Claims
pub mod Classes
pub mod Collection
pub mod Contents
pub mod Fields
pub mod FieldSites
mod Finding
pub mod HoldsOnce
pub mod Listing
mod Loops
pub mod Order
pub mod PureBindings
mod ResultsLeft
mod Returns
pub mod RuleDemands
mod RunPlaces
mod PickedPlaces
mod Steps
