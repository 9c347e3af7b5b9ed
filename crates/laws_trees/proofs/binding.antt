-- Best trees bind sites before they use them.
pub mod BindingJudge
mod BroughtSites
pub mod PlacedSites
mod Scope
mod ScopedOrders
mod Scopes
pub mod Trees
