-- Picks, bags, and rules without multi calls.
pub mod CallOrders
pub mod Calls
pub mod FirstCall
pub mod HeldContents
pub mod LongerPicks
pub mod NoIterators
pub mod OnePick
pub mod PickLists
pub mod PlainMatching
pub mod SamePlaces
pub mod VisitOrder
