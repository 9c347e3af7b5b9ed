pub mod CodeOf
pub mod CodeViews
pub mod HeldPasses
pub mod HeldViews
pub mod Labels
pub mod SeenTypes
pub mod SiteHolds
pub mod Spots
