pub mod claims
pub mod lists
pub mod rules
pub mod sites
pub mod trees
pub mod visits
