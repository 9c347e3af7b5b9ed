-- Total meanings serve.
pub mod Shaped
pub mod ShapedSites
pub mod Total
