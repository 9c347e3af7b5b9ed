-- Best trees keep the headline.
pub mod AcceptedTrees
pub mod Choosing
pub mod Collecting
pub mod NoCalls
pub mod Places
