-- From what a meaning has to what runs, and the collecting of results, rest on.
pub mod BuiltSites
pub mod Fits
pub mod Forms
pub mod NumbersInRange
pub mod ServesRuns
pub mod ServesSets
mod SitesKnown
