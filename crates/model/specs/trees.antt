-- Trees of tests: runs, places, tests, sound trees, best trees and their judge.
pub mod Best
pub mod Collects
pub mod Judge
pub mod Places
pub mod Run
pub mod SetRuns
pub mod Sound
pub mod Tests
pub mod Trees
pub mod WellBuilt
