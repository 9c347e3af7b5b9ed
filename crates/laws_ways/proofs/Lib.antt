-- Lemmas on ways through trees.
pub mod DeadReturns
pub mod SameRuns
