mod BlockSteps
mod CodeShapes
mod HeldPasses
mod MovedBlocks
mod MovedStatements
mod MovedUses
mod MovedVariables
mod Moving
mod Reading
mod SiteHolds
mod StatementSteps
mod TypesFound
mod UseSteps
pub mod CodeBridges
