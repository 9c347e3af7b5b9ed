pub mod Lines
pub mod LineTexts
pub mod PrintedTrees
pub mod ReadTrees
pub mod Sample
pub mod TreesRead
