pub mod ComparedRules
pub mod Comparisons
pub mod ErrorViews
pub mod Graphs
pub mod Keys
