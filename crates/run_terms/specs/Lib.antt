pub mod RunViews
pub mod SourceViews
pub mod ValueViews
