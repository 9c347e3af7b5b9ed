pub mod BelowLaws
pub mod EnoughLaws
