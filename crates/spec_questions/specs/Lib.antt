pub mod Refuting
pub mod Replies
pub mod Right
pub mod Telling
