pub mod Changes
pub mod Contents
pub mod Lines
pub mod Places
pub mod Tables
pub mod Walks
