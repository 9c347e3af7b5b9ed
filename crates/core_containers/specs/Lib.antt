pub mod Numbers
pub mod Partition
pub mod Places
