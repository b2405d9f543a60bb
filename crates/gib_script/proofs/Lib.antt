pub mod Following
pub mod Counting
pub mod Keeping
