pub mod Views
pub mod Causes
pub mod Fails
pub mod Files
pub mod InMemory
pub mod Moving
