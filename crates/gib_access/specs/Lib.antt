-- A table of contents: each group says what it is for; a file's first line says what it is.

-- Which arms read offsets, where fields are reached by ends, and what was used since.
pub mod Stored
pub mod Planned
pub mod Used
-- What the walk reads, and leaves behind.
pub mod Sources
pub mod Made
pub mod Bodies
