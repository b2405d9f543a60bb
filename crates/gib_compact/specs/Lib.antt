-- A table of contents: each group says what it is for; a file's first line says what it is.

-- What of a value is left to pack, and its pieces.
pub mod Left
pub mod Counts
pub mod Cut
-- What workers bring back, and all of it put together.
pub mod Back
pub mod Gathered
