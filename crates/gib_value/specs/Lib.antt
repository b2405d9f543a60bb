-- A table of contents: each group says what it is for; a file's first line says what it is.

-- Values as nodes that lie in one vector.
pub mod Heap
pub mod Tags
pub mod Example
-- The text of a value: what it is, how it is written, how it is read.
pub mod Text
pub mod Writing
pub mod Due
pub mod Reading
