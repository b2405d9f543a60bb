-- A table of contents: each group says what it is for; a file's first line says what it is.

-- Declared types, as the code keeps them and as they lie in memory.
pub mod Row
pub mod Table
pub mod Index
pub mod Layout
pub mod Loaded
-- Values as trees, and as bytes.
pub mod Tree
pub mod TreeCode
pub mod Bytes
-- Types with type variables: what they mean, and by numbers.
pub mod Form
pub mod SameForm
pub mod Types
-- What is done with numbers.
pub mod Operators
