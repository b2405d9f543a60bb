-- A table of contents: each group says what it is for; a file's first line says what it is.

-- Words, faults, and what is put.
pub mod TwoWords
pub mod Faults
pub mod Saying
-- The ways through the script, and what they leave.
pub mod Scripted
pub mod Leaving
