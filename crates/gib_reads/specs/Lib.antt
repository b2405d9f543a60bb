-- A table of contents: each group says what it is for; a file's first line says what it is.

-- Readers of tokens, what functions answer by them, and why reading stops where.
pub mod Readers
pub mod Answers
pub mod Faults
