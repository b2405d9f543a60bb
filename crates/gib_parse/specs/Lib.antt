-- A table of contents: each group says what it is for; a file's first line says what it is.

-- Reading a program's tokens, and what the parser's functions answer.
pub mod Reading
pub mod Parsing
pub mod OpenTypes
pub mod Answers
-- Which token is blamed where no program has these.
pub mod Nesting
pub mod Blaming
