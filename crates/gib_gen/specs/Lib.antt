-- A table of contents: each group says what it is for; a file's first line says what it is.

-- A made program and its input, and the line about its value.
pub mod NumberTree
pub mod Made
pub mod Summary
