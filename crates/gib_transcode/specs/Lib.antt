-- A table of contents: each group says what it is for; a file's first line says what it is.

-- What stands at the front of a text, and what is left of a value behind it.
pub mod Fronts
pub mod Going
pub mod Rooms
