-- A table of contents: each group says what it is for; a file's first line says what it is.

-- What is printed of a source, and the script of a call.
pub mod LocatedSource
pub mod LocatedScript
