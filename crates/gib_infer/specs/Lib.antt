-- A table of contents: each group says what it is for; a file's first line says what it is.

-- What the walk leaves behind: of a body, and of a program.
pub mod Made
pub mod Bodies
