-- A table of contents: each group says what it is for; a file's first line says what it is.

-- The program's commands take the words.
mod Passing
mod Adding
mod Taking
-- What they ask for is there.
mod Filling
mod Asking
mod Entering
pub mod Forms
-- Numbers within their ranges.
mod Numbers
mod Ranges
