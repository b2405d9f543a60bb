-- A table of contents; a file's first line says what it is.

-- A core as a tree, and which cores have a text.
pub mod Printing
pub mod HasText
-- The bytes of a core's text, and its tokens in the groups in which they are put.
pub mod LocatedText
pub mod LineTokens
-- Which cores have one, by their form; which sources become such.
pub mod HasShape
pub mod HasForm
pub mod Covered
