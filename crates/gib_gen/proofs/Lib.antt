-- A table of contents: each group says what it is for; a file's first line says what it is.

-- The made program: its tree, that it is typed, what it means.
mod Program
mod ProgramTyped
mod Works
-- Its inputs, and the numbers of a value.
mod Growing
mod TotalOfTree
mod Feed
-- All of it, and descriptions of types.
mod Laws
pub mod Named
mod DescribedAlike
