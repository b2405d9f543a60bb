-- A table of contents: each group says what it is for; a file's first line says what it is.

-- For `TypeTable`: constructors by their numbers, types and names.
pub mod Owners
pub mod Indexes
pub mod Naming
pub mod Copied
-- For `Layouts`: heads, and how long they are.
pub mod LayoutLemmas
pub mod FieldLemmas
pub mod Counting
-- For `Types`: each type stands once.
pub mod Once
pub mod Same
pub mod Put
pub mod SameForms
