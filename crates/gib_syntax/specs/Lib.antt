-- A table of contents: each group says what it is for; a file's first line says what it is.

-- Programs as trees: what they are, how they are spelled, which of them are typed, and what they mean.
pub mod Results
pub mod Tree
pub mod Naming
pub mod Spelling
pub mod Fine
pub mod Declarations
pub mod Typing
pub mod Meaning
pub mod Source
-- The same with type parameters.
pub mod Forms
pub mod Words
pub mod GenericTree
pub mod GenericTyping
pub mod Inferred
pub mod GenericMeaning
pub mod GenericFine
-- Programs in which each thing is one, and those without type parameters among those with some.
pub mod Single
pub mod Plain
-- Programs as the code keeps them: nodes that name each other by their numbers.
pub mod Arena
pub mod ArenaLaws
pub mod Parts
pub mod GenericArena
pub mod GenericLaws
pub mod GenericParts
-- How they are printed.
pub mod Printing
pub mod TypeTokens
