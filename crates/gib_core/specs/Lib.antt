-- A table of contents: each group says what it is for; a file's first line says what it is.

-- Cores: their terms, meaning and text, and what a run of one costs.
pub mod Tree
pub mod Meaning
pub mod CoreText
pub mod Cost
pub mod Tight
-- The way through a core.
pub mod Met
pub mod Walk
-- The passes: from the source, ends, reaching, counting, marking, numbers, and back to a source.
pub mod Inferring
pub mod Ending
pub mod Reaching
pub mod Counting
pub mod Mentioned
pub mod Marking
pub mod Numbering
pub mod Ordered
pub mod Erasing
-- The build rules: at terms, before fields are reached, and as a type; literals and types.
pub mod Rules
pub mod Reachable
pub mod Fits
pub mod Literals
pub mod TypesNamed
-- The code of a core.
pub mod Low
-- As the code keeps them: nodes by numbers, a core with its code, numbers at variables.
pub mod PartTypes
pub mod Arena
pub mod ArenaLaws
pub mod Parts
pub mod LoweredParts
pub mod ByVariable
pub mod Noted
pub mod EndedSet
pub mod NamedFunctions
-- Examples.
pub mod SampleCores
pub mod SamplePrograms
