-- A table of contents: each group says what it is for; a file's first line says what it is.

-- What words ask for: a plan.
pub mod Plan
pub mod Words
pub mod Ranges
-- The call without words, and a plan as the code keeps it.
pub mod Sample
pub mod Kept
