-- A table of contents: each group says what it is for; a file's first line says what it is.

-- The first rule that a program breaks, by its kind.
pub mod Faults
pub mod FirstFault
pub mod Kinds
-- What is known of a checked program: its expressions, arms and functions.
pub mod Checked
pub mod NodeFacts
pub mod Origins
pub mod ArmPlaces
-- What the code answers.
pub mod Answers
pub mod Refusals
-- What the check keeps: names, functions, what is in scope, types that were met.
pub mod NameViews
pub mod Views
pub mod Entries
pub mod Functions
pub mod InScope
pub mod Judging
-- Written types, word by word.
pub mod Knowing
pub mod ReadingSteps
