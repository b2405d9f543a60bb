-- A table of contents: each group says what it is for; a file's first line says what it is.

-- Rules and typing: what is inferred is so, what is so is inferred, and which rule is broken.
pub mod Steps
pub mod Sound
mod States
pub mod Complete
mod KindLaws
-- .. for declarations and whole programs.
pub mod DataRules
pub mod Programs
-- The table of a typed program.
mod PlainRows
pub mod RowRules
mod TypedTables
-- Names and places: of declarations, functions, arms and variables.
pub mod Different
pub mod Places
mod Naming
mod NameRows
mod Numbering
mod ArmNames
mod ArmSteps
mod InScope
-- Types that are met, read and used.
pub mod Growing
mod SameNumber
mod Stacks
pub mod Read
pub mod KnownWords
mod UseTypes
-- The walk over expressions and bodies.
pub mod RowLists
pub mod Singles
pub mod Loops
pub mod Opening
mod Walking
mod Answering
mod BodySteps
-- The rules of declarations, and what is made of them.
mod Declaring
pub mod Making
-- What is known of each expression.
mod Passing
mod Had
mod Knowing
