-- A table of contents: each group says what it is for; a file's first line says what it is.

-- The copy is typed and means what the program means: expressions first.
pub mod Bindings
pub mod Scopes
pub mod Covering
pub mod Typing
pub mod Fine
pub mod Meaning
pub mod Putting
pub mod Running
-- .. then the walk, what it gives, and its table.
pub mod Closing
pub mod Copies
pub mod Asking
pub mod Here
pub mod Tables
-- .. then all of it.
pub mod Apart
pub mod Whole
pub mod Counts
pub mod Theorem
-- Names of copies, and values as they are shown.
pub mod Names
pub mod Below
pub mod Called
pub mod TextsApart
pub mod Showing
-- A program without type parameters is its own copy.
pub mod OwnCopy
pub mod OwnWalk
pub mod OwnMeaning
pub mod OwnTyped
pub mod OwnPlaced
pub mod Bared
pub mod OwnValues
-- The search of the code, as the walk.
mod Keys
mod Steps
mod Read
mod Known
mod Seeking
mod Walking
mod Sourcing
mod Finding
mod Baring
mod Entered
mod Named
mod Plains
-- Its copies of expressions, declarations and the program.
mod InScene
mod Making
mod Meeting
pub mod Written
mod Declarations
mod Ending
