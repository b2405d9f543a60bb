-- A table of contents: each group says what it is for; a file's first line says what it is.

-- The copy: which copies a program needs, what they are, how they are named and shown.
pub mod Bindings
pub mod Copying
pub mod Copied
pub mod Walk
pub mod Closed
pub mod Naming
pub mod Showing
pub mod Pieces
-- Beside it: types where they stand, and programs without type parameters.
pub mod Placed
pub mod Bare
-- What the laws and examples speak of.
pub mod Laws
pub mod Examples
-- As the code keeps it: what is asked for, by places and numbers.
pub mod Reading
pub mod Contexts
pub mod Sources
pub mod Found
pub mod Searching
pub mod Limits
-- .. and what is made of it.
pub mod Entries
pub mod Scenes
pub mod Made
pub mod Declaring
