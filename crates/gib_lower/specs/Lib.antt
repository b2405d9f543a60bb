-- A table of contents: each group says what it is for; a file's first line says what it is.

-- From a core to its code.
pub mod Lowering
-- As the code keeps it.
pub mod Sources
pub mod Numbers
pub mod Counting
pub mod Ends
