-- A table of contents: each group says what it is for; a file's first line says what it is.

-- The machine's state, and the order of arguments.
pub mod Turns
pub mod Running
-- As the code keeps it, and what it answers.
pub mod Stacks
pub mod Machines
pub mod Told
