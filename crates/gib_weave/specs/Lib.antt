-- A table of contents: each group says what it is for; a file's first line says what it is.

-- What a task knows, has and owes: its frame, what is to be done, and the count of chunks.
pub mod Environment
pub mod EndWords
pub mod Bound
pub mod Groups
pub mod Continuing
pub mod Owing
pub mod Paying
pub mod Places
pub mod Stacks
pub mod Sound
-- The root: where it starts, its turns, its run.
pub mod Starting
pub mod Root
pub mod Calling
pub mod Running
-- Tasks over one memory, and their events.
pub mod Weave
pub mod Applied
pub mod Woven
pub mod Bytes
-- Worked examples.
pub mod Example
pub mod Worked
pub mod Summing
