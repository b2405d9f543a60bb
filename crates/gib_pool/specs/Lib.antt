-- A table of contents: each group says what it is for; a file's first line says what it is.

-- A worker at a task: what it knows and holds, its forks and frames.
pub mod Turn
pub mod Going
pub mod Lent
pub mod Stacks
pub mod Mine
pub mod Backs
pub mod Frames
pub mod Active
pub mod Forking
pub mod Offers
-- From whom it steals.
pub mod Victims
-- All tasks at once, and the end of a run.
pub mod Together
pub mod Runs
