-- Names, stacks and arms.
pub mod Names
pub mod Stacks
mod ArmsFound
-- The machine's moves and steps.
pub mod Moves
pub mod InTurn
pub mod Runs
pub mod Steps
