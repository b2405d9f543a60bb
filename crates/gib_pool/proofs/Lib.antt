-- Lists, and the moves of a fork.
pub mod Settling
pub mod StackKeeps
pub mod Draining
-- Passes that are split, lent and taken back.
pub mod Paid
pub mod Lending
pub mod Offering
pub mod Passing
-- The words of all tasks together.
pub mod Together
pub mod Fitting
-- A worker's turns, forks and joins.
pub mod Beginnings
pub mod Turns
pub mod Standing
pub mod Standings
pub mod Joinings
-- Whose forks are stolen.
pub mod Thieves
