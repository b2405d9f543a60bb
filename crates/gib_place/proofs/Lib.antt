-- Variables numbered anew: their numbers, nodes and lines with other ones.
pub mod Positions
pub mod Places
pub mod Shifted
pub mod Renames
pub mod Lines
-- The walk's steps: the clock, spots, and lines that are laid.
pub mod Timing
pub mod Neighbours
pub mod Cutting
pub mod Found
pub mod Lays
pub mod Counts
pub mod Fitting
pub mod Onward
pub mod Making
pub mod Programs
-- What is placed means the same, and is left the same.
pub mod Means
pub mod Erased
pub mod Sources
pub mod Cores
-- What is placed breaks no build rule.
pub mod Wider
pub mod Scopes
pub mod Weaken
pub mod Kept
pub mod Ended
pub mod Built
