-- The walk's steps and loops.
pub mod Finding
pub mod Making
pub mod FieldSteps
pub mod Calls
pub mod Parting
pub mod Cases
pub mod Arms
pub mod Programs
-- The declared types, and what a core that was made means.
pub mod TypesKnown
pub mod Kept
pub mod Fits
pub mod Together
pub mod Places
pub mod Same
pub mod Tuples
pub mod Meanings
pub mod Whole
-- Variables rise, and what is left of what was made.
pub mod Ordered
pub mod Left
pub mod Numbered
-- What was made breaks no build rule.
pub mod Ready
pub mod Sides
pub mod Rising
pub mod Makes
pub mod Branching
pub mod Severals
pub mod Choosing
pub mod Reachability
