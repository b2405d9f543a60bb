-- What is found by numbers and by searches.
pub mod FoundLemmas
pub mod Searching
pub mod Telling
pub mod Scoping
-- Lines, branches and bodies, one behind another.
pub mod Judges
pub mod Lining
pub mod Arms
pub mod Branching
pub mod Walking
pub mod Entered
pub mod Parting
pub mod OneBody
-- Which rule is answered.
pub mod Smallest
pub mod Answering
