-- The walk's steps: the clock, plans of lines, lines and arms.
pub mod Fronting
pub mod Stamping
pub mod Walking
pub mod Plans
mod UsesLine
pub mod Lining
pub mod Arms
pub mod Tuples
pub mod Programs
-- What it keeps of a core.
pub mod Reaches
pub mod Numbered
mod StoredWhereRead
-- For the tests.
pub mod Sample
