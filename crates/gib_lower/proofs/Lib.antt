-- Lists, and where code stands.
pub mod Lists
pub mod Standing
pub mod Named
-- The code of a line and of a core.
pub mod Along
pub mod Lowers
pub mod Wholes
-- Results of several parts.
pub mod PartMoves
-- Ends that calls tell.
pub mod TellingLine
pub mod Tellings
