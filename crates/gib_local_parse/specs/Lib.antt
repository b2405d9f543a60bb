-- A table of contents; a file's first line says what it is.

-- Terms and texts as trees, how they are spelled and read, and where what is no text is refused.
pub mod Tree
pub mod Grammar
pub mod Texts
pub mod Placed
pub mod PlacedTexts
pub mod Refused
pub mod Stepping
-- As the code keeps them.
pub mod LineArena
pub mod LineLaws
pub mod TextParts
pub mod Sources
pub mod ReadingTerms
pub mod ReadingBodies
