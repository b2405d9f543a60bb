-- A table of contents: each group says what it is for; a file's first line says what it is.

-- The pass: fields are placed, variables numbered anew, and the source stays the same.
pub mod Placing
pub mod Renaming
pub mod Numbering
pub mod SameSource
-- As the code keeps it.
pub mod Numbered
pub mod Late
pub mod Filled
pub mod Shifting
pub mod Made
