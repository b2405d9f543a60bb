-- A table of contents: each group says what it is for; a file's first line says what it is.

-- What a frame was made for, what comes to it, and the slot in which it comes.
pub mod Dues
pub mod Answers
pub mod Slot
pub mod TaskParts
