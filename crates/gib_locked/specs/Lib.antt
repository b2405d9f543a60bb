-- A table of contents: each group says what it is for; a file's first line says what it is.

-- A journal: settings, lines, its text, and what its events make of a weave.
pub mod Limits
pub mod Lines
pub mod JournalText
pub mod JournalReading
pub mod Replays
-- A run over the lock.
pub mod Choice
pub mod Run
pub mod Locked
-- Texts that are cut.
pub mod Cuts
