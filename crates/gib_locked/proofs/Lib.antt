-- Texts, numbers and lines.
pub mod CutLemmas
pub mod Numbers
pub mod LineTexts
pub mod NextLines
pub mod HeadTexts
-- Journals: their lines, and what reading one finds.
pub mod JournalLines
pub mod LinesKeep
pub mod ReadEvents
pub mod ReadJournal
pub mod OneRefusal
-- Runs, and what their events lead to.
pub mod Runs
pub mod Happening
pub mod OneEnd
