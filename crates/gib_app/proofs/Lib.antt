-- A table of contents: each group says what it is for; a file's first line says what it is.

-- Names of declarations and types.
mod SpelledNames
mod Held
mod NamedForms
mod LocatedNames
mod CopiesNamed
-- Sources: one program each, its copy, and one fault.
mod Compiling
mod Shown
mod Copied
mod SourceLaws
mod LocatedLaws
mod Dialects
mod OneProgram
-- Inputs: one fault each.
mod Signs
mod Refusals
mod InputLaws
-- What words ask for is made.
mod Settings
mod Targets
mod Fitting
-- Jobs: what they make, and where they stop.
mod Told
mod Doing
mod StopMaps
mod Stopped
mod Packs
mod Loads
mod Roots
mod Imaged
mod PackedRuns
mod Remaining
mod Summed
mod Decimals
-- .. over journals and workers.
mod Replays
mod Leading
mod JournalEnds
mod Repeats
-- From reads to writes.
pub mod Calling
mod AfterReads
mod Finishing
mod Making
mod Locating
mod Writing
mod FirstWriting
mod JobWriting
mod Performing
mod Staging
mod Answering
-- Why a call ends with a status: what is due is answered.
mod CallCauses
mod SameFiles
mod Results
mod OneEnd
mod EndsDone
mod EndsNone
mod EndsFull
mod EndsRefused
mod EndsMissing
mod EndsLong
mod Endings
-- What all of it promises of `run`, of `local`, and of a replay.
mod Headlines
mod LocalHeadlines
mod Repeating
