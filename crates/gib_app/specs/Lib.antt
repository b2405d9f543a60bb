-- A table of contents: each group says what it is for; a file's first line says what it is.

-- What `run` and `local` promise, in the fewest words.
pub mod Headline
pub mod LocalHeadline
pub mod GenericText
-- What a job is given, and what it makes of it.
pub mod Rows
pub mod Formats
pub mod Jobs
pub mod Running
pub mod Packing
pub mod Cores
pub mod Replaying
pub mod Calls
pub mod Writes
-- Why sources and inputs are refused.
pub mod SourceFaults
pub mod InputFaults
-- Why a call ends as it does, its status and its line.
pub mod Causes
pub mod Ending
pub mod Lines
pub mod Codes
pub mod Statuses
-- What the parts of a call answer: stops.
pub mod Stops
pub mod Stopping
pub mod PassFaults
-- .. reads, a source, runs.
pub mod Readings
pub mod Kept
pub mod FromSource
pub mod Located
pub mod MachineRun
pub mod Remains
pub mod Imaging
pub mod Workers
-- .. writes.
pub mod FirstWrites
pub mod Performing
-- A trace and its replay.
pub mod Repeating
