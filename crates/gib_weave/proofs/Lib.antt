-- A table of contents. Each group serves the theorems of `src` that its comment names; a file's first line says what it is.

-- What all the others stand on: cells, functions changed at one place, stores that grow, places that are fresh, and memories.
pub mod Cells
pub mod Basics
pub mod Grow
pub mod Places
pub mod Memories
pub mod Groups
-- For `each_step_keeps`, what a term means and costs, and what is counted.
pub mod Uses
pub mod Counts
pub mod Costs
pub mod SideParts
-- .. how a frame's slots, lines and open regions go on.
pub mod Move
pub mod Sorts
pub mod Turns
pub mod EndWords
pub mod Tolds
pub mod Lines
pub mod Reordered
pub mod Filling
-- .. what is read of numbers, tags and values, and what is put for them.
pub mod Parts
pub mod Numbers
pub mod Readings
pub mod Scalars
pub mod Items
pub mod Writes
-- .. each kind of instruction, and all of them.
pub mod Ends
pub mod Opens
pub mod CallFrames
pub mod Binds
pub mod Indirects
pub mod Arms
pub mod Cases
pub mod Switches
pub mod Tuples
pub mod Comes
pub mod Gives
pub mod Severals
pub mod Forks
pub mod Joins
pub mod Telling
pub mod Step
-- For `the_root_is_sound` and `an_answer_stands`: the root's start, its bill and its answer.
pub mod Nests
pub mod Starts
pub mod Bills
pub mod Roots
-- For `each_call_of_step_keeps`: a call of the machine's step.
pub mod Calls
-- For `the_root_runs`, `run` and `root_machine`: the root alone, run to its end.
pub mod Mades
pub mod Standing
pub mod RootRuns
pub mod RootEnds
-- For `others_keep`: what other tasks do, and sides that another crate lends.
pub mod Others
pub mod ForkSides
-- For `each_event_keeps`: what stays of tasks and of what is said of them, where one task acts, and the events one by one.
pub mod Owning
pub mod Shares
pub mod Weaves
pub mod Acts
pub mod StepEvent
pub mod ForkEvent
pub mod StealEvent
pub mod TakeEvent
pub mod FinishEvent
pub mod JoinEvent
pub mod Events
-- For `a_start_is_sound`, `an_event_is_picked`, `an_enabled_event_applies`, `a_sound_weave_can_go`, `picks_are_enabled` and
-- `full_is_tight`: a weave that is sound goes on until its root has ended.
pub mod Applying
pub mod Progress
pub mod Going
pub mod Picks
pub mod Single
-- For `each_byte_is_put_once`.
pub mod Puts
-- For the calls of `Task`, `Tasks`, `OpenTasks` and `Weave`: what they leave and answer.
pub mod Newest
pub mod Narrow
pub mod Picking
pub mod Opening
pub mod Wovens
-- For `the_example_is_lowered_and_fits`, `a_core_with_ends_is_lowered_and_fits` and `the_worked_journals_are_legal`.
pub mod Example
pub mod Row
pub mod Journals
pub mod Sums
