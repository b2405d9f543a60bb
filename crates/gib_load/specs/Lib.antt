-- A table of contents: each group says what it is for; a file's first line says what it is.

-- A value's heads, the lengths of its items, what heads store, and what is left where some are placed.
pub mod Preorder
pub mod Spot
pub mod Gaps
pub mod Rest
pub mod Runs
-- What loading makes of a memory, what then holds, and where it is refused.
pub mod Placement
pub mod Holding
pub mod Refusal
