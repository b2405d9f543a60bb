-- Heads, where they go and what they store.
pub mod Heads
pub mod Spots
pub mod Rooms
-- Bytes that are put in parts, and what is noted in gaps.
pub mod Parts
pub mod Apart
pub mod Noting
pub mod Carrying
-- The loop that places them.
pub mod Resting
pub mod Steps
pub mod Going
pub mod Ends
-- What is placed stands, and what is refused needs more.
pub mod Sound
pub mod Overflow
