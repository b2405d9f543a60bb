-- Walks and what they have left.
pub mod LeftLemmas
pub mod Running
pub mod Walked
pub mod BackLemmas
-- Values in pieces, and the buffers that hold them.
pub mod CutLemmas
pub mod PieceLemmas
pub mod GatheredLemmas
pub mod RootLemmas
