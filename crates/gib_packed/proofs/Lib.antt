-- Bytes and heads in a store.
pub mod HoldsLemmas
pub mod Grow
pub mod HeadLemmas
pub mod HoldsAt
-- One value stands at an address, of one type.
pub mod Unique
pub mod Typed
pub mod Sets
-- Walks over what stands, and their ends.
pub mod Steps
pub mod Spans
pub mod SpanLemmas
pub mod WalkLemmas
pub mod FollowLemmas
pub mod WalkLaws
-- Packed fields, and the places that heads store.
pub mod FieldLemmas
pub mod StoredLemmas
-- For the tests.
pub mod Examples
