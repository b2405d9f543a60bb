-- A table of contents: each group says what it is for; a file's first line says what it is.

-- Which value stands at an address: scalars, heads, what a root stands for.
pub mod Scalars
pub mod Head
pub mod Decoding
pub mod Stands
-- Where redirects lead, how a walk goes, where fields stand.
pub mod Reaching
pub mod Walking
pub mod Fields
-- What the tests read.
pub mod Example
