-- A table of contents: each group says what it is for; a file's first line says what it is.

-- For the heap: nodes are put behind others.
pub mod HeapLemmas
pub mod HeapMakes
-- For the text that is written.
pub mod WriteLemmas
pub mod Numbers
-- For the text that is read: one token, all tokens.
pub mod ReadNames
pub mod ReadClose
pub mod ReadTakes
pub mod ReadLoop
-- Which texts are read: those of values, each of one value.
pub mod Tokens
pub mod Complete
pub mod Agree
pub mod OneText
pub mod ReadText
