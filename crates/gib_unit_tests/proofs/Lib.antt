-- A table of contents: each group says what it is for; a file's first line says what it is.

-- The tables for tests keep the rules of a table.
mod SampleLemmas
mod WideSample
