-- A table of contents. Each group serves the theorems of `src` that its comment names; a file's first line says what it is.

-- Types found by their names.
pub mod Finding
-- For `made_is_numbered`, `made_is_natural`, `made_means`, `terms_are_counted`: what holds of all that is made.
pub mod Holding
pub mod Numbered
pub mod Naturals
pub mod Meaning
pub mod Counted
-- For `one_core_of_bytes`, `answered_is_local` and `texts_are_answered`; and what small texts make.
pub mod OneLocal
pub mod Samples
-- For the check of names: scopes, declarations, lines, bodies and whole texts.
pub mod NamesKept
pub mod ScopeNames
pub mod KnownNames
pub mod HeadNames
pub mod ArmNames
pub mod LineNames
pub mod BodyNames
pub mod DeclaredTables
pub mod TextNames
-- For the builder: what is in scope, its steps one by one and joined, and bodies.
pub mod Scoping
pub mod Adding
pub mod Joining
pub mod Siding
pub mod Forking
pub mod Binding
pub mod Sourcing
pub mod Bodying
-- For the count of terms, and for `local`.
pub mod Tallies
pub mod Telling
