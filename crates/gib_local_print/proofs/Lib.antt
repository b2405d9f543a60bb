-- A table of contents. Each group serves the theorems of `src` that its comment names; a file's first line says what it is.

-- For `printed_core_is_made`: names found again, what stands before a side, and terms, lines and whole cores.
pub mod World
pub mod Ready
pub mod Back
pub mod Whole
pub mod Returned
-- For `built_core_is_made` and `located_core_is_made`.
pub mod Written
pub mod Built
pub mod Having
pub mod NamedApart
pub mod DatasBack
-- For `passes_make_the_form`: what each pass does to the form of a core.
pub mod Shapes
pub mod TypedCovered
pub mod Inferred
pub mod Placing
pub mod Passes
pub mod KeptNaturals
pub mod Offsetting
-- For `formed_is_shaped` and `printed_core_is_single`.
pub mod Formed
pub mod SingleTexts
-- For the printer: the tokens of a line, and a text that is no name.
pub mod PutLines
pub mod NoNames
