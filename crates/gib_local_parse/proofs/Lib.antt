-- A table of contents. Each group serves the theorems of `src` that its comment names; a file's first line says what it is.

-- For `text_is_read`, `one_tree` and `one_text`: what a term or a text spells is read as it.
pub mod Reading
pub mod TextsRead
-- For all that is said of what is refused: what the grammar asks wherever a text stands, and each reader with all its laws.
pub mod Asked
pub mod Anywhere
pub mod PhraseLaws
pub mod TermLaws
pub mod LevelLaws
pub mod TextLaws
-- .. and so for `read_is_text`, `refused_is_blamed`, `refused_is_first` and `levels_count_where_nested`: what the whole reader is.
pub mod WholeLaws
-- For `refused_word`: words one at a time.
pub mod Stepping
-- The functions: terms in their arena, calls, and loops as far as they have come.
pub mod Layers
pub mod Calls
pub mod ArmLoops
pub mod DeclarationLoops
