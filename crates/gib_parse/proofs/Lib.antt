-- The readers of the grammar, each with all its laws, and what the whole reader so is.
pub mod TypeLaws
pub mod ExpressionLaws
pub mod LevelLaws
pub mod ProgramLaws
pub mod WholeLaws
-- A given tree: what its tokens are read as, and where they stand.
pub mod Settle
pub mod ProgramSettle
pub mod WrittenComes
pub mod Come
pub mod Starts
pub mod Complete
pub mod ProgramComplete
-- Expressions that are nested too deep; the one fault of tokens; the whole.
pub mod Nested
pub mod Sunk
pub mod OneFault
pub mod Whole
pub mod Printed
-- The functions: loops as far as they have come, open types, calls, bodies.
pub mod PartsSoFar
pub mod Repeating
pub mod Opening
pub mod Calls
pub mod Behind
pub mod Bodies
pub mod Levels
pub mod ExpressionLoops
pub mod DeclarationsStay
pub mod Answered
