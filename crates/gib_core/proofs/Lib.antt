-- Terms in an arena: layers, lines, and what is put behind or in front.
pub mod Layers
pub mod Lining
pub mod Fronting
pub mod Inside
pub mod Marks
-- The types of several parts.
pub mod Eight
-- The walk on terms, terms changed place by place, and cores whose bodies are made anew.
pub mod Walks
pub mod Alike
pub mod Maps
pub mod Remade
-- What a body says of variables, and how often it uses them.
pub mod Mentioning
pub mod Listed
pub mod Tallied
-- Texts of cores.
mod Spelling
pub mod Indented
-- Meanings of cores, and of what is left of them; what they cost.
pub mod Agreeing
pub mod Envs
pub mod Erases
pub mod Left
pub mod Adding
pub mod Rising
-- Truth values, types and judgements; lines one behind another.
pub mod Facts
pub mod Along
pub mod After
mod Later
mod Unused
pub mod Cased
pub mod Unbroken
pub mod Runs
pub mod Orders
-- To reach the fields of arms keeps the build rules.
mod Skipped
pub mod Kept
mod Awaits
mod Offered
mod Onward
pub mod Outside
pub mod Suited
mod Reached
pub mod PastReaches
-- Parameters whose ends are known.
mod Settles
mod Greatest
pub mod EndedSame
mod EndedNumbers
mod LastPacked
mod KnownLine
mod Promise
mod Owing
-- What meets the build rules fits the machine.
mod Vars
pub mod Dests
mod Entering
mod Severals
mod Covering
mod Fitted
pub mod BuiltFacts
pub mod Builds
mod Bodies
pub mod Fine
-- Functions by their names and types; the one code of a core.
mod FirstNamed
pub mod Signatures
pub mod TypesKnown
mod FunctionCode
pub mod OneCode
pub mod LiteralTerms
