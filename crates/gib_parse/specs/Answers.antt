-- What parsing answers, by the tokens of a text, their spans and the text's length.
use Rattle.std.specs.Prelude.{◌≡◌, ℕ, [], Result, Ok, Err}
use Rattle.gib_base.specs.Lexed.{Lexed}
use Rattle.gib_syntax.specs.GenericTree.{GenericProgramTree}
use Rattle.gib_syntax.specs.Spelling.{places_of}
use Rattle.gib_syntax.specs.GenericParts.{GenericParts, generic_program_of}
use Rattle.gib_reads.specs.declared.fault.ParseFault.{ParseFault}
use Rattle.gib_reads.specs.declared.fault.ParseFault.TheVariants as fault
use Rattle.gib_parse.specs.Reading.{At, Nested, Read, whole}
pub use Rattle.gib_reads.specs.Faults.{place_in, place_of, fault_of}

-- What is read of the tokens.
abbrev pub read_of : Lexed → Read GenericProgramTree
read_of l = whole (places_of l.spans) l.tokens

-- Reading finds a token that may not stand at this place.
pub record IsRefusedAt (l : Lexed) (place : ℕ) : Type 0 where
  pub left : ℕ
  pub read : read_of l ≡ Err (At left)
  pub here : place ≡ place_of l left

-- Reading finds an expression nested too deep at this place.
pub record IsNestedAt (l : Lexed) (place : ℕ) : Type 0 where
  pub left : ℕ
  pub read : read_of l ≡ Err (Nested left)
  pub here : place ≡ place_of l left

-- The answer is what is read, unless memory ran out.
abbrev pub AnswersRead : Lexed → Result GenericParts ParseFault → Type 0
AnswersRead l (Ok p) = read_of l ≡ Ok (generic_program_of p, [])
AnswersRead l (Err fault.Memory) = Unit {0}
AnswersRead l (Err (fault.At place)) = IsRefusedAt l place
AnswersRead l (Err (fault.Nested place)) = IsNestedAt l place

-- This program is the answer, unless memory ran out.
abbrev pub AnswersOnly : Result GenericParts ParseFault → GenericProgramTree → Type 0
AnswersOnly (Ok p) g = generic_program_of p ≡ g
AnswersOnly (Err fault.Memory) g = Unit {0}
AnswersOnly (Err (fault.At place)) g = ⊥
AnswersOnly (Err (fault.Nested place)) g = ⊥

-- This fault is the answer, unless memory ran out.
abbrev pub AnswersFault : Result GenericParts ParseFault → ParseFault → Type 0
AnswersFault (Ok p) f = ⊥
AnswersFault (Err fault.Memory) f = Unit {0}
AnswersFault (Err (fault.At place)) f = fault.At place ≡ f
AnswersFault (Err (fault.Nested place)) f = fault.Nested place ≡ f
