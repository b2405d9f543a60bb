-- The fault of a stop, with its place in the text.
use Rattle.std.specs.Prelude.{ℕ, zero, suc, List}
use Rattle.gib_base.specs.declared.Span.{Span}
use Rattle.gib_base.specs.Lexed.{Lexed}
use Rattle.gib_syntax.specs.Spelling.{places_of}
use Rattle.gib_reads.specs.declared.fault.ParseFault.{ParseFault}
use Rattle.gib_reads.specs.declared.fault.ParseFault.TheVariants as fault
use Rattle.gib_reads.specs.declared.stop.Stop.{Stop}
use Rattle.gib_reads.specs.declared.stop.Stop.TheVariants as stop

-- The place of the token from which so many are left: its first byte; with none left, the text's length.
abbrev pub place_in : List Span → ℕ → ℕ → ℕ
place_in spans len zero = len
place_in spans len (suc k) = (places_of spans (suc k)).start

-- The same by what lexing made of the text.
abbrev pub place_of : Lexed → ℕ → ℕ
place_of l left = place_in l.spans l.len left

-- The fault of a stop.
abbrev pub fault_of : List Span → ℕ → Stop → ParseFault
fault_of spans len stop.Memory = fault.Memory
fault_of spans len (stop.At left) = fault.At (place_in spans len left)
fault_of spans len (stop.Nested left) = fault.Nested (place_in spans len left)
