-- Which texts have no tokens, and why.
use Rattle.std.specs.Prelude.{◌<◌, ◌≤◌, ℕ, List, length}
use Rattle.gib_base.specs.declared.token.Dialect.{Dialect}
use Rattle.gib_base.specs.declared.token.Dialect.TheVariants.{Source}
use Rattle.gib_lex.specs.declared.fault.LexFault.{LexFault}
use Rattle.gib_lex.specs.declared.fault.LexFault.TheVariants as fault
use Rattle.gib_lex.specs.Faults.{IsStuckIn, IsBigIn, HasTooManyNamesIn}

-- The text is refused for this reason; want of memory is no reason that a text gives.
abbrev pub IsRefusedIn : Dialect → List ℕ → LexFault → Type 0
IsRefusedIn dialect bytes fault.Memory = ⊥
IsRefusedIn dialect bytes fault.Long = 1048576 < length bytes
IsRefusedIn dialect bytes (fault.At place) = (length bytes ≤ 1048576) × IsStuckIn dialect bytes place
IsRefusedIn dialect bytes (fault.Big place) = (length bytes ≤ 1048576) × IsBigIn dialect bytes place
IsRefusedIn dialect bytes fault.Many = (length bytes ≤ 1048576) × HasTooManyNamesIn dialect bytes

-- The same in a program.
abbrev pub IsRefused : List ℕ → LexFault → Type 0
IsRefused = IsRefusedIn Source
