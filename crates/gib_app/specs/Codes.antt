-- The exit status of the process for each status.
use Rattle.std.specs.Prelude.{ℕ}
use Rattle.gib_types.specs.declared.reason.Reason.{Reason}
use Rattle.gib_types.specs.declared.reason.Reason.TheVariants.{Deep, Trap}
use Rattle.gib_app.specs.declared.status.Status.{Status}
use Rattle.gib_app.specs.declared.status.Status.TheVariants.{Done, Source, Usage, NoValue, Full, Memory, ReadFault, WriteFault, Input, Long}

-- Where a program means no value, by the reason.
abbrev pub reason_code : Reason → ℕ
reason_code Deep = 3
reason_code Trap = 9

-- From 0 on to 10.
abbrev pub code_of : Status → ℕ
code_of Done = 0
code_of Source = 1
code_of Usage = 2
code_of (NoValue why) = reason_code why
code_of Full = 4
code_of Memory = 5
code_of ReadFault = 6
code_of WriteFault = 7
code_of Input = 8
code_of Long = 10
