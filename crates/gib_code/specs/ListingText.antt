-- The text of code.
use Rattle.std.specs.Prelude.{ℕ, ◌+◌, ◌==◌, if◌then◌else◌, List, [], ◌∷◌, ◌++◌, codes, slice_get, unwrap_or, Option, Some, None}
use Rattle.std.specs.List.{flat_map}
use Rattle.std.specs.Int.{w64, cast_signed}
use Rattle.std.specs.Fmt.{decimal, signed_decimal}
use Rattle.gib_base.specs.declared.name.Name.{Name}
use Rattle.gib_types.specs.Table.{Table, name_at}
use Rattle.gib_code.specs.declared.instruction.Operand.{Operand}
use Rattle.gib_code.specs.declared.instruction.Operand.TheVariants as o
use Rattle.gib_types.specs.declared.operator.Operator.{Operator}
use Rattle.gib_types.specs.declared.operator.Operator.TheVariants as f
use Rattle.gib_code.specs.declared.instruction.Kind.{Kind}
use Rattle.gib_code.specs.declared.instruction.Kind.TheVariants as k
use Rattle.gib_code.specs.declared.instruction.Arm.{Arm}
use Rattle.gib_code.specs.declared.instruction.Entry.{Entry}
use Rattle.gib_code.specs.Instruction as i
use Rattle.gib_code.specs.Instruction.{Instruction}
use Rattle.gib_code.specs.Program.{CodeTree}

-- Each part of a line comes behind a space (32); a line ends with a line feed (10).

-- The text of a name, by its number.
abbrev pub name_text : List (List ℕ) → ℕ → List ℕ
name_text names n = unwrap_or (slice_get names n) []

-- A number.
abbrev pub number_text : ℕ → List ℕ
number_text n = 32 ∷ decimal n

-- A slot is `%` (37) with its number.
abbrev pub slot_text : ℕ → List ℕ
slot_text n = 32 ∷ 37 ∷ decimal n

-- A slot, or a literal as a number; a truth value is 0 or 1.
abbrev pub operand_text : Operand → List ℕ
operand_text (o.Slot n) = slot_text n
operand_text (o.Number w) = 32 ∷ signed_decimal (cast_signed w64 w)

-- The word of an operation.
abbrev pub operation_text : Operator → List ℕ
operation_text f.Add = codes " add"
operation_text f.Subtract = codes " sub"
operation_text f.Multiply = codes " mul"
operation_text f.Equal = codes " eq"
operation_text f.Less = codes " lt"
operation_text f.Quotient = codes " quot"
operation_text f.Remainder = codes " rem"

-- The word for how a side's value is put.
abbrev pub kind_text : Kind → List ℕ
kind_text k.Here = codes " here"
kind_text k.Region = codes " region"
kind_text k.Scalar = codes " scalar"
kind_text k.Several = codes " several"

-- A constructor by its name.
abbrev pub constructor_text : List (List ℕ) → Table → ℕ → List ℕ
constructor_text names table c = 32 ∷ name_text names (name_at table c)

-- What a function is called: main has no name.
abbrev pub title : List (List ℕ) → Option Name → List ℕ
title names None = codes "main"
title names (Some f) = name_text names f.0

-- The name of a function; of a number that no function has, main.
abbrev pub called : Option Entry → Option Name
called None = None
called (Some e) = e.name

-- A function by what it is called.
abbrev pub function_text : List (List ℕ) → List Entry → ℕ → List ℕ
function_text names functions g = 32 ∷ title names (called (slice_get functions g))

-- The label of an arm.
abbrev pub label_text : Arm → List ℕ
label_text arm = number_text arm.label

-- The text of an instruction.
abbrev pub instruction_text : List (List ℕ) → CodeTree → Instruction → List ℕ
instruction_text names code (i.Move d v) = codes " move" ++ (slot_text d ++ operand_text v)
instruction_text names code (i.Operate d g v w) = operation_text g ++ (slot_text d ++ (operand_text v ++ operand_text w))
instruction_text names code (i.Jump l) = codes " jump" ++ number_text l
instruction_text names code (i.Unless v l) = codes " unless" ++ (operand_text v ++ number_text l)
instruction_text names code (i.Switch x arms) = codes " switch" ++ (slot_text x ++ flat_map label_text arms)
instruction_text names code (i.Whole d x p) = codes " whole" ++ (slot_text d ++ (slot_text x ++ number_text p))
instruction_text names code (i.Truth d x p) = codes " truth" ++ (slot_text d ++ (slot_text x ++ number_text p))
instruction_text names code (i.First d x p) = codes " first" ++ (slot_text d ++ (slot_text x ++ number_text p))
instruction_text names code (i.Offset d x p) = codes " offset" ++ (slot_text d ++ (slot_text x ++ number_text p))
instruction_text names code (i.Skip d y) = codes " skip" ++ (slot_text d ++ slot_text y)
instruction_text names code (i.Begin d) = codes " begin" ++ slot_text d
instruction_text names code i.Done = codes " done"
instruction_text names code (i.Here d) = codes " here" ++ slot_text d
instruction_text names code (i.Past h c) = codes " past" ++ (slot_text h ++ constructor_text names code.laid.table c)
instruction_text names code (i.Fill h c ss ps) =
    codes " fill" ++ (slot_text h ++ (constructor_text names code.laid.table c ++ (flat_map operand_text ss ++ flat_map slot_text ps)))
instruction_text names code (i.Point x) = codes " point" ++ slot_text x
instruction_text names code (i.Call g ss) = codes " call" ++ (function_text names code.functions g ++ flat_map operand_text ss)
instruction_text names code (i.CallScalar d g ss) = codes " callv" ++ (slot_text d ++ (function_text names code.functions g ++ flat_map operand_text ss))
instruction_text names code i.Return = codes " ret"
instruction_text names code (i.Give v) = codes " give" ++ operand_text v
instruction_text names code (i.Fork r j kind xs result) = codes " fork" ++ (number_text r ++ (number_text j ++ (kind_text kind ++ flat_map slot_text xs)))
instruction_text names code i.Join = codes " join"
instruction_text names code i.Back = codes " back"
instruction_text names code (i.Got z k) = codes " got" ++ (slot_text z ++ number_text k)
instruction_text names code (i.OverEnd x y) = codes " over" ++ (slot_text x ++ slot_text y)
instruction_text names code (i.LeafEnd x k) = codes " leafend" ++ (slot_text x ++ number_text k)
instruction_text names code (i.EndOf d z) = codes " end" ++ (slot_text d ++ slot_text z)
instruction_text names code (i.Into n k) = codes " into" ++ number_text n
instruction_text names code (i.Out n k) = codes " out"
instruction_text names code (i.GiveParts ss) = codes " gives" ++ flat_map operand_text ss
instruction_text names code (i.Part d n) = codes " part" ++ (slot_text d ++ number_text n)

-- The line of an instruction: its number, and its text.
abbrev pub line_text : List (List ℕ) → CodeTree → ℕ → Instruction → List ℕ
line_text names code n x = decimal n ++ (instruction_text names code x ++ 10 ∷ [])

-- The line of a function: what it is called, and its number of slots.
abbrev pub head_text : List (List ℕ) → Entry → List ℕ
head_text names g = title names g.name ++ (number_text g.slots ++ 10 ∷ [])

-- Where the next function begins at an instruction, its line comes before this.
abbrev pub head_at : List (List ℕ) → ℕ → List Entry → List ℕ
head_at names n [] = []
head_at names n (g ∷ gs) = if g.start == n then head_text names g else []

-- The functions that begin later.
abbrev pub later_than : ℕ → List Entry → List Entry
later_than n [] = []
later_than n (g ∷ gs) = if g.start == n then gs else g ∷ gs

-- The lines of instructions from the number n on, with those of the functions that begin there.
abbrev pub lines_text : List (List ℕ) → CodeTree → ℕ → List Entry → List Instruction → List ℕ
lines_text names code n gs [] = []
lines_text names code n gs (x ∷ xs) = head_at names n gs ++ (line_text names code n x ++ lines_text names code (n + 1) (later_than n gs) xs)

-- The text of code, with the names by their numbers.
abbrev pub listing_text : List (List ℕ) → CodeTree → List ℕ
listing_text names code = lines_text names code 0 code.functions code.instructions
