-- Worked runs: a tree's leaves get 1 more, and the right side is stolen; a side has no depth left, or divides by 0, and
-- the other one ends.
use Rattle.std.specs.Prelude.{List, ◌+◌, ◌-◌, ◌^◌, ◌++◌, pos}
use Rattle.std.specs.Int.{w64, from_le_bytes}
use Rattle.std.proofs.Common.{Some, None, ◌≡◌, ℕ, zero, suc, true, [], ◌∷◌, slice_get, refl}
use Rattle.gib_types.specs.declared.table.Ty.TheVariants.{Whole}
use Rattle.gib_mem.specs.Memory.{sole, Store, Memory, Cell, absent, fresh, byte, after_puts, after_draw}
use Rattle.gib_code.specs.declared.instruction.AnswerType.TheVariants as of
use Rattle.gib_code.specs.declared.instruction.Kind.TheVariants as at
use Rattle.gib_code.specs.declared.instruction.Operand.TheVariants.{Slot, Number}
use Rattle.gib_types.specs.declared.operator.Operator.TheVariants.{Add, Less, Quotient, Remainder, Subtract}
use Rattle.gib_code.specs.declared.answer.Answer.TheVariants as answer
use Rattle.gib_types.specs.declared.reason.Reason.TheVariants as reason
use Rattle.gib_code.specs.Instruction as i
use Rattle.gib_code.specs.Program.{CodeTree}
use Rattle.gib_machine.specs.State.{Ask, Silent, Get, Put, Draw, AtFork, AtJoin, Ended}
use Rattle.gib_machine.specs.Machine.{operated}
use Rattle.gib_machine.specs.Sides.{left_starts, right_of, side_start, joins, takes}
use Rattle.gib_weave.specs.Weave.{Waits, Runs, Running, Weave, task, moved, with_sides, asks, weave_start}
use Rattle.gib_weave.specs.Example as example
use Rattle.gib_weave.specs.Worked.{code, core, loaded, table}
use Rattle.gib_core.specs.Tree.{CoreTree}

abbrev pub byte_of : Cell → ℕ
byte_of absent = 0
byte_of fresh = 0
byte_of (byte b) = b

-- so many bytes from a on
abbrev pub bytes_of : Store → ℕ → ℕ → List ℕ
bytes_of s a zero = []
bytes_of s a (suc n) = byte_of (s a) ∷ bytes_of s (a + 1) n

abbrev pub act : Weave → ℕ → Ask → Weave
act w n (Silent m) = moved w w.memory n m
act w n (Get a more k) = moved w w.memory n (k (from_le_bytes w64 (bytes_of w.memory.cells a (suc more))))
act w n (Put a b bs m) = moved w (after_puts w.memory a (b ∷ bs)) n m
act w n (Draw k) = moved w (after_draw w.memory w.memory.drawn) n (k w.memory.drawn)
act w n AtFork = w
act w n AtJoin = w
act w n (Ended a) = w

-- So many steps of task n.
abbrev pub steps : CodeTree → ℕ → ℕ → Weave → Weave
steps p n zero w = w
steps p n (suc m) w = steps p n m (act w n (asks p w n))

-- How many of so many micro-steps task n can make before it stands at a fork, a join or its end.
abbrev is_made : Ask → ℕ
is_made (Silent m) = 1
is_made (Get a more k) = 1
is_made (Put a b bs m) = 1
is_made (Draw k) = 1
is_made AtFork = 0
is_made AtJoin = 0
is_made (Ended a) = 0

abbrev made : CodeTree → ℕ → ℕ → Weave → ℕ
made p n zero w = 0
made p n (suc m) w = is_made (asks p w n) + made p n m (act w n (asks p w n))

abbrev w0 : Weave
w0 = weave_start core code loaded 0 10000 4 (27 ∷ [])

-- Seven: where the offset and the whole of main's input stand, and the fork.
pub to_fork : made code 0 40 w0 ≡ 7
to_fork = refl

pub at_fork : asks code (steps code 0 7 w0) 0 ≡ AtFork
at_fork = refl

abbrev fork : CodeTree → Weave → Weave
fork p w = with_sides w 0 (left_starts (task w.tasks 0).state (slice_get p.instructions (task w.tasks 0).state.ip)) (Waits (right_of (task w.tasks 0).state (slice_get p.instructions (task w.tasks 0).state.ip)) ∷ [])

abbrev w1 : Weave
w1 = steps code 0 7 w0

-- The fork of the root, whose right side is then the task 1.
abbrev stolen : CodeTree → Weave → Weave
stolen p w = record { memory = w.memory; tasks = record { state = (task (fork p w).tasks 0).state; sides = Runs 1 ∷ []; stage = Running } ∷ record { state = side_start p (right_of (task w.tasks 0).state (slice_get p.instructions (task w.tasks 0).state.ip)); sides = []; stage = Running } ∷ [] }

abbrev w2 : Weave
w2 = stolen code w1

abbrev w3 : Weave
w3 = steps code 1 13 w2

pub to_side_end : made code 1 40 w2 ≡ 13
to_side_end = refl

pub side_ends : asks code w3 1 ≡ Ended (answer.At 4096)
side_ends = refl

abbrev w4 : Weave
w4 = steps code 0 11 w3

pub to_join : made code 0 40 w3 ≡ 11
to_join = refl

pub at_join : asks code w4 0 ≡ AtJoin
at_join = refl

abbrev met : Weave
met = with_sides w4 0 (joins (task w4.tasks 0).state (answer.At 4096)) []

pub to_end : made code 0 40 met ≡ 6
to_end = refl

abbrev w5 : Weave
w5 = steps code 0 6 met

pub root_ends : asks code w5 0 ≡ Ended (answer.At 27)
root_ends = refl

-- the leaf 3 stands at 4096; an indirection to it at 45; the offset is 45; two chunks
pub leaf : w5.memory.cells 4097 ≡ byte 3
leaf = refl

pub pointed : w5.memory.cells 45 ≡ byte 254
pointed = refl

pub pointed_to : w5.memory.cells 47 ≡ byte 16
pointed_to = refl

pub offset : w5.memory.cells 28 ≡ byte 45
offset = refl

pub chunks : w5.memory.drawn ≡ 2
chunks = refl

-- The same where the right side is taken: all stands in one chunk.

abbrev take : Weave → Weave
take w = with_sides w 0 (takes (task w.tasks 0).state) []

abbrev w6 : Weave
w6 = steps code 0 16 (take (steps code 0 11 (fork code w1)))

pub to_taken : made code 0 40 (fork code w1) ≡ 11
to_taken = refl

pub to_taken_end : made code 0 40 (take (steps code 0 11 (fork code w1))) ≡ 16
to_taken_end = refl

pub taken_ends : asks code w6 0 ≡ Ended (answer.At 27)
taken_ends = refl

pub taken_leaf : w6.memory.cells 46 ≡ byte 3
taken_leaf = refl

pub taken_fresh : w6.memory.cells 54 ≡ fresh
taken_fresh = refl

pub taken_chunks : w6.memory.drawn ≡ 1
taken_chunks = refl

-- In place, with no level left: no fork, and the same bytes.

pub to_sequential_end : made code 0 60 (weave_start core code loaded 0 10000 0 (27 ∷ [])) ≡ 36
to_sequential_end = refl

abbrev w7 : Weave
w7 = steps code 0 36 (weave_start core code loaded 0 10000 0 (27 ∷ []))

pub placed_ends : asks code w7 0 ≡ Ended (answer.At 27)
placed_ends = refl

-- With one call, the left side has none left: the task stands at the join, and ends once its side is dropped.

abbrev w8 : Weave
w8 = steps code 0 2 (fork code (steps code 0 7 (weave_start core code loaded 0 1 4 (27 ∷ []))))

pub unwinds : asks code w8 0 ≡ AtJoin
unwinds = refl

pub dropped : asks code (take w8) 0 ≡ Ended (answer.NoValue reason.Deep)
dropped = refl

-- Both sides of main's fork count down, the left one from 5 and the right one, which is stolen, from 1.

abbrev counts_down : CodeTree
counts_down = record {
  laid = record { table = table; with_offsets = [] };
  instructions =
      i.Operate 1 Less (Slot 0) (Number 1) ∷ i.Unless (Slot 1) 3 ∷ i.Give (Number 0) ∷ i.Operate 2 Subtract (Slot 0) (Number 1) ∷ i.CallScalar 3 0 (Slot 2 ∷ []) ∷ i.Give (Slot 3)
      ∷ i.Fork 9 11 at.Scalar (2 ∷ []) (of.One Whole) ∷ i.CallScalar 1 0 (Number 5 ∷ []) ∷ i.Join ∷ i.CallScalar 2 0 (Number 1 ∷ []) ∷ i.Back ∷ i.Operate 3 Add (Slot 1) (Slot 2) ∷ i.Give (Slot 3) ∷ [];
  functions = record { name = Some (record { 0 = 0 }); start = 0; slots = 4; result = of.One Whole } ∷ record { name = None; start = 6; slots = 4; result = of.One Whole } ∷ [];
}

abbrev counting : CoreTree
counting = record core { main = record { parameter = Whole; result = Whole; body = example.body } }

abbrev nothing_drawn : Memory
nothing_drawn = record { cells = λ q. absent; drawn = 0; share = 0; limit = 1024; alone = true; holder = sole }

-- The right side has ended, and the root stands at the join.
abbrev apart : ℕ → ℕ → Weave
apart depth n = steps counts_down 0 n (steps counts_down 1 10 (stolen counts_down (weave_start counting counts_down nothing_drawn 0 depth 4 [])))

-- With three calls the left side has none left, and the root ends without a value, though the right side has one.
pub right_ends : asks counts_down (apart 3 0) 1 ≡ Ended (answer.Whole (pos 0))
right_ends = refl

pub left_unwinds : asks counts_down (apart 3 13) 0 ≡ AtJoin
left_unwinds = refl

abbrev joined : Weave → Weave
joined w = with_sides w 0 (joins (task w.tasks 0).state (answer.Whole (pos 0))) []

pub root_unwinds : asks counts_down (joined (apart 3 13)) 0 ≡ Ended (answer.NoValue reason.Deep)
root_unwinds = refl

-- With six it ends with a value.
pub left_ends : asks counts_down (apart 6 29) 0 ≡ AtJoin
left_ends = refl

pub root_counted : asks counts_down (steps counts_down 0 2 (joined (apart 6 29))) 0 ≡ Ended (answer.Whole (pos 0))
root_counted = refl

-- A division by 0 beside a call that is too deep: the left side's reason is answered, though the right side, which is stolen, ended first.

abbrev dividing : CoreTree
dividing = record counting { functions = counting.functions ++ counting.functions }

abbrev divides : (left right : i.Instruction) → CodeTree
divides left right = record {
  laid = record { table = table; with_offsets = [] };
  instructions =
      i.Operate 1 Less (Slot 0) (Number 1) ∷ i.Unless (Slot 1) 3 ∷ i.Give (Number 0) ∷ i.Operate 2 Subtract (Slot 0) (Number 1) ∷ i.CallScalar 3 0 (Slot 2 ∷ []) ∷ i.Give (Slot 3)
      ∷ i.Operate 1 Quotient (Number 1) (Slot 0) ∷ i.Give (Slot 1)
      ∷ i.Fork 11 13 at.Scalar (2 ∷ []) (of.One Whole) ∷ left ∷ i.Join ∷ right ∷ i.Back ∷ i.Operate 3 Add (Slot 1) (Slot 2) ∷ i.Give (Slot 3) ∷ [];
  functions = record { name = Some (record { 0 = 0 }); start = 0; slots = 4; result = of.One Whole } ∷ record { name = Some (record { 0 = 1 }); start = 6; slots = 2; result = of.One Whole } ∷ record { name = None; start = 8; slots = 4; result = of.One Whole } ∷ [];
}

abbrev traps_left : CodeTree
traps_left = divides (i.CallScalar 1 1 (Slot 0 ∷ [])) (i.CallScalar 2 0 (Number 5 ∷ []))

abbrev traps_right : CodeTree
traps_right = divides (i.CallScalar 1 0 (Number 5 ∷ [])) (i.CallScalar 2 1 (Slot 0 ∷ []))

abbrev apart_left : Weave
apart_left = steps traps_left 0 2 (steps traps_left 1 13 (stolen traps_left (weave_start dividing traps_left nothing_drawn 0 3 4 [])))

pub right_deep : asks traps_left apart_left 1 ≡ Ended (answer.NoValue reason.Deep)
right_deep = refl

pub left_traps : asks traps_left apart_left 0 ≡ AtJoin
left_traps = refl

pub root_traps : asks traps_left (with_sides apart_left 0 (joins (task apart_left.tasks 0).state (answer.NoValue reason.Deep)) []) 0 ≡ Ended (answer.NoValue reason.Trap)
root_traps = refl

abbrev apart_right : Weave
apart_right = steps traps_right 0 13 (steps traps_right 1 2 (stolen traps_right (weave_start dividing traps_right nothing_drawn 0 3 4 [])))

pub right_traps : asks traps_right apart_right 1 ≡ Ended (answer.NoValue reason.Trap)
right_traps = refl

pub root_deep : asks traps_right (with_sides apart_right 0 (joins (task apart_right.tasks 0).state (answer.NoValue reason.Trap)) []) 0 ≡ Ended (answer.NoValue reason.Deep)
root_deep = refl

-- So it is in place, with no level left, where the right side never begins.
pub traps_in_place : asks traps_left (steps traps_left 0 3 (weave_start dividing traps_left nothing_drawn 0 3 0 [])) 0 ≡ Ended (answer.NoValue reason.Trap)
traps_in_place = refl

pub deep_in_place : asks traps_right (steps traps_right 0 14 (weave_start dividing traps_right nothing_drawn 0 3 0 [])) 0 ≡ Ended (answer.NoValue reason.Deep)
deep_in_place = refl

-- The least number by -1: the quotient wraps, and nothing is left.
pub least_quot : operated Quotient (2 ^ 63) (2 ^ 64 - 1) ≡ 2 ^ 63
least_quot = refl

pub least_rem : operated Remainder (2 ^ 63) (2 ^ 64 - 1) ≡ 0
least_rem = refl

-- Of -7 by 2 the quotient is -3 and -1 is left; of 7 by -2 it is -3, and 1 is left.
pub quot_cuts : operated Quotient (2 ^ 64 - 7) 2 ≡ 2 ^ 64 - 3
quot_cuts = refl

pub rem_is_negative : operated Remainder (2 ^ 64 - 7) 2 ≡ 2 ^ 64 - 1
rem_is_negative = refl

pub quot_by_negative : operated Quotient 7 (2 ^ 64 - 2) ≡ 2 ^ 64 - 3
quot_by_negative = refl

pub rem_is_positive : operated Remainder 7 (2 ^ 64 - 2) ≡ 1
rem_is_positive = refl
