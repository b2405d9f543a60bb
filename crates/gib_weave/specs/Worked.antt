-- Worked journals: data Tree = Leaf Int | Node Tree Tree, where Node has an offset, and a main that adds 1 to each leaf, both sides of a
-- node in a fork, on (Node (Leaf 1) (Leaf 2)).
use Rattle.std.specs.Prelude.{List, ℕ, zero, suc, Some, None, true, [], ◌∷◌}
use Rattle.gib_types.specs.declared.table.Ty.{Ty}
use Rattle.gib_types.specs.declared.table.Ty.TheVariants.{Whole, Tree}
use Rattle.gib_types.specs.Table.{Table}
use Rattle.gib_mem.specs.Memory.{sole, Memory, absent, after_puts, open_chunk}
use Rattle.gib_syntax.specs.Results as results
use Rattle.gib_core.specs.Tree.{CoreTree}
use Rattle.gib_code.specs.declared.instruction.AnswerType.TheVariants as of
use Rattle.gib_code.specs.declared.instruction.Kind.TheVariants as at
use Rattle.gib_code.specs.declared.instruction.Operand.TheVariants.{Slot, Number}
use Rattle.gib_types.specs.declared.operator.Operator.TheVariants.{Add}
use Rattle.gib_code.specs.Instruction as i
use Rattle.gib_code.specs.Program.{CodeTree}
use Rattle.gib_weave.specs.Weave.{Weave, Event, Step, Fork, Steal, Take, Finish, Join, weave_start}
use Rattle.gib_weave.specs.Example as example

-- Tree.
abbrev pub tree : Ty
tree = Tree (record { 0 = 0 })

-- Leaf and Node.
abbrev pub table : Table
table = record { types = 0 ∷ []; rows = record { name = 1; owner = 0; fields = Whole ∷ [] } ∷ record { name = 2; owner = 0; fields = tree ∷ tree ∷ [] } ∷ [] }

-- The code: the one function, and main, which calls it.
abbrev pub code : CodeTree
code = record {
  laid = record { table = table; with_offsets = 1 ∷ [] };
  instructions =
      i.Switch 0 (record { constructor = 0; label = 1 } ∷ record { constructor = 1; label = 6 } ∷ [])
      ∷ i.Whole 1 0 1 ∷ i.Operate 2 Add (Slot 1) (Number 1) ∷ i.Past 3 0 ∷ i.Fill 3 0 (Slot 2 ∷ []) [] ∷ i.Return
      ∷ i.First 4 0 9 ∷ i.Offset 5 0 1 ∷ i.Past 6 1 ∷ i.Fork 14 18 at.Here (8 ∷ []) (of.One tree) ∷ i.Here 7 ∷ i.Call 0 (Slot 4 ∷ []) ∷ i.Jump 13 ∷ i.Join
      ∷ i.Here 8 ∷ i.Call 0 (Slot 5 ∷ []) ∷ i.Jump 17 ∷ i.Back ∷ i.Fill 6 1 [] (7 ∷ 8 ∷ []) ∷ i.Return
      ∷ i.Call 0 (Slot 0 ∷ []) ∷ i.Return ∷ [];
  functions = record { name = Some (record { 0 = 0 }); start = 0; slots = 9; result = of.One tree } ∷ record { name = None; start = 20; slots = 1; result = of.One tree } ∷ [];
}

-- The input, and what is behind it in its chunk.
abbrev pub loaded : Memory
loaded = after_puts (record { cells = open_chunk (λ q. absent) 0; drawn = 1; share = 1; limit = 1024; alone = true; holder = sole }) 0
    (1 ∷ 18 ∷ 0 ∷ 0 ∷ 0 ∷ 0 ∷ 0 ∷ 0 ∷ 0 ∷ 0 ∷ 1 ∷ 0 ∷ 0 ∷ 0 ∷ 0 ∷ 0 ∷ 0 ∷ 0 ∷ 0 ∷ 2 ∷ 0 ∷ 0 ∷ 0 ∷ 0 ∷ 0 ∷ 0 ∷ 0 ∷ [])

-- A core of these types.
abbrev pub core : CoreTree
core = record example.core { functions = record { name = record { 0 = 0 }; parameters = tree ∷ []; result = results.One tree; body = example.body } ∷ [] }

-- The start, with so many levels of forks.
abbrev pub start : ℕ → Weave
start level = weave_start core code loaded 0 10000 level (27 ∷ [])

-- So many steps of a task, and then these events.
abbrev pub steps_then : ℕ → ℕ → List Event → List Event
steps_then i zero es = es
steps_then i (suc n) es = Step i ∷ steps_then i n es

-- The right side is stolen, and ends before the left one.
abbrev pub stolen : List Event
stolen = steps_then 0 7 (Fork 0 ∷ Steal 0 ∷ steps_then 1 13 (Finish 1 ∷ steps_then 0 11 (Join 0 ∷ steps_then 0 6 (Finish 0 ∷ []))))

-- The right side is taken.
abbrev pub taken : List Event
taken = steps_then 0 7 (Fork 0 ∷ steps_then 0 11 (Take 0 ∷ steps_then 0 16 (Finish 0 ∷ [])))

-- No level is left, so nothing is forked.
abbrev pub in_place : List Event
in_place = steps_then 0 36 (Finish 0 ∷ [])
