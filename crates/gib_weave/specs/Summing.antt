-- A worked run by ends: data Tree = Leaf Int | Node Tree Tree, where nothing has an offset, and a function that sums up the leaves. It
-- reaches the second field where the call on the first one says that it ends, and tells its caller where the tree ends.
use Rattle.std.specs.Prelude.{ℕ, true, Some, None, List, [], ◌∷◌}
use Rattle.gib_base.specs.declared.name.Name.{Name}
use Rattle.gib_types.specs.declared.table.Ty.TheVariants.{Whole}
use Rattle.gib_types.specs.declared.operator.Operator.TheVariants as o
use Rattle.gib_mem.specs.Memory.{sole, Memory, absent, after_puts, open_chunk}
use Rattle.gib_core.specs.declared.atom.Kind.TheVariants as kind
use Rattle.gib_core.specs.declared.atom.Access.TheVariants as by
use Rattle.gib_syntax.specs.Results as results
use Rattle.gib_core.specs.Tree.{Term, Then, Give, CallTerm, CaseTerm, One, Prim, Reach, On, NoBranch, BranchThen, FunctionTerm, CoreTree, var}
use Rattle.gib_code.specs.declared.instruction.AnswerType.TheVariants as of
use Rattle.gib_code.specs.declared.instruction.Operand.TheVariants.{Slot}
use Rattle.gib_types.specs.declared.operator.Operator.TheVariants.{Add}
use Rattle.gib_code.specs.Instruction as i
use Rattle.gib_code.specs.Program.{CodeTree}
use Rattle.gib_weave.specs.Example.{v, k}
use Rattle.gib_weave.specs.Weave.{Weave, Event, Finish, weave_start}
use Rattle.gib_weave.specs.Worked.{table, tree, steps_then}

-- The function's name.
abbrev pub sum : Name
sum = record { 0 = 0 }

-- Leaf n gives n.
abbrev pub leaf_arm : Term
leaf_arm = Give (var 1)

-- Node l r gives the sum of l's sum and r's.
abbrev pub node_arm : Term
node_arm = Then (One (On kind.Scalar (v 4) Whole (CallTerm sum (var 2 ∷ [])))) (Then (Reach (v 3) (by.End (v 2))) (Then (One (On kind.Scalar (v 5) Whole (CallTerm sum (var 3 ∷ []))))
    (Then (Prim (v 6) o.Add (var 4) (var 5)) (Give (var 6)))))

-- The function.
abbrev pub sum_term : FunctionTerm
sum_term = record { name = sum; parameters = tree ∷ []; result = results.One Whole; body = CaseTerm (var 0) (BranchThen (k 0) (v 1 ∷ []) leaf_arm (BranchThen (k 1) (v 2 ∷ v 3 ∷ []) node_arm NoBranch)) }

-- The core: main sums up its tree.
abbrev pub core : CoreTree
core = record {
  table = table;
  functions = sum_term ∷ [];
  main = record { parameter = tree; result = Whole; body = Then (One (On kind.Scalar (v 1) Whole (CallTerm sum (var 0 ∷ [])))) (Give (var 1)) };
  offsets = [];
  marked = true;
}

-- Its code.
abbrev pub code : CodeTree
code = record {
  laid = record { table = table; with_offsets = [] };
  instructions =
      i.Switch 0 (record { constructor = 0; label = 1 } ∷ record { constructor = 1; label = 4 } ∷ [])
      ∷ i.Whole 1 0 1 ∷ i.LeafEnd 0 9 ∷ i.Give (Slot 1)
      ∷ i.First 2 0 1 ∷ i.CallScalar 4 0 (Slot 2 ∷ []) ∷ i.Got 2 0 ∷ i.EndOf 3 2 ∷ i.CallScalar 5 0 (Slot 3 ∷ []) ∷ i.Got 3 0 ∷ i.Operate 6 Add (Slot 4) (Slot 5) ∷ i.OverEnd 0 3 ∷ i.Give (Slot 6)
      ∷ i.CallScalar 1 0 (Slot 0 ∷ []) ∷ i.Got 0 0 ∷ i.Give (Slot 1) ∷ [];
  functions = record { name = Some sum; start = 0; slots = 7; result = of.One Whole } ∷ record { name = None; start = 13; slots = 2; result = of.One Whole } ∷ [];
}

-- (Node (Leaf 1) (Leaf 2)) in 19 bytes, and behind it a node of two indirections to it, in 19 more.
abbrev pub loaded : Memory
loaded = after_puts (record { cells = open_chunk (λ q. absent) 0; drawn = 1; share = 1; limit = 1024; alone = true; holder = sole }) 0
    (1 ∷ 0 ∷ 1 ∷ 0 ∷ 0 ∷ 0 ∷ 0 ∷ 0 ∷ 0 ∷ 0 ∷ 0 ∷ 2 ∷ 0 ∷ 0 ∷ 0 ∷ 0 ∷ 0 ∷ 0 ∷ 0
    ∷ 1 ∷ 254 ∷ 0 ∷ 0 ∷ 0 ∷ 0 ∷ 0 ∷ 0 ∷ 0 ∷ 0 ∷ 254 ∷ 0 ∷ 0 ∷ 0 ∷ 0 ∷ 0 ∷ 0 ∷ 0 ∷ 0 ∷ [])

-- The start, with the tree at this address.
abbrev pub start : ℕ → Weave
start at = weave_start core code loaded at 10000 0 []

-- So many steps, and the end.
abbrev pub journal : ℕ → List Event
journal n = steps_then 0 n (Finish 0 ∷ [])
