-- From a core to its code.
--
-- The code of a term is put in front of the code that follows it, so a label is known before it is used: while code is made,
-- a label is how many instructions there are from its place to the end of the program. Once all code is there, labels
-- become numbers of instructions.
use Rattle.std.specs.Prelude.{ℕ, suc, ◌+◌, ◌-◌, ◌==◌, ◌&&◌, Bool, true, false, if◌then◌else◌, List, [], ◌∷◌, ◌++◌, map, length, Option, Some, None}
use Rattle.gib_base.specs.declared.name.Name.{Name}
use Rattle.gib_types.specs.declared.table.ConId.{ConId}
use Rattle.gib_types.specs.Table.{fields_at}
use Rattle.gib_types.specs.Layout.{head_size, packed_count}
use Rattle.gib_code.specs.declared.instruction.AnswerType.{AnswerType}
use Rattle.gib_code.specs.declared.instruction.AnswerType.TheVariants as of
use Rattle.gib_code.specs.declared.instruction.Arm.{Arm}
use Rattle.gib_code.specs.declared.instruction.Entry.{Entry}
use Rattle.gib_code.specs.Instruction as i
use Rattle.gib_code.specs.Instruction.{Instruction}
use Rattle.gib_code.specs.Program.{CodeTree}
use Rattle.gib_core.specs.declared.atom.Variable.{Variable}
use Rattle.gib_core.specs.declared.atom.Atom.{Atom}
use Rattle.gib_core.specs.declared.atom.Atom.TheVariants as a
use Rattle.gib_core.specs.declared.atom.Ended.{Ended}
use Rattle.gib_core.specs.declared.atom.Kind.TheVariants.{Here, Region, Scalar}
use Rattle.gib_core.specs.Tree.{Term, Then, Write, Point, CallTerm, Give, CaseTerm, IfTerm, Tuple, PartTerms, NoPart, PartThen, parts_count, Bind, Past, One, Both, Prim, Reach, Side, On, Several, Branches, NoBranch, BranchThen, FunctionTerm, CoreTree}
use Rattle.gib_core.specs.Numbering.{binders}
use Rattle.gib_core.specs.Ending.{has_ended, Within, within_par, within_function, within_main}
use Rattle.gib_core.specs.Low.{laid_of, operand, operands, slot_of, slots_of, function_number, Field, with_fields, arm_opening, End, Returns, To, ToParts, ending, call_ending, giving, giving_parts, packed_slots, scalar_slots, begin_all, done_all, side_kind, side_slots, side_type, answer_type, gots, arm_end, reaching}

-- The code of branches, with each constructor's label.
pub record Switched : Type 0 where
  pub arms : List Arm
  pub code : List Instruction

-- One more branch, before the others.
abbrev pub one_more : ConId → List Instruction → Switched → Switched
one_more k code others = record { arms = record { constructor = k.0; label = length code } ∷ others.arms; code = code }

-- A switch to branches.
abbrev pub switch : ℕ → Switched → List Instruction
switch x branches = i.Switch x branches.arms ∷ branches.code

-- Where the right side of a `scalar` is a call alone, it is a scalar call; otherwise it has its own code.
abbrev pub call_or : Term → (Name → List Atom → List Instruction) → List Instruction → List Instruction
call_or (CallTerm g xs) call other = call g xs
call_or (Then b t) call other = other
call_or (Write h k ss ps) call other = other
call_or (Point x) call other = other
call_or (Give x) call other = other
call_or (CaseTerm x branches) call other = other
call_or (IfTerm x t u) call other = other
call_or (Tuple tys ss ps) call other = other

-- A fork, before the left side's code: it tells where the right side's code begins, and what follows both.
abbrev pub fork : Side → List Instruction → List Instruction → List Instruction → List Instruction
fork r left right rest = i.Fork (length right) (length rest) (side_kind r) (side_slots r) (side_type r) ∷ left

-- Two sides, and then the rest, by whether they are marked. The right side comes as what it is before any code.
abbrev pub both : Bool → Side → (List Instruction → List Instruction) → (List Instruction → List Instruction) → List Instruction → List Instruction
both false r left right rest = left (right rest)
both true r left right rest = fork r (left (i.Join ∷ right (i.Back ∷ rest))) (right (i.Back ∷ rest)) rest

-- An arm without packed fields tells where its tree ends, behind a head of so many bytes.
abbrev pub leaf_end : Bool → (x size many : ℕ) → List Instruction
leaf_end must x size many = if must && many == 0 then i.LeafEnd x size ∷ [] else []

-- That of the constructor k.
abbrev pub leaf_of : CoreTree → Within → ℕ → ConId → List Instruction
leaf_of core w x k = leaf_end w.ends x (head_size (laid_of core) k.0) (packed_count (fields_at core.table k.0))

-- The end that a call of f gave for its argument at the place k is told to it.
abbrev pub got_one : List Ended → (f k : ℕ) → Atom → List Instruction
got_one es f k (a.Variable z) = if has_ended es f k then i.Got z.0 k ∷ [] else []
got_one es f k (a.Whole z) = []
got_one es f k (a.Truth b) = []

abbrev mutual
  -- A term with an end, and then the rest.
  pub lowered : CoreTree → Within → List Field → Term → End → List Instruction → List Instruction
  lowered core w fs (Then b t) e rest = lowered_bind core w fs b (lowered core w fs t e rest)
  lowered core w fs (Write h k ss ps) e rest = i.Fill h.0 k.0 (operands ss) (slots_of ps) ∷ (ending e ++ rest)
  lowered core w fs (Point x) e rest = i.Point (slot_of x) ∷ (ending e ++ rest)
  lowered core w fs (CallTerm g xs) e rest = i.Call (function_number core.functions g.0) (operands xs) ∷ (gots w core g.0 xs ++ (call_ending e ++ rest))
  lowered core w fs (Give x) e rest = giving (operand x) e ++ rest
  lowered core w fs (CaseTerm x branches) e rest = switch (slot_of x) (lowered_branches core w fs (slot_of x) branches e rest)
  lowered core w fs (IfTerm x t u) e rest =
      let other = lowered core w fs u e rest in
      i.Unless (operand x) (length other) ∷ lowered core w fs t e other
  lowered core w fs (Tuple tys ss ps) e rest = lowered_parts core w fs 0 (parts_count ps) ps (giving_parts (operands ss) e ++ rest)

  -- Packed parts from a number on, of so many, each in its region, and then the rest.
  pub lowered_parts : CoreTree → Within → List Field → (part count : ℕ) → PartTerms → List Instruction → List Instruction
  lowered_parts core w fs part count NoPart rest = rest
  lowered_parts core w fs part count (PartThen t ps) rest =
      let finish = i.Out part count ∷ lowered_parts core w fs (suc part) count ps rest in
      i.Into part count ∷ lowered core w fs t (To (length finish) 0) finish

  -- A binding, and then the rest.
  pub lowered_bind : CoreTree → Within → List Field → Bind → List Instruction → List Instruction
  lowered_bind core w fs (Past h k) rest = i.Past h.0 k.0 ∷ rest
  lowered_bind core w fs (One side) rest = lowered_side core w fs side rest
  lowered_bind core w fs (Both marked l r) rest = both marked r (lowered_side core (within_par w) fs l) (lowered_side core (within_par w) fs r) rest
  lowered_bind core w fs (Prim x g y z) rest = i.Operate x.0 g (operand y) (operand z) ∷ rest
  lowered_bind core w fs (Reach y by) rest = reaching fs y by ∷ rest

  -- A variable that is bound to a term, and then the rest.
  pub lowered_side : CoreTree → Within → List Field → Side → List Instruction → List Instruction
  lowered_side core w fs (On Here x ty t) rest = i.Here x.0 ∷ lowered core w fs t (To (length rest) 0) rest
  lowered_side core w fs (On Region x ty t) rest =
      let finish = i.Done ∷ rest in
      i.Begin x.0 ∷ lowered core w fs t (To (length finish) 0) finish
  lowered_side core w fs (On Scalar x ty t) rest =
      call_or t (λ g xs. i.CallScalar x.0 (function_number core.functions g.0) (operands xs) ∷ (gots w core g.0 xs ++ rest)) (lowered core w fs t (To (length rest) x.0) rest)
  lowered_side core w fs (Several xs tys t) rest =
      let finish = done_all (packed_slots tys xs) ++ rest in
      begin_all (packed_slots tys xs) ++ lowered core w fs t (ToParts (length finish) (scalar_slots tys xs)) finish

  -- The branches of a case on the slot x, one after another, and then the rest.
  pub lowered_branches : CoreTree → Within → List Field → ℕ → Branches → End → List Instruction → Switched
  lowered_branches core w fs x NoBranch e rest = record { arms = []; code = rest }
  lowered_branches core w fs x (BranchThen k ys t branches) e rest =
      let others = lowered_branches core w fs x branches e rest in
      one_more k (arm_opening (laid_of core) x k.0 ys ++ (leaf_of core w x k ++ lowered core w (with_fields x (fields_at core.table k.0) ys fs) t (arm_end w core x k ys t e) others.code)) others

-- A scalar that is bound to a term, and then the rest.
abbrev pub scalar_lowered : CoreTree → Within → List Field → Variable → Term → List Instruction → List Instruction
scalar_lowered core w fs x t rest =
    call_or t (λ g xs. i.CallScalar x.0 (function_number core.functions g.0) (operands xs) ∷ (gots w core g.0 xs ++ rest)) (lowered core w fs t (To (length rest) x.0) rest)

-- A branch, and then the rest.
abbrev pub branch_lowered : CoreTree → Within → List Field → ℕ → ConId → List Variable → Term → End → List Instruction → List Instruction
branch_lowered core w fs x k ys t e rest =
    arm_opening (laid_of core) x k.0 ys ++ (leaf_of core w x k ++ lowered core w (with_fields x (fields_at core.table k.0) ys fs) t (arm_end w core x k ys t e) rest)

-- The code of functions in the order of the text, and then main's.
abbrev pub lowered_functions : CoreTree → List FunctionTerm → List Instruction
lowered_functions core [] = lowered core (within_main core) [] core.main.body (Returns []) []
lowered_functions core (g ∷ gs) = lowered core (within_function core g) [] g.body (Returns []) (lowered_functions core gs)

-- A label as the number of an instruction, in a program of n instructions.
abbrev pub label_in : ℕ → ℕ → ℕ
label_in n l = n - l

-- An arm with its label as the number of an instruction.
abbrev pub arm_in : ℕ → Arm → Arm
arm_in n arm = record { constructor = arm.constructor; label = label_in n arm.label }

-- An instruction with its labels as numbers of instructions.
abbrev pub numbered : ℕ → Instruction → Instruction
numbered n (i.Move d v) = i.Move d v
numbered n (i.Operate d g v w) = i.Operate d g v w
numbered n (i.Jump l) = i.Jump (label_in n l)
numbered n (i.Unless v l) = i.Unless v (label_in n l)
numbered n (i.Switch x arms) = i.Switch x (map (arm_in n) arms)
numbered n (i.Whole d x p) = i.Whole d x p
numbered n (i.Truth d x p) = i.Truth d x p
numbered n (i.First d x p) = i.First d x p
numbered n (i.Offset d x p) = i.Offset d x p
numbered n (i.Skip d y) = i.Skip d y
numbered n (i.Begin d) = i.Begin d
numbered n i.Done = i.Done
numbered n (i.Here d) = i.Here d
numbered n (i.Past h k) = i.Past h k
numbered n (i.Fill h k ss ps) = i.Fill h k ss ps
numbered n (i.Point x) = i.Point x
numbered n (i.Call g ss) = i.Call g ss
numbered n (i.CallScalar d g ss) = i.CallScalar d g ss
numbered n i.Return = i.Return
numbered n (i.Give v) = i.Give v
numbered n (i.Fork r j kind xs result) = i.Fork (label_in n r) (label_in n j) kind xs result
numbered n i.Join = i.Join
numbered n i.Back = i.Back
numbered n (i.Got z k) = i.Got z k
numbered n (i.OverEnd x y) = i.OverEnd x y
numbered n (i.LeafEnd x k) = i.LeafEnd x k
numbered n (i.EndOf d z) = i.EndOf d z
numbered n (i.Into p k) = i.Into p k
numbered n (i.Out p k) = i.Out p k
numbered n (i.GiveParts ss) = i.GiveParts ss
numbered n (i.Part d p) = i.Part d p

-- A function in the code: its name, where it begins, a slot for each variable, and the type of its value.
abbrev pub entry_of : Option Name → AnswerType → ℕ → ℕ → Term → Entry
entry_of name result start parameters body = record { name = name; start = start; slots = parameters + length (binders body); result = result }

-- The functions in the code, main last; each begins where so many instructions are left.
abbrev pub begun : CoreTree → List FunctionTerm → List Entry
begun core [] = entry_of None (of.One core.main.result) (length (lowered_functions core [])) 1 core.main.body ∷ []
begun core (g ∷ gs) = entry_of (Some g.name) (answer_type g.result) (length (lowered_functions core (g ∷ gs))) (length g.parameters) g.body ∷ begun core gs

-- A function with its start as the number of an instruction.
abbrev pub entry_in : ℕ → Entry → Entry
entry_in n e = record { name = e.name; start = label_in n e.start; slots = e.slots; result = e.result }

-- The code of a core.
abbrev pub lower_program : CoreTree → CodeTree
lower_program core =
    let code = lowered_functions core core.functions in
    record {
      laid = laid_of core;
      instructions = map (numbered (length code)) code;
      functions = map (entry_in (length code)) (begun core core.functions);
    }
