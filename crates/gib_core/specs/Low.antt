-- The code of a core.
use Rattle.std.specs.Prelude.{◌≡◌, ℕ, suc, ◌+◌, ◌==◌, Bool, true, false, if◌then◌else◌, ◌&&◌, not, Option, List, [], ◌∷◌, ◌++◌, length, map, Some, None, slice_get}
use Rattle.std.specs.Int.{w64, cast_unsigned}
use Rattle.gib_types.specs.declared.table.Ty.{Ty}
use Rattle.gib_types.specs.declared.table.Ty.TheVariants as ty
use Rattle.gib_types.specs.declared.table.ConId.{ConId}
use Rattle.gib_types.specs.Table.{fields_at, at_fields}
use Rattle.gib_types.specs.Layout.{LaidOut, layout_at, head_size, numbers_of, packed_count}
use Rattle.gib_types.specs.declared.operator.Operator.{Operator}
use Rattle.gib_core.specs.declared.atom.Variable.{Variable}
use Rattle.gib_core.specs.declared.atom.Atom.{Atom}
use Rattle.gib_core.specs.declared.atom.Atom.TheVariants as a
use Rattle.gib_core.specs.declared.atom.Kind.{Kind}
use Rattle.gib_core.specs.declared.atom.Kind.TheVariants as kind
use Rattle.gib_core.specs.declared.atom.Access.TheVariants as by
use Rattle.gib_core.specs.Tree as t
use Rattle.gib_core.specs.Tree.{parts_count, Term, Bind, Side, Branches, PartTerms, FunctionTerm, CoreTree}
use Rattle.gib_syntax.specs.Results as results
use Rattle.gib_syntax.specs.Results.{Results}
use Rattle.gib_core.specs.Numbering.{binders}
use Rattle.gib_core.specs.Ending.{Ended, Within, within_par, within_function, within_main, ended, has_ended, last_packed, if_some, is_known}
use Rattle.gib_code.specs.declared.instruction.Operand.{Operand}
use Rattle.gib_code.specs.declared.instruction.Operand.TheVariants.{Slot, Number}
use Rattle.gib_code.specs.declared.instruction.Kind.TheVariants as k
use Rattle.gib_code.specs.declared.instruction.Kind.{Kind as CodeKind}
use Rattle.gib_code.specs.declared.instruction.Arm.{Arm}
use Rattle.gib_code.specs.declared.instruction.AnswerType.{AnswerType}
use Rattle.gib_code.specs.declared.instruction.AnswerType.TheVariants as of
use Rattle.gib_code.specs.declared.instruction.Entry.{Entry}
use Rattle.gib_code.specs.Instruction.{Instruction, Move, Operate, Jump, Unless, Switch, Whole, Truth, First, Offset, Skip, Begin, Done, Here, Past, Fill, Point, Call, CallScalar, Return, Give, Fork, Join, Back, Got, OverEnd, LeafEnd, EndOf, Into, Out, GiveParts, Part}
use Rattle.gib_code.specs.Program.{CodeTree, IsAt, AreAt}

-- Each function here is total: what a build rule excludes has an answer too, so that the code needs no build rule.

-- The core's constructors with their layouts.
abbrev pub laid_of : CoreTree → LaidOut
laid_of core = record { table = core.table; with_offsets = numbers_of core.offsets }

-- A truth value as a word.
abbrev pub truth_word : Bool → ℕ
truth_word false = 0
truth_word true = 1

-- An atom as an operand.
abbrev pub operand : Atom → Operand
operand (a.Variable x) = Slot x.0
operand (a.Whole z) = Number (cast_unsigned w64 z)
operand (a.Truth b) = Number (truth_word b)

-- Atoms as operands.
abbrev pub operands : List Atom → List Operand
operands xs = map operand xs

-- The slot of a packed value. A literal is none.
abbrev pub slot_of : Atom → ℕ
slot_of (a.Variable x) = x.0
slot_of (a.Whole z) = 0
slot_of (a.Truth b) = 0

-- The slots of packed values.
abbrev pub slots_of : List Atom → List ℕ
slots_of xs = map slot_of xs

-- How a side's value is put.
abbrev pub kind_of : Kind → CodeKind
kind_of kind.Here = k.Here
kind_of kind.Region = k.Region
kind_of kind.Scalar = k.Scalar

-- The number of a function of a name in the text; of none, the number of main.
abbrev pub function_number : List FunctionTerm → ℕ → ℕ
function_number [] f = 0
function_number (g ∷ gs) f = if g.name.0 == f then 0 else suc (function_number gs f)

-- A packed field of an arm around: its variable, the slot of the case, and where in the head its address is stored.
pub record Field : Type 0 where
  pub variable : ℕ
  pub tree : ℕ
  pub place : ℕ

-- The newest field of a variable; of no field, the place 0 of the slot 0.
abbrev pub field_of : List Field → ℕ → Field
field_of [] y = record { variable = y; tree = 0; place = 0 }
field_of (f ∷ fs) y = if f.variable == y then f else field_of fs y

-- The packed fields behind the first one; the address of the next one is stored at p.
abbrev pub further_fields : ℕ → ℕ → List Ty → List Variable → List Field → List Field
further_fields x p [] ys fs = fs
further_fields x p (t ∷ ts) [] fs = fs
further_fields x p (ty.Whole ∷ ts) (y ∷ ys) fs = further_fields x p ts ys fs
further_fields x p (ty.Truth ∷ ts) (y ∷ ys) fs = further_fields x p ts ys fs
further_fields x p (ty.Tree t ∷ ts) (y ∷ ys) fs = further_fields x (p + 8) ts ys (record { variable = y.0; tree = x; place = p } ∷ fs)

-- The packed fields of an arm come into scope.
abbrev pub with_fields : ℕ → List Ty → List Variable → List Field → List Field
with_fields x [] ys fs = fs
with_fields x (t ∷ ts) [] fs = fs
with_fields x (ty.Whole ∷ ts) (y ∷ ys) fs = with_fields x ts ys fs
with_fields x (ty.Truth ∷ ts) (y ∷ ys) fs = with_fields x ts ys fs
with_fields x (ty.Tree t ∷ ts) (y ∷ ys) fs = further_fields x 1 ts ys fs

-- The scalar fields of an arm are read, from the place p of the head on.
abbrev pub scalar_reads : ℕ → ℕ → List Ty → List Variable → List Instruction
scalar_reads x p [] ys = []
scalar_reads x p (t ∷ ts) [] = []
scalar_reads x p (ty.Whole ∷ ts) (y ∷ ys) = Whole y.0 x p ∷ scalar_reads x (p + 8) ts ys
scalar_reads x p (ty.Truth ∷ ts) (y ∷ ys) = Truth y.0 x p ∷ scalar_reads x (p + 1) ts ys
scalar_reads x p (ty.Tree t ∷ ts) (y ∷ ys) = scalar_reads x p ts ys

-- The first packed field of an arm is reached, behind a head of so many bytes.
abbrev pub first_reach : ℕ → ℕ → List Ty → List Variable → List Instruction
first_reach x size [] ys = []
first_reach x size (t ∷ ts) [] = []
first_reach x size (ty.Whole ∷ ts) (y ∷ ys) = first_reach x size ts ys
first_reach x size (ty.Truth ∷ ts) (y ∷ ys) = first_reach x size ts ys
first_reach x size (ty.Tree t ∷ ts) (y ∷ ys) = First y.0 x size ∷ []

-- What an arm of the constructor k begins with.
abbrev pub arm_opening : LaidOut → ℕ → ℕ → List Variable → List Instruction
arm_opening laid x k ys =
    scalar_reads x (1 + (layout_at laid.table laid.with_offsets k).offsets) (fields_at laid.table k) ys
    ++ first_reach x (head_size laid k) (fields_at laid.table k) ys

-- A tree that a case is on, and its last packed field, whose end is known by then.
pub record Over : Type 0 where
  pub tree : ℕ
  pub field : ℕ

-- What follows a term: a return, before which ends are told, the innermost first; or the code at a label, where a scalar goes to a
-- slot, or the scalar ones of several parts to theirs.
pub data End : Type 0 where
  Returns : (overs : List Over) → End
  To : (label slot : ℕ) → End
  ToParts : (label : ℕ) (slots : List ℕ) → End

-- The ends that are told before a return.
abbrev pub over_all : List Over → List Instruction
over_all [] = []
over_all (o ∷ os) = OverEnd o.tree o.field ∷ over_all os

-- What stands behind a packed term.
abbrev pub ending : End → List Instruction
ending (Returns os) = over_all os ++ Return ∷ []
ending (To l d) = Jump l ∷ []
ending (ToParts l ds) = Jump l ∷ []

-- What gives a scalar.
abbrev pub giving : Operand → End → List Instruction
giving s (Returns os) = over_all os ++ Give s ∷ []
giving s (To l d) = Move d s ∷ Jump l ∷ []
giving s (ToParts l ds) = Jump l ∷ []

-- The slots are set one after another.
abbrev pub moves : List ℕ → List Operand → List Instruction
moves [] ss = []
moves (d ∷ ds) [] = []
moves (d ∷ ds) (s ∷ ss) = Move d s ∷ moves ds ss

-- What gives the scalar ones of several parts, behind the packed ones.
abbrev pub giving_parts : List Operand → End → List Instruction
giving_parts ss (Returns os) = over_all os ++ GiveParts ss ∷ []
giving_parts ss (To l d) = Jump l ∷ []
giving_parts ss (ToParts l ds) = moves ds ss ++ Jump l ∷ []

-- The scalar parts that a call gave go to slots, from the i-th part on.
abbrev pub takes_parts : ℕ → List ℕ → List Instruction
takes_parts i [] = []
takes_parts i (d ∷ ds) = Part d i ∷ takes_parts (suc i) ds

-- What stands behind a call.
abbrev pub call_ending : End → List Instruction
call_ending (Returns os) = over_all os ++ Return ∷ []
call_ending (To l d) = Jump l ∷ []
call_ending (ToParts l ds) = takes_parts 0 ds ++ Jump l ∷ []

-- The slots of the packed variables among these.
abbrev pub packed_slots : List Ty → List Variable → List ℕ
packed_slots tys xs = map (λ (x : Variable). x.0) (at_fields false tys xs)

-- The slots of the scalar variables among them.
abbrev pub scalar_slots : List Ty → List Variable → List ℕ
scalar_slots tys xs = map (λ (x : Variable). x.0) (at_fields true tys xs)

-- Each of the slots gets a region.
abbrev pub begin_all : List ℕ → List Instruction
begin_all xs = map (λ x. Begin x) xs

-- Each region is finished, the last one first.
abbrev pub done_all : List ℕ → List Instruction
done_all xs = map (λ x. Done) xs

-- The type of what a function gives, for the machine.
abbrev pub answer_type : Results Ty → AnswerType
answer_type (results.One t) = of.One t
answer_type (results.Several ts) = of.Parts

-- How a right side's value is put.
abbrev pub side_kind : Side → CodeKind
side_kind (t.On kind x ty u) = kind_of kind
side_kind (t.Several xs tys u) = k.Several

-- The slots that a right side sets.
abbrev pub side_slots : Side → List ℕ
side_slots (t.On kind x ty u) = x.0 ∷ []
side_slots (t.Several xs tys u) = map (λ (x : Variable). x.0) xs

-- The type of what a right side gives, for the machine.
abbrev pub side_type : Side → AnswerType
side_type (t.On kind x ty u) = of.One ty
side_type (t.Several xs tys u) = of.Parts

-- The ends that a call of f gave for its arguments, from the place k on.
abbrev pub got_from : List Ended → (f k : ℕ) → List Atom → List Instruction
got_from es f k [] = []
got_from es f k (a.Variable z ∷ xs) = if has_ended es f k then Got z.0 k ∷ got_from es f (suc k) xs else got_from es f (suc k) xs
got_from es f k (a.Whole z ∷ xs) = got_from es f (suc k) xs
got_from es f k (a.Truth b ∷ xs) = got_from es f (suc k) xs

-- None inside a side of a `par`.
abbrev pub gots : Within → CoreTree → ℕ → List Atom → List Instruction
gots w core f xs = if w.par then [] else got_from (ended core) f 0 xs

-- The tree of an arm whose last packed field's end is known by then is told its end too.
abbrev pub with_over : ℕ → Option Variable → Bool → List Over → List Over
with_over x (Some y) true os = record { tree = x; field = y.0 } ∷ os
with_over x (Some y) false os = os
with_over x None b os = os

-- Ends are kept, no `par` is around, and in the arm the end of its last packed field is known.
abbrev pub is_over : Within → CoreTree → ConId → List Variable → Term → Bool
is_over w core c ys u = w.ends && (not w.par && if_some (last_packed None (fields_at core.table c.0) ys) (λ z. is_known core.table (ended core) u z))

-- The trees that are told their ends where an arm is done: that of the arm too, where it may be.
abbrev pub arm_overs : Within → CoreTree → ℕ → ConId → List Variable → Term → List Over → List Over
arm_overs w core x c ys u os = with_over x (last_packed None (fields_at core.table c.0) ys) (is_over w core c ys u) os

-- The end of an arm.
abbrev pub arm_end : Within → CoreTree → ℕ → ConId → List Variable → Term → End → End
arm_end w core x c ys u (Returns os) = Returns (arm_overs w core x c ys u os)
arm_end w core x c ys u (To l d) = To l d
arm_end w core x c ys u (ToParts l ds) = ToParts l ds

-- How a field is reached.
abbrev pub reaching : List Field → Variable → Rattle.gib_core.specs.declared.atom.Access.Access → Instruction
reaching fs y by.Offset = Offset y.0 (field_of fs y.0).tree (field_of fs y.0).place
reaching fs y (by.Skip z) = Skip y.0 z.0
reaching fs y (by.End z) = EndOf y.0 z.0

-- The term is no call.
abbrev pub IsNoCall : Term → Type 0
IsNoCall (t.Then b rest) = Unit {0}
IsNoCall (t.Write h c ss ps) = Unit {0}
IsNoCall (t.Point x) = Unit {0}
IsNoCall (t.CallTerm f xs) = ⊥
IsNoCall (t.Give x) = Unit {0}
IsNoCall (t.CaseTerm x bs) = Unit {0}
IsNoCall (t.IfTerm x u v) = Unit {0}
IsNoCall (t.Tuple tys ss ps) = Unit {0}

-- An arm without packed fields tells where its tree ends, behind a head of so many bytes, in a function whose ends are told.
pub data LeafAt (code : CodeTree) (must : Bool) (x size many : ℕ) : ℕ → ℕ → Type 0 where
  no_leaf : {l : ℕ} → (must ≡ true → many ≡ 0 → ⊥) → LeafAt code must x size many l l
  leaf : {l : ℕ} → must ≡ true → many ≡ 0 → IsAt code l (LeafEnd x size) → LeafAt code must x size many l (l + 1)

mutual
  -- Low core code w fs a t e z: the instructions from a up to z are the code of the term t with the end e, where fs are the
  -- packed fields of the arms around.
  pub data Low (core : CoreTree) (code : CodeTree) : Within → List Field → ℕ → Term → End → ℕ → Type 0 where
    write : {w : Within} {fs : List Field} {a z : ℕ} {h : Variable} {c : ConId} {ss ps : List Atom} {e : End}
        → AreAt code a (Fill h.0 c.0 (operands ss) (slots_of ps) ∷ ending e) z → Low core code w fs a (t.Write h c ss ps) e z
    point : {w : Within} {fs : List Field} {a z : ℕ} {x : Atom} {e : End} → AreAt code a (Point (slot_of x) ∷ ending e) z → Low core code w fs a (t.Point x) e z
    call : {w : Within} {fs : List Field} {a z : ℕ} {f : Rattle.gib_base.specs.declared.name.Name.Name} {xs : List Atom} {e : End}
        → AreAt code a (Call (function_number core.functions f.0) (operands xs) ∷ gots w core f.0 xs ++ call_ending e) z → Low core code w fs a (t.CallTerm f xs) e z
    give : {w : Within} {fs : List Field} {a z : ℕ} {x : Atom} {e : End} → AreAt code a (giving (operand x) e) z → Low core code w fs a (t.Give x) e z
    branch : {w : Within} {fs : List Field} {a l z : ℕ} {x : Atom} {u v : Term} {e : End}
        → IsAt code a (Unless (operand x) l) → Low core code w fs (a + 1) u e l → Low core code w fs l v e z → Low core code w fs a (t.IfTerm x u v) e z
    case : {w : Within} {fs : List Field} {a z : ℕ} {x : Atom} {bs : Branches} {arms : List Arm} {e : End}
        → IsAt code a (Switch (slot_of x) arms) → LowArms core code w fs (slot_of x) (a + 1) arms bs e z → Low core code w fs a (t.CaseTerm x bs) e z
    binding : {w : Within} {fs : List Field} {a m z : ℕ} {b : Bind} {u : Term} {e : End} → LowBind core code w fs a b m → Low core code w fs m u e z → Low core code w fs a (t.Then b u) e z
    tuple : {w : Within} {fs : List Field} {a m z : ℕ} {tys : List Ty} {ss : List Atom} {ps : PartTerms} {e : End}
        → LowParts core code w fs a 0 (parts_count ps) ps m → AreAt code m (giving_parts (operands ss) e) z → Low core code w fs a (t.Tuple tys ss ps) e z

  -- The code of packed parts, from the i-th of k on: each goes into its region.
  pub data LowParts (core : CoreTree) (code : CodeTree) : Within → List Field → (a i k : ℕ) → PartTerms → ℕ → Type 0 where
    no_part : {w : Within} {fs : List Field} {a i k : ℕ} → LowParts core code w fs a i k t.NoPart a
    part : {w : Within} {fs : List Field} {a i k m z : ℕ} {u : Term} {ps : PartTerms}
        → IsAt code a (Into i k) → Low core code w fs (a + 1) u (To m 0) m → IsAt code m (Out i k)
        → LowParts core code w fs (m + 1) (suc i) k ps z → LowParts core code w fs a i k (t.PartThen u ps) z

  -- The code of the branches of a case on the slot x; each branch's code begins with its fields.
  pub data LowArms (core : CoreTree) (code : CodeTree) : Within → List Field → ℕ → ℕ → List Arm → Branches → End → ℕ → Type 0 where
    no_arm : {w : Within} {fs : List Field} {x a : ℕ} {e : End} → LowArms core code w fs x a [] t.NoBranch e a
    arm : {w : Within} {fs : List Field} {x a m n l z : ℕ} {c : ConId} {ys : List Variable} {u : Term} {bs : Branches} {arms : List Arm} {e : End}
        → AreAt code a (arm_opening (laid_of core) x c.0 ys) m
        → LeafAt code w.ends x (head_size (laid_of core) c.0) (packed_count (fields_at core.table c.0)) m n
        → Low core code w (with_fields x (fields_at core.table c.0) ys fs) n u (arm_end w core x c ys u e) l
        → LowArms core code w fs x l arms bs e z
        → LowArms core code w fs x a (record { constructor = c.0; label = a } ∷ arms) (t.BranchThen c ys u bs) e z

  -- The code of a binding.
  pub data LowBind (core : CoreTree) (code : CodeTree) : Within → List Field → ℕ → Bind → ℕ → Type 0 where
    past : {w : Within} {fs : List Field} {a : ℕ} {h : Variable} {c : ConId} → IsAt code a (Past h.0 c.0) → LowBind core code w fs a (t.Past h c) (a + 1)
    one : {w : Within} {fs : List Field} {a z : ℕ} {s : Side} → LowSide core code w fs a s z → LowBind core code w fs a (t.One s) z
    in_turn : {w : Within} {fs : List Field} {a m z : ℕ} {l r : Side} → LowSide core code (within_par w) fs a l m → LowSide core code (within_par w) fs m r z → LowBind core code w fs a (t.Both false l r) z
    forked : {w : Within} {fs : List Field} {a m z : ℕ} {l r : Side}
        → IsAt code a (Fork (m + 1) (z + 1) (side_kind r) (side_slots r) (side_type r))
        → LowSide core code (within_par w) fs (a + 1) l m → IsAt code m Join
        → LowSide core code (within_par w) fs (m + 1) r z → IsAt code z Back
        → LowBind core code w fs a (t.Both true l r) (z + 1)
    prim : {w : Within} {fs : List Field} {a : ℕ} {x : Variable} {f : Operator} {y v : Atom}
        → IsAt code a (Operate x.0 f (operand y) (operand v)) → LowBind core code w fs a (t.Prim x f y v) (a + 1)
    reach : {w : Within} {fs : List Field} {a : ℕ} {y : Variable} {access : Rattle.gib_core.specs.declared.atom.Access.Access}
        → IsAt code a (reaching fs y access) → LowBind core code w fs a (t.Reach y access) (a + 1)

  -- The code of what is bound to a term.
  pub data LowSide (core : CoreTree) (code : CodeTree) : Within → List Field → ℕ → Side → ℕ → Type 0 where
    here : {w : Within} {fs : List Field} {a z : ℕ} {x : Variable} {ty : Ty} {u : Term}
        → IsAt code a (Here x.0) → Low core code w fs (a + 1) u (To z 0) z → LowSide core code w fs a (t.On kind.Here x ty u) z
    region : {w : Within} {fs : List Field} {a z : ℕ} {x : Variable} {ty : Ty} {u : Term}
        → IsAt code a (Begin x.0) → Low core code w fs (a + 1) u (To z 0) z → IsAt code z Done → LowSide core code w fs a (t.On kind.Region x ty u) (z + 1)
    scalar_call : {w : Within} {fs : List Field} {a z : ℕ} {x : Variable} {ty : Ty} {f : Rattle.gib_base.specs.declared.name.Name.Name} {xs : List Atom}
        → AreAt code a (CallScalar x.0 (function_number core.functions f.0) (operands xs) ∷ gots w core f.0 xs) z → LowSide core code w fs a (t.On kind.Scalar x ty (t.CallTerm f xs)) z
    scalar : {w : Within} {fs : List Field} {a z : ℕ} {x : Variable} {ty : Ty} {u : Term}
        → IsNoCall u → Low core code w fs a u (To z x.0) z → LowSide core code w fs a (t.On kind.Scalar x ty u) z
    several : {w : Within} {fs : List Field} {a b l z : ℕ} {xs : List Variable} {tys : List Ty} {u : Term}
        → AreAt code a (begin_all (packed_slots tys xs)) b → Low core code w fs b u (ToParts l (scalar_slots tys xs)) l → AreAt code l (done_all (packed_slots tys xs)) z
        → LowSide core code w fs a (t.Several xs tys u) z

-- The functions of the text have their code one after another, main last; a frame has a slot for each variable.
pub data LowFunctions (core : CoreTree) (code : CodeTree) : ℕ → List FunctionTerm → List Entry → Type 0 where
  main : {a : ℕ} {e : Entry} → e.name ≡ None → e.result ≡ of.One core.main.result → e.start ≡ a → e.slots ≡ 1 + length (binders core.main.body) → Low core code (within_main core) [] a core.main.body (Returns []) (length code.instructions)
      → LowFunctions core code a [] (e ∷ [])
  function : {a z : ℕ} {g : FunctionTerm} {gs : List FunctionTerm} {e : Entry} {es : List Entry}
      → e.name ≡ Some g.name → e.result ≡ answer_type g.result → e.start ≡ a → e.slots ≡ length g.parameters + length (binders g.body) → Low core code (within_function core g) [] a g.body (Returns []) z
      → LowFunctions core code z gs es → LowFunctions core code a (g ∷ gs) (e ∷ es)

-- The code is that of the core.
pub record IsLowered (core : CoreTree) (code : CodeTree) : Type 0 where
  pub laid : code.laid ≡ laid_of core
  pub functions : LowFunctions core code 0 core.functions code.functions

-- The entry of a number is that of the function: it tells where the function's code begins, how many slots it has, and the
-- type of its result.
pub record HasCode (core : CoreTree) (code : CodeTree) (entries : List Entry) (number : ℕ) (g : FunctionTerm) : Type 0 where
  pub entry : Entry
  pub at : slice_get entries number ≡ Some entry
  pub slots : entry.slots ≡ length g.parameters + length (binders g.body)
  pub result : entry.result ≡ answer_type g.result
  pub until : ℕ
  pub low : Low core code (within_function core g) [] entry.start g.body (Returns []) until

-- Main's entry stands at the number behind those of the functions, and its code is the last.
pub record HasMain (core : CoreTree) (code : CodeTree) (entries : List Entry) (number : ℕ) : Type 0 where
  pub entry : Entry
  pub at : slice_get entries number ≡ Some entry
  pub slots : entry.slots ≡ 1 + length (binders core.main.body)
  pub result : entry.result ≡ of.One core.main.result
  pub low : Low core code (within_main core) [] entry.start core.main.body (Returns []) (length code.instructions)
