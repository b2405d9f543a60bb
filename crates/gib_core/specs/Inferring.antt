-- From the source to the core, one construct after another.
use Rattle.std.specs.Prelude.{ℕ, pos, ◌+◌, ◌==◌, if◌then◌else◌, true, false, List, [], ◌∷◌, ◌++◌, map, length, Option, Some, None}
use Rattle.gib_base.specs.declared.name.Name.{Name}
use Rattle.gib_types.specs.declared.table.Ty.{Ty}
use Rattle.gib_types.specs.declared.table.Ty.TheVariants.{Whole, Truth, Tree}
use Rattle.gib_types.specs.declared.table.ConId.{ConId}
use Rattle.gib_types.specs.Table.{Table, fields_at, owner_at, at_fields}
pub use Rattle.gib_types.specs.Table.{first_type, further_types, numbers_from, constructors_of}
use Rattle.gib_syntax.specs.declared.tree.Ident.{Ident}
use Rattle.gib_types.specs.declared.operator.Operator.{Operator}
use Rattle.gib_syntax.specs.Tree.{Expression, Arguments, Arms, Var, Num, Bit, Paren, Op, Call, Make, Let, Par, If, Case, LetSeveral, ParSeveral, NoArgument, Argument, LastArm, NextArm, FunctionTree, ProgramTree}
use Rattle.gib_core.specs.Tree as core
use Rattle.gib_syntax.specs.Tree as source
use Rattle.gib_syntax.specs.Results as results
use Rattle.gib_syntax.specs.Results.{Results}
use Rattle.gib_syntax.specs.Declarations.{number_of, constructor_named, function_named, type_of_name}
use Rattle.gib_syntax.specs.Typing.{Globals, globals_of, parameter_types, types_of, result_types}
use Rattle.gib_types.specs.Operators.{operator_type}
use Rattle.gib_syntax.specs.Meaning.{names_of}
use Rattle.gib_core.specs.declared.atom.Variable.{Variable}
use Rattle.gib_core.specs.declared.atom.Atom.{Atom}
use Rattle.gib_core.specs.declared.atom.Atom.TheVariants as a
use Rattle.gib_core.specs.declared.atom.Kind.{Kind}
use Rattle.gib_core.specs.declared.atom.Kind.TheVariants.{Here, Region, Scalar}
use Rattle.gib_core.specs.Tree.{Term, Then, Write, Point, CallTerm, Give, CaseTerm, IfTerm, Tuple, PartTerms, NoPart, PartThen, Bind, Past, One, Both, Prim, Side, On, Branches, NoBranch, BranchThen, var, variables_from, prepend, FunctionTerm, CoreTree}
-- What a name in scope became: an atom with its type.
pub use Rattle.gib_core.specs.declared.scope.Slot.{Slot}

-- The names in scope, the newest first.
abbrev pub Scope : Type 0
Scope = List Slot

-- What a name became; of an unbound one, which typing excludes, 0.
abbrev pub atom_at : Scope → ℕ → Atom
atom_at [] x = a.Whole (pos 0)
atom_at (s ∷ scope) x = if s.name.0 == x then s.atom else atom_at scope x

-- The type of a name.
abbrev pub type_at : Scope → ℕ → Ty
type_at [] x = Whole
type_at (s ∷ scope) x = if s.name.0 == x then s.ty else type_at scope x

-- A name in scope.
abbrev pub slot : Ident → Atom → Ty → Slot
slot x atom ty = record { name = x.name; atom = atom; ty = ty }

-- A term with its type, of several parts `Int`, which nobody asks. Variables from `fresh` on are not used yet.
pub record Lined : Type 0 where
  pub fresh : ℕ
  pub term : Term
  pub ty : Ty

-- An atom behind bindings, with its type.
pub record Atomed : Type 0 where
  pub fresh : ℕ
  pub binds : List Bind
  pub atom : Atom
  pub ty : Ty

-- Atoms behind bindings.
pub record Several : Type 0 where
  pub fresh : ℕ
  pub binds : List Bind
  pub atoms : List Atom

-- The line that stands for an expression, by the names in scope and the first unused number.
abbrev pub ToLine : Type 0
ToLine = Scope → ℕ → Lined

-- The atom that stands for an expression, behind bindings, by the names in scope and the first unused number.
abbrev pub ToAtom : Type 0
ToAtom = Scope → ℕ → Atomed

-- What an expression becomes in each place where it may stand: in result place, as a side of a `let par`,
-- as an argument, operand or condition, and as the right side of a `let`.
pub record Code : Type 0 where
  pub line : ToLine
  pub side : ToLine
  pub atom : ToAtom
  pub bound : ToAtom

-- The names of fields of these types, or of parts, become the variables from a number on.
abbrev pub with_fields : List Ident → List Ty → ℕ → Scope → Scope
with_fields [] types n scope = scope
with_fields (x ∷ xs) types n scope = with_fields xs (further_types types) (n + 1) (slot x (var n) (first_type types) ∷ scope)

-- Scalars are bound by `scalar`, packed values by `region`.
abbrev pub kind_of : Ty → Kind
kind_of Whole = Scalar
kind_of Truth = Scalar
kind_of (Tree t) = Region

-- A line that is bound to a variable.
abbrev pub boxed : ToLine → ToAtom
boxed line scope n =
    let l = line scope (n + 1) in
    record { fresh = l.fresh; binds = One (On (kind_of l.ty) (record { 0 = n }) l.ty l.term) ∷ []; atom = var n; ty = l.ty }

-- A scalar that is given.
abbrev pub given : ToAtom → ToLine
given atom scope n = let x = atom scope n in record { fresh = x.fresh; term = prepend x.binds (Give x.atom); ty = x.ty }

-- An expression that is a line in each place.
abbrev pub of_line : ToLine → Code
of_line line = record { line = line; side = line; atom = boxed line; bound = boxed line }

-- A scalar expression that is bound by its own binding.
abbrev pub of_atom : ToAtom → Code
of_atom atom = record { line = given atom; side = given atom; atom = atom; bound = atom }

-- A variable or literal in result place: a packed one is pointed to, a scalar is given.
abbrev pub result_of : Ty → Atom → Term
result_of Whole x = Give x
result_of Truth x = Give x
result_of (Tree t) x = Point x

-- A variable or literal as a line: it takes no number.
abbrev pub plain_line : (Scope → Ty) → (Scope → Atom) → ToLine
plain_line ty atom scope n = record { fresh = n; term = result_of (ty scope) (atom scope); ty = ty scope }

-- A variable or literal as an atom: it needs no bindings.
abbrev pub plain_atom : (Scope → Ty) → (Scope → Atom) → ToAtom
plain_atom ty atom scope n = record { fresh = n; binds = []; atom = atom scope; ty = ty scope }

-- A variable or literal.
abbrev pub of_plain : (Scope → Ty) → (Scope → Atom) → Code
of_plain ty atom = record {
  line = plain_line ty atom;
  side = plain_line ty atom;
  atom = plain_atom ty atom;
  bound = boxed (plain_line ty atom);
}

-- Arguments, from left to right.
abbrev pub several : List Code → Scope → ℕ → Several
several [] scope n = record { fresh = n; binds = []; atoms = [] }
several (c ∷ cs) scope n =
    let x = c.atom scope n in
    let r = several cs scope x.fresh in
    record { fresh = r.fresh; binds = x.binds ++ r.binds; atoms = x.atom ∷ r.atoms }

-- An operation: its operands, and then `prim`.
abbrev pub operation_atom : Operator → ToAtom → ToAtom → ToAtom
operation_atom f left right scope n =
    let x = left scope n in
    let y = right scope x.fresh in
    record {
      fresh = y.fresh + 1;
      binds = x.binds ++ (y.binds ++ Prim (record { 0 = y.fresh }) f x.atom y.atom ∷ []);
      atom = var y.fresh;
      ty = operator_type f;
    }

-- A packed call in result place.
abbrev pub call_line : Ty → Name → Several → Lined
call_line ty f r = record { fresh = r.fresh; term = prepend r.binds (CallTerm f r.atoms); ty = ty }

-- A scalar call that is bound: its arguments are bound before it in the same line.
abbrev pub call_atom : Ty → Name → Several → Atomed
call_atom ty f r = record {
  fresh = r.fresh + 1;
  binds = r.binds ++ One (On Scalar (record { 0 = r.fresh }) ty (CallTerm f r.atoms)) ∷ [];
  atom = var r.fresh;
  ty = ty;
}

-- A scalar call that is a side: it is the whole side where its arguments need no bindings.
abbrev pub call_side : Ty → Name → Several → List Bind → Lined
call_side ty f r [] = record { fresh = r.fresh; term = CallTerm f r.atoms; ty = ty }
call_side ty f r (b ∷ bs) = record { fresh = r.fresh + 1; term = prepend (call_atom ty f r).binds (Give (var r.fresh)); ty = ty }

-- A scalar call: bound wherever it stands, but as a side whose arguments need no bindings.
abbrev pub scalar_call : Ty → Name → List Code → Code
scalar_call ty f cs =
    let atom : ToAtom = λ scope n. call_atom ty f (several cs scope n) in
    record { line = given atom; side = λ scope n. call_side ty f (several cs scope n) (several cs scope n).binds; atom = atom; bound = atom }

-- A call, by what it gives.
abbrev pub call_code : Results Ty → Name → List Code → Code
call_code (results.One (Tree t)) f cs = of_line (λ scope n. call_line (Tree t) f (several cs scope n))
call_code (results.One Whole) f cs = scalar_call Whole f cs
call_code (results.One Truth) f cs = scalar_call Truth f cs
call_code (results.Several tys) f cs = of_line (λ scope n. call_line Whole f (several cs scope n))

-- The packed fields of a head, as variables from a number on, each with what it points to.
abbrev pub pointed_fields : ℕ → List Ty → List Atom → List Bind
pointed_fields n types [] = []
pointed_fields n types (x ∷ xs) = One (On Here (record { 0 = n }) (first_type types) (Point x)) ∷ pointed_fields (n + 1) (further_types types) xs

-- Variables as atoms.
abbrev pub as_atoms : List Variable → List Atom
as_atoms xs = map (λ (x : Variable). a.Variable x) xs

-- A constructor behind its scalar and its packed arguments: room for its head, its packed fields, its head.
abbrev pub make_from : Ty → ConId → List Ty → Several → Several → Lined
make_from ty k types ss ps = record {
  fresh = ps.fresh + 1 + length ps.atoms;
  term = prepend (ss.binds ++ (ps.binds ++ Past (record { 0 = ps.fresh }) k ∷ pointed_fields (ps.fresh + 1) types ps.atoms))
      (Write (record { 0 = ps.fresh }) k ss.atoms (as_atoms (variables_from (ps.fresh + 1) ps.atoms)));
  ty = ty;
}

-- A constructor term: scalar arguments first, then packed ones.
abbrev pub make_line : Table → ConId → List Code → ToLine
make_line table k cs scope n =
    let types = fields_at table k.0 in
    let ss = several (at_fields true types cs) scope n in
    let ps = several (at_fields false types cs) scope ss.fresh in
    make_from (Tree (record { 0 = owner_at table k.0 })) k (at_fields false types types) ss ps

-- A `let`: the bindings of its right side, and then its body, where the name stands for that atom.
abbrev pub let_line : Ident → ToAtom → ToLine → ToLine
let_line x bound body scope n =
    let l = bound scope n in
    let r = body (slot x l.atom l.ty ∷ scope) l.fresh in
    record { fresh = r.fresh; term = prepend l.binds r.term; ty = r.ty }

-- A `let par`: both sides see the names outside alone, the body sees both.
abbrev pub par_line : Ident → ToLine → Ident → ToLine → ToLine → ToLine
par_line x left y right body scope n =
    let l = left scope (n + 1) in
    let r = right scope (l.fresh + 1) in
    let t = body (slot y (var l.fresh) r.ty ∷ slot x (var n) l.ty ∷ scope) r.fresh in
    record {
      fresh = t.fresh;
      term = Then (Both false (On (kind_of l.ty) (record { 0 = n }) l.ty l.term) (On (kind_of r.ty) (record { 0 = l.fresh }) r.ty r.term)) t.term;
      ty = t.ty;
    }

-- Packed parts, each a line of its own.
pub record Parted : Type 0 where
  pub fresh : ℕ
  pub parts : PartTerms

-- The packed parts of a tuple, from left to right.
abbrev pub part_lines : List Code → Scope → ℕ → Parted
part_lines [] scope n = record { fresh = n; parts = NoPart }
part_lines (c ∷ cs) scope n =
    let l = c.line scope n in
    let r = part_lines cs scope l.fresh in
    record { fresh = r.fresh; parts = PartThen l.term r.parts }

-- A tuple: the bindings of its scalar parts, and then the packed ones, each in a term of its own.
abbrev pub tuple_line : List Ty → List Code → ToLine
tuple_line types cs scope n =
    let ss = several (at_fields true types cs) scope n in
    let ps = part_lines (at_fields false types cs) scope ss.fresh in
    record { fresh = ps.fresh; term = prepend ss.binds (Tuple types ss.atoms ps.parts); ty = Whole }

-- What is bound to a term, the names with what they became, and the first unused number.
pub record Bounded : Type 0 where
  pub fresh : ℕ
  pub side : Side
  pub scope : Scope

-- Several names, for the parts of an expression: the names are put before those of a scope.
abbrev pub several_side : List Ident → List Ty → ToLine → Scope → ℕ → Scope → Bounded
several_side xs types line scope n inner =
    let l = line scope (n + length xs) in
    record { fresh = l.fresh; side = core.Several (variables_from n xs) types l.term; scope = with_fields xs types n inner }

-- One name or several, for an expression: one name is bound as a side of a `let par`.
abbrev pub bound_side : List Ident → List Ty → Code → Scope → ℕ → Scope → Bounded
bound_side [] types c scope n inner = several_side [] types c.line scope n inner
bound_side (x ∷ []) types c scope n inner =
    let l = c.side scope (n + 1) in
    record { fresh = l.fresh; side = On (kind_of l.ty) (record { 0 = n }) l.ty l.term; scope = slot x (var n) l.ty ∷ inner }
bound_side (x ∷ y ∷ xs) types c scope n inner = several_side (x ∷ y ∷ xs) types c.line scope n inner

-- A `let` of several names.
abbrev pub several_line : List Ident → List Ty → Code → ToLine → ToLine
several_line xs types bound body scope n =
    let l = bound_side xs types bound scope n scope in
    let r = body l.scope l.fresh in
    record { fresh = r.fresh; term = Then (One l.side) r.term; ty = r.ty }

-- A `let par` of which a side has several names: both sides see the names outside alone, the body sees all.
abbrev pub sides_line : List Ident → List Ty → Code → List Ident → List Ty → Code → ToLine → ToLine
sides_line xs types left ys other right body scope n =
    let l = bound_side xs types left scope n scope in
    let r = bound_side ys other right scope l.fresh l.scope in
    let t = body r.scope r.fresh in
    record { fresh = t.fresh; term = Then (Both false l.side r.side) t.term; ty = t.ty }

-- An `if`: the bindings of its condition, and then its branches, which share no variable.
abbrev pub if_line : ToAtom → ToLine → ToLine → ToLine
if_line condition left right scope n =
    let x = condition scope n in
    let l = left scope x.fresh in
    let r = right scope l.fresh in
    record { fresh = r.fresh; term = prepend x.binds (IfTerm x.atom l.term r.term); ty = l.ty }

-- What an arm became: its constructor, the names of its fields, and its code.
pub record ArmCode : Type 0 where
  pub con : ℕ
  pub names : List Ident
  pub code : Code

-- Branches, with the type of the first one.
pub record Branched : Type 0 where
  pub fresh : ℕ
  pub branches : Branches
  pub ty : Ty

-- The arm of a constructor.
abbrev pub arm_for : List ArmCode → ℕ → Option ArmCode
arm_for [] k = None
arm_for (arm ∷ arms) k = if arm.con == k then Some arm else arm_for arms k

-- The branch of a constructor with this arm, and further branches.
abbrev pub branch_of : Table → ℕ → Option ArmCode → Scope → ℕ → (ℕ → Branched) → Branched
branch_of table k None scope n further = further n
branch_of table k (Some arm) scope n further =
    let l = arm.code.line (with_fields arm.names (fields_at table k) n scope) (n + length arm.names) in
    let r = further l.fresh in
    record { fresh = r.fresh; branches = BranchThen (record { 0 = k }) (variables_from n arm.names) l.term r.branches; ty = l.ty }

-- The branches of these constructors, in their order.
abbrev pub branches_of : Table → List ℕ → List ArmCode → Scope → ℕ → Branched
branches_of table [] arms scope n = record { fresh = n; branches = NoBranch; ty = Whole }
branches_of table (k ∷ ks) arms scope n = branch_of table k (arm_for arms k) scope n (λ m. branches_of table ks arms scope m)

-- The constructor of the first of these arms.
abbrev pub first_constructor : List ArmCode → ℕ
first_constructor [] = 0
first_constructor (arm ∷ arms) = arm.con

-- A case: its branches stand in declared order.
abbrev pub case_line : Table → Ident → List ArmCode → ToLine
case_line table x arms scope n =
    let r = branches_of table (constructors_of table (owner_at table (first_constructor arms))) arms scope n in
    record { fresh = r.fresh; term = CaseTerm (atom_at scope (number_of x)) r.branches; ty = r.ty }

-- The constructor of a name; of an undeclared one, which typing excludes, the first one.
abbrev pub con_or : Option ℕ → ℕ
con_or None = 0
con_or (Some k) = k

-- The constructor of a name.
abbrev pub con_named : Globals → Ident → ℕ
con_named g k = con_or (constructor_named g.table (number_of k))

-- What a function gives; `Int` where it is not declared, which typing excludes.
abbrev pub gives_type : Table → Option FunctionTree → Results Ty
gives_type table None = results.One Whole
gives_type table (Some f) = result_types table f

abbrev mutual
  -- What an expression becomes.
  pub infer : Globals → Expression → Code
  infer g (Var x) = of_plain (λ scope. type_at scope (number_of x)) (λ scope. atom_at scope (number_of x))
  infer g (Num p n) = of_plain (λ _. Whole) (λ _. a.Whole (pos n))
  infer g (Bit p b) = of_plain (λ _. Truth) (λ _. a.Truth b)
  infer g (Paren p e) = infer g e
  infer g (Op p f x y) = of_atom (operation_atom f (infer g x).atom (infer g y).atom)
  infer g (Call f xs) = call_code (gives_type g.table (function_named g.functions (number_of f))) f.name (infer_all g xs)
  infer g (Make k xs) = of_line (make_line g.table (record { 0 = con_named g k }) (infer_all g xs))
  infer g (Let p x e f) = of_line (let_line x (infer g e).bound (infer g f).line)
  infer g (Par p x d y e f) = of_line (par_line x (infer g d).side y (infer g e).side (infer g f).line)
  infer g (If p c d e) = of_line (if_line (infer g c).atom (infer g d).line (infer g e).line)
  infer g (Case p x arms) = of_line (case_line g.table x (infer_arms g arms))
  infer g (source.Tuple p as' xs) = of_line (tuple_line (map (type_of_name g.table.types) as') (infer_all g xs))
  infer g (LetSeveral p qs d f) = of_line (several_line (names_of qs) (types_of g.table.types qs) (infer g d) (infer g f).line)
  infer g (ParSeveral p qs d rs e f) =
      of_line (sides_line (names_of qs) (types_of g.table.types qs) (infer g d) (names_of rs) (types_of g.table.types rs) (infer g e) (infer g f).line)

  -- What arguments become.
  pub infer_all : Globals → Arguments → List Code
  infer_all g NoArgument = []
  infer_all g (Argument e xs) = infer g e ∷ infer_all g xs

  -- What arms become.
  pub infer_arms : Globals → Arms → List ArmCode
  infer_arms g (LastArm k xs e) = record { con = con_named g k; names = xs; code = infer g e } ∷ []
  infer_arms g (NextArm k xs e arms) = record { con = con_named g k; names = xs; code = infer g e } ∷ infer_arms g arms

-- A body whose parameters have these names and types: they are its first variables.
abbrev pub infer_body : Globals → List Ident → List Ty → Expression → Term
infer_body g names types e = ((infer g e).line (with_fields names types 0 []) (length names)).term

-- A function.
abbrev pub infer_function : Globals → FunctionTree → FunctionTerm
infer_function g f = record {
  name = f.name.name;
  parameters = parameter_types g.table f;
  result = result_types g.table f;
  body = infer_body g (names_of f.parameters) (parameter_types g.table f) f.body;
}

-- The core of a program.
abbrev pub infer_program : ProgramTree → CoreTree
infer_program p =
    let g = globals_of p in
    let parameter = type_of_name g.table.types p.main.parameter.ty in
    record {
      table = g.table;
      functions = map (infer_function g) p.functions;
      main = record {
        parameter = parameter;
        result = type_of_name g.table.types p.main.result;
        body = infer_body g (p.main.parameter.name ∷ []) (parameter ∷ []) p.main.body;
      };
      offsets = [];
      marked = false;
    }
