-- Variables are numbered in the order in which the text binds them.
use Rattle.std.proofs.Common.{◌≡◌, ℕ, ◌+◌, Bool, true, false, ◌==◌, if◌then◌else◌, List, [], ◌∷◌, ◌++◌, map, length, Option, Some, None, refl, sym, ap, ◌∙◌, subst, arith}
use Rattle.std.specs.Prelude.{pos}
use Rattle.std.specs.List.{AllByRecursion}
use Rattle.std.proofs.lemmas.List.{append_assoc, length-map}
use Rattle.gib_base.specs.declared.name.Name.{Name}
use Rattle.gib_types.specs.declared.table.Ty.{Ty}
use Rattle.gib_types.specs.declared.table.Ty.TheVariants.{Whole, Truth, Tree}
use Rattle.gib_types.specs.declared.table.ConId.{ConId}
use Rattle.gib_types.specs.Table.{Table, fields_at, owner_at}
use Rattle.gib_syntax.specs.declared.tree.Ident.{Ident}
use Rattle.gib_types.specs.declared.operator.Operator.{Operator}
use Rattle.gib_syntax.specs.declared.tree.Parameter.{Parameter}
use Rattle.gib_syntax.specs.Tree as source
use Rattle.gib_syntax.specs.Results as results
use Rattle.gib_syntax.specs.Results.{Results}
use Rattle.gib_syntax.specs.Tree.{Expression, Arguments, Arms, Var, Num, Bit, Paren, Op, Call, Make, Let, Par, If, Case, LetSeveral, ParSeveral, NoArgument, Argument, LastArm, NextArm, FunctionTree, ProgramTree}
use Rattle.gib_syntax.specs.Declarations.{number_of, function_named, type_of_name}
use Rattle.gib_syntax.specs.Typing.{Globals, globals_of, parameter_types, types_of, result_types}
use Rattle.gib_syntax.specs.Meaning.{at_fields, names_of}
use Rattle.gib_core.specs.declared.atom.Variable.{Variable}
use Rattle.gib_core.specs.declared.atom.Atom.{Atom}
use Rattle.gib_core.specs.declared.atom.Atom.TheVariants as atomic
use Rattle.gib_core.specs.declared.atom.Kind.TheVariants.{Scalar}
use Rattle.gib_core.specs.Tree.{Term, Write, CallTerm, Give, IfTerm, Tuple, Bind, Past, One, Prim, On, var, variables_from, prepend, FunctionTerm}
use Rattle.gib_core.specs.Inferring.{Scope, slot, Lined, Atomed, Several, ToLine, ToAtom, Code, boxed, given, of_line, of_atom, result_of, plain_line, of_plain, several, operation_atom, call_line, call_atom, call_side, scalar_call, call_code, further_types, pointed_fields, as_atoms, make_from, make_line, let_line, par_line, if_line, part_lines, tuple_line, Bounded, several_side, bound_side, several_line, sides_line, ArmCode, with_fields, arm_for, branch_of, branches_of, numbers_from, constructors_of, first_constructor, case_line, atom_at, type_at, con_named, gives_type, infer, infer_all, infer_arms, infer_body, infer_function, infer_program}
use Rattle.gib_core.specs.Met.{Body}
use Rattle.gib_core.specs.Numbering.{binders, bind_binders, side_binders, part_binders, branch_binders, IsNumbered, AreNumbered}
use Rattle.gib_core.proofs.Runs.{Runs, runs_append, runs_numbers}

-- Bindings.

abbrev all_binders : List Bind → List ℕ
all_binders [] = []
all_binders (b ∷ bs) = bind_binders b ++ all_binders bs

binders_prepend : (bs : List Bind) (t : Term) → binders (prepend bs t) ≡ all_binders bs ++ binders t
binders_prepend [] t = refl
binders_prepend (b ∷ bs) t = ap (λ l. bind_binders b ++ l) (binders_prepend bs t) ∙ sym (append_assoc (bind_binders b) (all_binders bs) (binders t))

binders_append : (xs ys : List Bind) → all_binders (xs ++ ys) ≡ all_binders xs ++ all_binders ys
binders_append [] ys = refl
binders_append (b ∷ xs) ys = ap (λ l. bind_binders b ++ l) (binders_append xs ys) ∙ sym (append_assoc (bind_binders b) (all_binders xs) (all_binders ys))

runs_prepend : (n k m : ℕ) (bs : List Bind) (t : Term) → Runs n (all_binders bs) k → Runs k (binders t) m → Runs n (binders (prepend bs t)) m
runs_prepend n k m bs t e h = subst (λ (l : List ℕ). Runs n l m) (sym (binders_prepend bs t)) (runs_append n k m (all_binders bs) (binders t) e h)

runs_binds : (n k m : ℕ) (xs ys : List Bind) → Runs n (all_binders xs) k → Runs k (all_binders ys) m → Runs n (all_binders (xs ++ ys)) m
runs_binds n k m xs ys e h = subst (λ (l : List ℕ). Runs n l m) (sym (binders_append xs ys)) (runs_append n k m (all_binders xs) (all_binders ys) e h)

-- What an expression becomes binds the numbers from the first unused one on to the next unused one.

abbrev LineRuns : ℕ → Lined → Type 0
LineRuns n l = Runs n (binders l.term) l.fresh

abbrev AtomRuns : ℕ → Atomed → Type 0
AtomRuns n x = Runs n (all_binders x.binds) x.fresh

abbrev SeveralRun : ℕ → Several → Type 0
SeveralRun n s = Runs n (all_binders s.binds) s.fresh

record CodeRuns (c : Code) : Type 0 where
  pub line : (sc : Scope) (n : ℕ) → LineRuns n (c.line sc n)
  pub side : (sc : Scope) (n : ℕ) → LineRuns n (c.side sc n)
  pub atom : (sc : Scope) (n : ℕ) → AtomRuns n (c.atom sc n)
  pub bound : (sc : Scope) (n : ℕ) → AtomRuns n (c.bound sc n)

abbrev AllRun : List Code → Type 0
AllRun [] = Unit {0}
AllRun (c ∷ cs) = CodeRuns c × AllRun cs

boxed_runs : (line : ToLine) → ((sc : Scope) (n : ℕ) → LineRuns n (line sc n)) → (sc : Scope) (n : ℕ) → AtomRuns n (boxed line sc n)
boxed_runs line h sc n =
    let l = line sc (n + 1) in
    (refl, runs_append (n + 1) l.fresh l.fresh (binders l.term) [] (h sc (n + 1)) refl)

given_runs : (atom : ToAtom) → ((sc : Scope) (n : ℕ) → AtomRuns n (atom sc n)) → (sc : Scope) (n : ℕ) → LineRuns n (given atom sc n)
given_runs atom h sc n = let x = atom sc n in runs_prepend n x.fresh x.fresh x.binds (Give x.atom) (h sc n) refl

line_code : (line : ToLine) → ((sc : Scope) (n : ℕ) → LineRuns n (line sc n)) → CodeRuns (of_line line)
line_code line h = record { line = h; side = h; atom = boxed_runs line h; bound = boxed_runs line h }

atom_code : (atom : ToAtom) → ((sc : Scope) (n : ℕ) → AtomRuns n (atom sc n)) → CodeRuns (of_atom atom)
atom_code atom h = record { line = given_runs atom h; side = given_runs atom h; atom = h; bound = h }

result_runs : (ty : Ty) (a : Atom) (n : ℕ) → Runs n (binders (result_of ty a)) n
result_runs Whole a n = refl
result_runs Truth a n = refl
result_runs (Tree t) a n = refl

plain_code : (ty : Scope → Ty) (atom : Scope → Atom) → CodeRuns (of_plain ty atom)
plain_code ty atom = record {
  line = λ sc n. result_runs (ty sc) (atom sc) n;
  side = λ sc n. result_runs (ty sc) (atom sc) n;
  atom = λ sc n. refl;
  bound = boxed_runs (plain_line ty atom) (λ sc n. result_runs (ty sc) (atom sc) n);
}

several_run : (cs : List Code) → AllRun cs → (sc : Scope) (n : ℕ) → SeveralRun n (several cs sc n)
several_run [] h sc n = refl
several_run (c ∷ cs) h sc n =
    let x = c.atom sc n in
    let r = several cs sc x.fresh in
    runs_binds n x.fresh r.fresh x.binds r.binds (h.0.atom sc n) (several_run cs h.1 sc x.fresh)

operation_runs : (f : Operator) (left right : ToAtom) → ((sc : Scope) (n : ℕ) → AtomRuns n (left sc n)) → ((sc : Scope) (n : ℕ) → AtomRuns n (right sc n))
    → (sc : Scope) (n : ℕ) → AtomRuns n (operation_atom f left right sc n)
operation_runs f left right hl hr sc n =
    let x = left sc n in
    let y = right sc x.fresh in
    let prim = Prim (record { 0 = y.fresh }) f x.atom y.atom in
    runs_binds n x.fresh (y.fresh + 1) x.binds (y.binds ++ prim ∷ []) (hl sc n)
    (runs_binds x.fresh y.fresh (y.fresh + 1) y.binds (prim ∷ []) (hr sc x.fresh) (refl, refl))

call_line_runs : (ty : Ty) (f : Name) (r : Several) (n : ℕ) → SeveralRun n r → LineRuns n (call_line ty f r)
call_line_runs ty f r n h = runs_prepend n r.fresh r.fresh r.binds (CallTerm f r.atoms) h refl

call_atom_runs : (ty : Ty) (f : Name) (r : Several) (n : ℕ) → SeveralRun n r → AtomRuns n (call_atom ty f r)
call_atom_runs ty f r n h = runs_binds n r.fresh (r.fresh + 1) r.binds (One (On Scalar (record { 0 = r.fresh }) ty (CallTerm f r.atoms)) ∷ []) h (refl, refl)

call_side_runs : (ty : Ty) (f : Name) (r : Several) (n : ℕ) (bs : List Bind) → r.binds ≡ bs → SeveralRun n r → LineRuns n (call_side ty f r bs)
call_side_runs ty f r n [] e h = subst (λ (b : List Bind). Runs n (all_binders b) r.fresh) e h
call_side_runs ty f r n (b ∷ bs) e h =
    let x = call_atom ty f r in
    runs_prepend n x.fresh x.fresh x.binds (Give x.atom) (call_atom_runs ty f r n h) refl

scalar_code : (ty : Ty) (f : Name) (cs : List Code) → AllRun cs → CodeRuns (scalar_call ty f cs)
scalar_code ty f cs h =
    let c = atom_code (λ sc n. call_atom ty f (several cs sc n)) (λ sc n. call_atom_runs ty f (several cs sc n) n (several_run cs h sc n)) in
    record { line = c.line; side = λ sc n. call_side_runs ty f (several cs sc n) n (several cs sc n).binds refl (several_run cs h sc n); atom = c.atom; bound = c.bound }

call_runs : (given : Results Ty) (f : Name) (cs : List Code) → AllRun cs → CodeRuns (call_code given f cs)
call_runs (results.One (Tree t)) f cs h = line_code (λ sc n. call_line (Tree t) f (several cs sc n)) (λ sc n. call_line_runs (Tree t) f (several cs sc n) n (several_run cs h sc n))
call_runs (results.One Whole) f cs h = scalar_code Whole f cs h
call_runs (results.One Truth) f cs h = scalar_code Truth f cs h
call_runs (results.Several tys) f cs h = line_code (λ sc n. call_line Whole f (several cs sc n)) (λ sc n. call_line_runs Whole f (several cs sc n) n (several_run cs h sc n))

pointed_run : (n m : ℕ) (types : List Ty) (xs : List Atom) → n + length xs ≡ m → Runs n (all_binders (pointed_fields n types xs)) m
pointed_run n m types [] e = omega arith
pointed_run n m types (x ∷ xs) e = (refl, pointed_run (n + 1) m (further_types types) xs (omega arith))

make_runs : (ty : Ty) (k : ConId) (types : List Ty) (ss ps : Several) (n : ℕ) → SeveralRun n ss → SeveralRun ss.fresh ps → LineRuns n (make_from ty k types ss ps)
make_runs ty k types ss ps n hs hp =
    let h = ps.fresh in
    let m = h + 1 + length ps.atoms in
    let fields = Past (record { 0 = h }) k ∷ pointed_fields (h + 1) types ps.atoms in
    runs_prepend n m m (ss.binds ++ (ps.binds ++ fields)) (Write (record { 0 = h }) k ss.atoms (as_atoms (variables_from (h + 1) ps.atoms)))
    (runs_binds n ss.fresh m ss.binds (ps.binds ++ fields) hs (runs_binds ss.fresh h m ps.binds fields hp (refl, pointed_run (h + 1) m types ps.atoms refl))) refl

select_codes : (kind : Bool) (types : List Ty) (cs : List Code) → AllRun cs → AllRun (at_fields kind types cs)
select_codes kind [] cs h = tt
select_codes kind (t ∷ types) [] h = tt
select_codes true (Whole ∷ types) (c ∷ cs) h = (h.0, select_codes true types cs h.1)
select_codes true (Truth ∷ types) (c ∷ cs) h = (h.0, select_codes true types cs h.1)
select_codes true (Tree t ∷ types) (c ∷ cs) h = select_codes true types cs h.1
select_codes false (Whole ∷ types) (c ∷ cs) h = select_codes false types cs h.1
select_codes false (Truth ∷ types) (c ∷ cs) h = select_codes false types cs h.1
select_codes false (Tree t ∷ types) (c ∷ cs) h = (h.0, select_codes false types cs h.1)

make_line_runs : (table : Table) (k : ConId) (cs : List Code) → AllRun cs → (sc : Scope) (n : ℕ) → LineRuns n (make_line table k cs sc n)
make_line_runs table k cs h sc n =
    let types = fields_at table k.0 in
    let ss = several (at_fields true types cs) sc n in
    let ps = several (at_fields false types cs) sc ss.fresh in
    make_runs (Tree (record { 0 = owner_at table k.0 })) k (at_fields false types types) ss ps n
    (several_run (at_fields true types cs) (select_codes true types cs h) sc n) (several_run (at_fields false types cs) (select_codes false types cs h) sc ss.fresh)

let_runs : (x : Ident) (bound : ToAtom) (body : ToLine) → ((sc : Scope) (n : ℕ) → AtomRuns n (bound sc n)) → ((sc : Scope) (n : ℕ) → LineRuns n (body sc n))
    → (sc : Scope) (n : ℕ) → LineRuns n (let_line x bound body sc n)
let_runs x bound body ha hb sc n =
    let l = bound sc n in
    let r = body (slot x l.atom l.ty ∷ sc) l.fresh in
    runs_prepend n l.fresh r.fresh l.binds r.term (ha sc n) (hb (slot x l.atom l.ty ∷ sc) l.fresh)

par_runs : (x : Ident) (left : ToLine) (y : Ident) (right body : ToLine) → ((sc : Scope) (n : ℕ) → LineRuns n (left sc n)) → ((sc : Scope) (n : ℕ) → LineRuns n (right sc n))
    → ((sc : Scope) (n : ℕ) → LineRuns n (body sc n)) → (sc : Scope) (n : ℕ) → LineRuns n (par_line x left y right body sc n)
par_runs x left y right body hl hr hb sc n =
    let l = left sc (n + 1) in
    let r = right sc (l.fresh + 1) in
    let sc' = slot y (var l.fresh) r.ty ∷ slot x (var n) l.ty ∷ sc in
    let t = body sc' r.fresh in
    runs_append n r.fresh t.fresh (n ∷ binders l.term ++ l.fresh ∷ binders r.term) (binders t.term)
    (refl, runs_append (n + 1) l.fresh r.fresh (binders l.term) (l.fresh ∷ binders r.term) (hl sc (n + 1)) (refl, hr sc (l.fresh + 1))) (hb sc' r.fresh)

if_runs : (test : ToAtom) (left right : ToLine) → ((sc : Scope) (n : ℕ) → AtomRuns n (test sc n)) → ((sc : Scope) (n : ℕ) → LineRuns n (left sc n)) → ((sc : Scope) (n : ℕ) → LineRuns n (right sc n))
    → (sc : Scope) (n : ℕ) → LineRuns n (if_line test left right sc n)
if_runs test left right ht hl hr sc n =
    let x = test sc n in
    let l = left sc x.fresh in
    let r = right sc l.fresh in
    runs_prepend n x.fresh r.fresh x.binds (IfTerm x.atom l.term r.term) (ht sc n)
    (runs_append x.fresh l.fresh r.fresh (binders l.term) (binders r.term) (hl sc x.fresh) (hr sc l.fresh))

-- Arms.

abbrev ArmsRun : List ArmCode → Type 0
ArmsRun [] = Unit {0}
ArmsRun (a ∷ as') = CodeRuns a.code × ArmsRun as'

abbrev ArmRuns : Option ArmCode → Type 0
ArmRuns None = Unit {0}
ArmRuns (Some a) = CodeRuns a.code

arm_runs : (as' : List ArmCode) (k : ℕ) → ArmsRun as' → ArmRuns (arm_for as' k)
arm_runs [] k h = tt
arm_runs (a ∷ as') k h = here (a.con == k) (arm_runs as' k h.1)
  where
    here : (b : Bool) → ArmRuns (arm_for as' k) → ArmRuns (if b then Some a else arm_for as' k)
    here true e = h.0
    here false e = e

fields_run : {A : Type 0} (n m : ℕ) (xs : List A) → n + length xs ≡ m → Runs n (map (λ (x : Variable). x.0) (variables_from n xs)) m
fields_run n m [] e = omega arith
fields_run n m (x ∷ xs) e = (refl, fields_run (n + 1) m xs (omega arith))

branches_run : (table : Table) (ks : List ℕ) (as' : List ArmCode) → ArmsRun as' → (sc : Scope) (n : ℕ) → Runs n (branch_binders (branches_of table ks as' sc n).branches) (branches_of table ks as' sc n).fresh
branches_run table [] as' h sc n = refl
branches_run table (k ∷ ks) as' h sc n = go (arm_for as' k) (arm_runs as' k h) (branches_run table ks as' h sc)
  where
    go : (o : Option ArmCode) → ArmRuns o → ((m : ℕ) → Runs m (branch_binders (branches_of table ks as' sc m).branches) (branches_of table ks as' sc m).fresh)
        → Runs n (branch_binders (branch_of table k o sc n (λ m. branches_of table ks as' sc m)).branches) (branch_of table k o sc n (λ m. branches_of table ks as' sc m)).fresh
    go None e next = next n
    go (Some a) e next =
        let start = n + length a.names in
        let sc' = with_fields a.names (fields_at table k) n sc in
        let l = a.code.line sc' start in
        let r = branches_of table ks as' sc l.fresh in
        runs_append n start r.fresh (map (λ (x : Variable). x.0) (variables_from n a.names)) (binders l.term ++ branch_binders r.branches)
        (fields_run n start a.names refl) (runs_append start l.fresh r.fresh (binders l.term) (branch_binders r.branches) (e.line sc' start) (next l.fresh))

case_runs : (table : Table) (x : Ident) (as' : List ArmCode) → ArmsRun as' → (sc : Scope) (n : ℕ) → LineRuns n (case_line table x as' sc n)
case_runs table x as' h sc n = branches_run table (constructors_of table (owner_at table (first_constructor as'))) as' h sc n

-- Several parts.

parts_run : (cs : List Code) → AllRun cs → (sc : Scope) (n : ℕ) → Runs n (part_binders (part_lines cs sc n).parts) (part_lines cs sc n).fresh
parts_run [] h sc n = refl
parts_run (c ∷ cs) h sc n =
    let l = c.line sc n in
    let r = part_lines cs sc l.fresh in
    runs_append n l.fresh r.fresh (binders l.term) (part_binders r.parts) (h.0.line sc n) (parts_run cs h.1 sc l.fresh)

tuple_runs : (types : List Ty) (cs : List Code) → AllRun cs → (sc : Scope) (n : ℕ) → LineRuns n (tuple_line types cs sc n)
tuple_runs types cs h sc n =
    let ss = several (at_fields true types cs) sc n in
    let ps = part_lines (at_fields false types cs) sc ss.fresh in
    runs_prepend n ss.fresh ps.fresh ss.binds (Tuple types ss.atoms ps.parts) (several_run (at_fields true types cs) (select_codes true types cs h) sc n)
    (parts_run (at_fields false types cs) (select_codes false types cs h) sc ss.fresh)

abbrev SideRuns : ℕ → Bounded → Type 0
SideRuns n b = Runs n (side_binders b.side) b.fresh

several_side_runs : (xs : List Ident) (types : List Ty) (line : ToLine) → ((sc : Scope) (n : ℕ) → LineRuns n (line sc n)) → (sc : Scope) (n : ℕ) (inner : Scope) → SideRuns n (several_side xs types line sc n inner)
several_side_runs xs types line h sc n inner =
    let l = line sc (n + length xs) in
    runs_append n (n + length xs) l.fresh (map (λ (x : Variable). x.0) (variables_from n xs)) (binders l.term) (fields_run n (n + length xs) xs refl) (h sc (n + length xs))

bound_side_runs : (xs : List Ident) (types : List Ty) (c : Code) → CodeRuns c → (sc : Scope) (n : ℕ) (inner : Scope) → SideRuns n (bound_side xs types c sc n inner)
bound_side_runs [] types c h sc n inner = several_side_runs [] types c.line h.line sc n inner
bound_side_runs (x ∷ []) types c h sc n inner = (refl, h.side sc (n + 1))
bound_side_runs (x ∷ y ∷ xs) types c h sc n inner = several_side_runs (x ∷ y ∷ xs) types c.line h.line sc n inner

several_line_runs : (xs : List Ident) (types : List Ty) (c : Code) (body : ToLine) → CodeRuns c → ((sc : Scope) (n : ℕ) → LineRuns n (body sc n)) → (sc : Scope) (n : ℕ) → LineRuns n (several_line xs types c body sc n)
several_line_runs xs types c body hc hb sc n =
    let l = bound_side xs types c sc n sc in
    let r = body l.scope l.fresh in
    runs_append n l.fresh r.fresh (side_binders l.side) (binders r.term) (bound_side_runs xs types c hc sc n sc) (hb l.scope l.fresh)

sides_line_runs : (xs : List Ident) (types : List Ty) (c : Code) (ys : List Ident) (other : List Ty) (d : Code) (body : ToLine) → CodeRuns c → CodeRuns d → ((sc : Scope) (n : ℕ) → LineRuns n (body sc n))
    → (sc : Scope) (n : ℕ) → LineRuns n (sides_line xs types c ys other d body sc n)
sides_line_runs xs types c ys other d body hc hd hb sc n =
    let l = bound_side xs types c sc n sc in
    let r = bound_side ys other d sc l.fresh l.scope in
    let t = body r.scope r.fresh in
    runs_append n r.fresh t.fresh (side_binders l.side ++ side_binders r.side) (binders t.term)
    (runs_append n l.fresh r.fresh (side_binders l.side) (side_binders r.side) (bound_side_runs xs types c hc sc n sc) (bound_side_runs ys other d hd sc l.fresh l.scope)) (hb r.scope r.fresh)

module _ (g : Globals) where
  mutual
    expression_runs : (e : Expression) → CodeRuns (infer g e)
    expression_runs (Var x) = plain_code (λ sc. type_at sc (number_of x)) (λ sc. atom_at sc (number_of x))
    expression_runs (Num p m) = plain_code (λ sc. Whole) (λ sc. atomic.Whole (pos m))
    expression_runs (Bit p b) = plain_code (λ sc. Truth) (λ sc. atomic.Truth b)
    expression_runs (Paren p e) = expression_runs e
    expression_runs (Op p f d e) = atom_code (operation_atom f (infer g d).atom (infer g e).atom) (operation_runs f (infer g d).atom (infer g e).atom (expression_runs d).atom (expression_runs e).atom)
    expression_runs (Call f xs) = call_runs (gives_type g.table (function_named g.functions (number_of f))) f.name (infer_all g xs) (arguments_run xs)
    expression_runs (Make k xs) = line_code (make_line g.table (record { 0 = con_named g k }) (infer_all g xs)) (make_line_runs g.table (record { 0 = con_named g k }) (infer_all g xs) (arguments_run xs))
    expression_runs (Let p x d e) = line_code (let_line x (infer g d).bound (infer g e).line) (let_runs x (infer g d).bound (infer g e).line (expression_runs d).bound (expression_runs e).line)
    expression_runs (Par p x d y e f) =
        line_code (par_line x (infer g d).side y (infer g e).side (infer g f).line)
        (par_runs x (infer g d).side y (infer g e).side (infer g f).line (expression_runs d).side (expression_runs e).side (expression_runs f).line)
    expression_runs (If p c d e) =
        line_code (if_line (infer g c).atom (infer g d).line (infer g e).line)
        (if_runs (infer g c).atom (infer g d).line (infer g e).line (expression_runs c).atom (expression_runs d).line (expression_runs e).line)
    expression_runs (Case p x arms) = line_code (case_line g.table x (infer_arms g arms)) (case_runs g.table x (infer_arms g arms) (all_arms_run arms))
    expression_runs (source.Tuple p as' xs) =
        let types = map (type_of_name g.table.types) as' in
        line_code (tuple_line types (infer_all g xs)) (tuple_runs types (infer_all g xs) (arguments_run xs))
    expression_runs (LetSeveral p qs d f) =
        line_code (several_line (names_of qs) (types_of g.table.types qs) (infer g d) (infer g f).line)
        (several_line_runs (names_of qs) (types_of g.table.types qs) (infer g d) (infer g f).line (expression_runs d) (expression_runs f).line)
    expression_runs (ParSeveral p qs d rs e f) =
        line_code (sides_line (names_of qs) (types_of g.table.types qs) (infer g d) (names_of rs) (types_of g.table.types rs) (infer g e) (infer g f).line)
        (sides_line_runs (names_of qs) (types_of g.table.types qs) (infer g d) (names_of rs) (types_of g.table.types rs) (infer g e) (infer g f).line (expression_runs d) (expression_runs e) (expression_runs f).line)

    arguments_run : (xs : Arguments) → AllRun (infer_all g xs)
    arguments_run NoArgument = tt
    arguments_run (Argument e xs) = (expression_runs e, arguments_run xs)

    all_arms_run : (arms : Arms) → ArmsRun (infer_arms g arms)
    all_arms_run (LastArm k xs e) = (expression_runs e, tt)
    all_arms_run (NextArm k xs e arms) = (expression_runs e, all_arms_run arms)

  body_numbered : (names : List Ident) (types : List Ty) (result : Results Ty) (e : Expression) → length names ≡ length types
      → IsNumbered (record { parameters = types; result = result; term = infer_body g names types e })
  body_numbered names types result e same =
      let l = (infer g e).line (with_fields names types 0 []) (length names) in
      runs_numbers (length names) l.fresh (binders l.term) ((expression_runs e).line (with_fields names types 0 []) (length names))
      ∙ ap (λ n. numbers_from n (length (binders l.term))) same

  function_numbered : (f : FunctionTree) → IsNumbered (record { parameters = parameter_types g.table f; result = result_types g.table f; term = (infer_function g f).body })
  function_numbered f =
      body_numbered (names_of f.parameters) (parameter_types g.table f) (result_types g.table f) f.body
      (length-map f.parameters (λ (q : Parameter). q.name) ∙ sym (length-map f.parameters (λ (q : Parameter). type_of_name g.table.types q.ty)))

  functions_numbered : (fs : List FunctionTree) (last : Body) → IsNumbered last
      → AllByRecursion IsNumbered (map (λ (f : FunctionTerm). record { parameters = f.parameters; result = f.result; term = f.body }) (map (infer_function g) fs) ++ last ∷ [])
  functions_numbered [] last h = (h, tt)
  functions_numbered (f ∷ fs) last h = (function_numbered f, functions_numbered fs last h)

-- What a program becomes is numbered in the order of the text.
pub infer_numbered : (p : ProgramTree) → AreNumbered (infer_program p)
infer_numbered p =
    let g = globals_of p in
    let parameter = type_of_name g.table.types p.main.parameter.ty in
    let result = results.One (type_of_name g.table.types p.main.result) in
    functions_numbered g p.functions (record { parameters = parameter ∷ []; result = result; term = infer_body g (p.main.parameter.name ∷ []) (parameter ∷ []) p.main.body })
    (body_numbered g (p.main.parameter.name ∷ []) (parameter ∷ []) result p.main.body refl)
