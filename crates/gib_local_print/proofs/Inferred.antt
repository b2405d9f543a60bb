-- What a source becomes has the form of cores.
use Rattle.std.proofs.Common.{◌≡◌, ◌⊎◌, inl, inr, ℕ, zero, suc, ◌+◌, ◌<◌, ◌≤◌, ◌==◌, Bool, true, false, if◌then◌else◌, List, [], ◌∷◌, ◌++◌, map, length, Option, Some, None, refl, sym, ap, ◌∙◌, subst, arith}
use Rattle.std.specs.List.{AllByRecursion}
use Rattle.gib_base.specs.declared.name.Name.{Name}
use Rattle.gib_types.specs.declared.table.Ty.{Ty}
use Rattle.gib_types.specs.declared.table.Ty.TheVariants.{Whole, Truth, Tree}
use Rattle.gib_types.specs.declared.table.ConId.{ConId}
use Rattle.gib_types.specs.Row.{Row}
use Rattle.gib_types.specs.Table.{Table, IsTable, fields_at, owner_at, at_fields, is_scalar, tree_types, constructors_of, numbers_from, first_at, count_at}
use Rattle.gib_types.proofs.Owners.{together, tag_there}
use Rattle.gib_syntax.specs.declared.tree.Ident.{Ident}
use Rattle.gib_syntax.specs.Tree.{Expression, Arguments, Arms, Var, Num, Bit, Paren, Op, Call, Make, Let, Par, If, Case, Tuple, LetSeveral, ParSeveral, NoArgument, Argument, LastArm, NextArm}
use Rattle.gib_syntax.specs.Results as results
use Rattle.gib_syntax.specs.Results.{Results}
use Rattle.gib_check.proofs.Different.{place_within}
use Rattle.gib_syntax.specs.Declarations.{number_of, constructor_named, function_named, type_of_name}
use Rattle.gib_syntax.specs.Meaning.{names_of}
use Rattle.gib_syntax.specs.Typing.{Globals, types_of}
use Rattle.gib_core.specs.declared.atom.Variable.{Variable}
use Rattle.gib_core.specs.declared.atom.Atom.{Atom}
use Rattle.gib_core.specs.declared.atom.Kind.TheVariants.{Scalar}
use Rattle.gib_core.specs.Tree.{Term, Then, Write, CallTerm, Give, IfTerm, Bind, Past, One, Both, Prim, Reach, On, prepend, var, variables_from}
use Rattle.gib_core.specs.Inferring.{Scope, Several, ToLine, ToAtom, Code, given, of_line, of_atom, result_of, of_plain, several, operation_atom, call_line, call_atom, call_side, scalar_call, call_code, pointed_fields, as_atoms, make_line, let_line, par_line, if_line, ArmCode, with_fields, Branched, arm_for, branch_of, branches_of, first_constructor, case_line, con_or, con_named, gives_type, part_lines, tuple_line, bound_side, several_line, sides_line, infer, infer_all, infer_arms, type_at, atom_at, slot, further_types}
use Rattle.gib_core.proofs.Lining.{prepend-append}
use Rattle.gib_local.specs.Building.{is_flat}
use Rattle.gib_local_print.specs.HasText.{IsBranch}
use Rattle.gib_local_print.specs.Covered.{Covered, AllCovered, ArmsCovered}
use Rattle.gib_local_print.specs.HasShape.{IsWrite}
use Rattle.gib_local_print.specs.HasForm.{IsFilledSo, HasForm, SideForm, PartsForm, BranchesForm}
use Rattle.std.proofs.lemmas.Bool.{eqb-true, eq-eqb, both_ways}
use Rattle.std.proofs.lemmas.List.{length-map}
use Rattle.gib_core.proofs.Facts.{Test, holds, fails, test}

-- A binding that keeps no room for a head.
abbrev pub PlainBind : Table → Bind → Type 0
PlainBind tb (Past h k) = ⊥
PlainBind tb (One s) = SideForm IsWrite tb s
PlainBind tb (Both fork l r) = (fork ≡ false) × SideForm IsWrite tb l × SideForm IsWrite tb r
PlainBind tb (Prim x f y z) = Unit {0}
PlainBind tb (Reach y by) = Unit {0}

abbrev pub Plain : Table → List Bind → Type 0
Plain tb bs = AllByRecursion (PlainBind tb) bs

plain_then : (tb : Table) (bs : List Bind) (t : Term) → Plain tb bs → HasForm IsWrite tb t → HasForm IsWrite tb (prepend bs t)
plain_then tb [] t h g = g
plain_then tb (Past x k ∷ bs) t h g = absurd h.0
plain_then tb (One s ∷ bs) t h g = (h.0, plain_then tb bs t h.1 g)
plain_then tb (Both f l r ∷ bs) t h g = (h.0, plain_then tb bs t h.1 g)
plain_then tb (Prim x f y z ∷ bs) t h g = (tt, plain_then tb bs t h.1 g)
plain_then tb (Reach y by ∷ bs) t h g = (tt, plain_then tb bs t h.1 g)

plain_join : (tb : Table) (bs cs : List Bind) → Plain tb bs → Plain tb cs → Plain tb (bs ++ cs)
plain_join tb [] cs h g = g
plain_join tb (b ∷ bs) cs h g = (h.0, plain_join tb bs cs h.1 g)

-- The code of an expression has such a form in each place.
record Shaped (tb : Table) (c : Code) : Type 0 where
  line : (sc : Scope) (n : ℕ) → HasForm IsWrite tb (c.line sc n).term
  side : (sc : Scope) (n : ℕ) → HasForm IsWrite tb (c.side sc n).term
  atom : (sc : Scope) (n : ℕ) → Plain tb (c.atom sc n).binds
  bound : (sc : Scope) (n : ℕ) → Plain tb (c.bound sc n).binds

result_shape : (tb : Table) (t : Ty) (x : Atom) → HasForm IsWrite tb (result_of t x)
result_shape tb Whole x = tt
result_shape tb Truth x = tt
result_shape tb (Tree t) x = tt

line_shaped : (tb : Table) (l : ToLine) → ((sc : Scope) (n : ℕ) → HasForm IsWrite tb (l sc n).term) → Shaped tb (of_line l)
line_shaped tb l h = record { line = h; side = h; atom = λ sc n. (h sc (n + 1), tt); bound = λ sc n. (h sc (n + 1), tt) }

given_shape : (tb : Table) (x : ToAtom) → ((sc : Scope) (n : ℕ) → Plain tb (x sc n).binds) → (sc : Scope) (n : ℕ) → HasForm IsWrite tb (given x sc n).term
given_shape tb x h sc n = plain_then tb (x sc n).binds (Give (x sc n).atom) (h sc n) tt

atom_shaped : (tb : Table) (x : ToAtom) → ((sc : Scope) (n : ℕ) → Plain tb (x sc n).binds) → Shaped tb (of_atom x)
atom_shaped tb x h = record { line = given_shape tb x h; side = given_shape tb x h; atom = h; bound = h }

plain_shaped : (tb : Table) (ty : Scope → Ty) (x : Scope → Atom) → Shaped tb (of_plain ty x)
plain_shaped tb ty x = record {
  line = λ sc n. result_shape tb (ty sc) (x sc);
  side = λ sc n. result_shape tb (ty sc) (x sc);
  atom = λ sc n. tt;
  bound = λ sc n. (result_shape tb (ty sc) (x sc), tt);
}

several_plain : (tb : Table) (cs : List Code) (sc : Scope) (n : ℕ) → AllByRecursion (Shaped tb) cs → Plain tb (several cs sc n).binds
several_plain tb [] sc n h = tt
several_plain tb (c ∷ cs) sc n h = plain_join tb (c.atom sc n).binds (several cs sc (c.atom sc n).fresh).binds (h.0.atom sc n) (several_plain tb cs sc (c.atom sc n).fresh h.1)

if_shaped : (tb : Table) (b : Bool) (xs ys : List Code) → AllByRecursion (Shaped tb) xs → AllByRecursion (Shaped tb) ys → AllByRecursion (Shaped tb) (if b then xs else ys)
if_shaped tb true xs ys h g = h
if_shaped tb false xs ys h g = g

fields_shaped : (tb : Table) (s : Bool) (ts : List Ty) (cs : List Code) → AllByRecursion (Shaped tb) cs → AllByRecursion (Shaped tb) (at_fields s ts cs)
fields_shaped tb s [] cs h = tt
fields_shaped tb s (t ∷ ts) [] h = tt
fields_shaped tb true (t ∷ ts) (c ∷ cs) h = if_shaped tb (is_scalar t) (c ∷ at_fields true ts cs) (at_fields true ts cs) (h.0, fields_shaped tb true ts cs h.1) (fields_shaped tb true ts cs h.1)
fields_shaped tb false (t ∷ ts) (c ∷ cs) h = if_shaped tb (is_scalar t) (at_fields false ts cs) (c ∷ at_fields false ts cs) (fields_shaped tb false ts cs h.1) (h.0, fields_shaped tb false ts cs h.1)

-- A constructor without packed fields has no packed arguments.
none_packed : (ts : List Ty) (cs : List Code) → length (tree_types ts) == 0 ≡ true → at_fields false ts cs ≡ []
none_packed [] cs e = refl
none_packed (Whole ∷ ts) [] e = refl
none_packed (Truth ∷ ts) [] e = refl
none_packed (Tree t ∷ ts) [] e = refl
none_packed (Whole ∷ ts) (c ∷ cs) e = none_packed ts cs e
none_packed (Truth ∷ ts) (c ∷ cs) e = none_packed ts cs e
none_packed (Tree t ∷ ts) (c ∷ cs) e = absurd (let f = eqb-true (suc (length (tree_types ts))) 0 e in cc)

pointed_plain : (tb : Table) (n : ℕ) (ts : List Ty) (xs : List Atom) → Plain tb (pointed_fields n ts xs)
pointed_plain tb n ts [] = tt
pointed_plain tb n ts (x ∷ xs) = (tt, pointed_plain tb (n + 1) (further_types ts) xs)

-- Behind the room for a head.
head_filled : (tb : Table) (k : ConId) (f : Bool) (n : ℕ) (types : List Ty) (xs : List Atom) (t : Term) → is_flat tb k ≡ f → (f ≡ true → xs ≡ []) → (xs ≡ [] → IsFilledSo IsWrite f (prepend (pointed_fields n types xs) t))
    → IsFilledSo IsWrite f (prepend (pointed_fields n types xs) t)
head_filled tb k false n types xs t e none h = tt
head_filled tb k true n types xs t e none h = h (none refl)

no_atoms : (cs : List Code) (sc : Scope) (n : ℕ) → cs ≡ [] → (several cs sc n).atoms ≡ []
no_atoms cs sc n e = ap (λ (l : List Code). (several l sc n).atoms) e

at_once : (f : Bool) (n : ℕ) (types : List Ty) (xs : List Atom) (h : Variable) (k : ConId) (ss ps : List Atom) → xs ≡ [] → IsFilledSo IsWrite f (prepend (pointed_fields n types xs) (Write h k ss ps))
at_once f n types xs h k ss ps e = subst (λ (l : List Atom). IsFilledSo IsWrite f (prepend (pointed_fields n types l) (Write h k ss ps))) (sym e) (filled f)
  where
    filled : (f : Bool) → IsFilledSo IsWrite f (Write h k ss ps)
    filled true = tt
    filled false = tt

make_shape : (tb : Table) (k : ConId) (cs : List Code) → AllByRecursion (Shaped tb) cs → (sc : Scope) (n : ℕ) → HasForm IsWrite tb (make_line tb k cs sc n).term
make_shape tb k cs h sc n =
    let types : List Ty = fields_at tb k.0 in
    let sc1 : List Code = at_fields true types cs in
    let pc : List Code = at_fields false types cs in
    let ss : Several = several sc1 sc n in
    let ps : Several = several pc sc ss.fresh in
    let tys : List Ty = at_fields false types types in
    let x : Variable = record { 0 = ps.fresh } in
    let end : Term = Write x k ss.atoms (as_atoms (variables_from (ps.fresh + 1) ps.atoms)) in
    let inner : Term = prepend (pointed_fields (ps.fresh + 1) tys ps.atoms) end in
    let filled : IsFilledSo IsWrite (is_flat tb k) inner =
    head_filled tb k (is_flat tb k) (ps.fresh + 1) tys ps.atoms end refl (λ e. no_atoms pc sc ss.fresh (none_packed types cs e))
    (at_once (is_flat tb k) (ps.fresh + 1) tys ps.atoms x k ss.atoms (as_atoms (variables_from (ps.fresh + 1) ps.atoms))) in
    let head : HasForm IsWrite tb (Then (Past x k) inner) = (filled, plain_then tb (pointed_fields (ps.fresh + 1) tys ps.atoms) end (pointed_plain tb (ps.fresh + 1) tys ps.atoms) tt) in
    let rest : HasForm IsWrite tb (prepend ps.binds (Then (Past x k) inner)) = plain_then tb ps.binds (Then (Past x k) inner) (several_plain tb pc sc ss.fresh (fields_shaped tb false types cs h)) head in
    subst (λ (t : Term). HasForm IsWrite tb t)
    (sym (prepend-append ss.binds (ps.binds ++ Past x k ∷ pointed_fields (ps.fresh + 1) tys ps.atoms) end ∙ ap (λ (t : Term). prepend ss.binds t) (prepend-append ps.binds (Past x k ∷ pointed_fields (ps.fresh + 1) tys ps.atoms) end)))
    (plain_then tb ss.binds (prepend ps.binds (Then (Past x k) inner)) (several_plain tb sc1 sc n (fields_shaped tb true types cs h)) rest)

call_side_shape : (tb : Table) (ty : Ty) (f : Name) (r : Several) (bs : List Bind) → Plain tb r.binds → HasForm IsWrite tb (call_side ty f r bs).term
call_side_shape tb ty f r [] h = tt
call_side_shape tb ty f r (b ∷ bs) h = plain_then tb (r.binds ++ One (On Scalar (record { 0 = r.fresh }) ty (CallTerm f r.atoms)) ∷ []) (Give (var r.fresh)) (plain_join tb r.binds (One (On Scalar (record { 0 = r.fresh }) ty (CallTerm f r.atoms)) ∷ []) h (tt, tt)) tt

scalar_shaped : (tb : Table) (ty : Ty) (f : Name) (cs : List Code) → AllByRecursion (Shaped tb) cs → Shaped tb (scalar_call ty f cs)
scalar_shaped tb ty f cs h =
    let at : (sc : Scope) (n : ℕ) → Plain tb (call_atom ty f (several cs sc n)).binds =
    λ sc n. plain_join tb (several cs sc n).binds (One (On Scalar (record { 0 = (several cs sc n).fresh }) ty (CallTerm f (several cs sc n).atoms)) ∷ []) (several_plain tb cs sc n h) (tt, tt) in
    record {
      line = given_shape tb (λ sc n. call_atom ty f (several cs sc n)) at;
      side = λ sc n. call_side_shape tb ty f (several cs sc n) (several cs sc n).binds (several_plain tb cs sc n h);
      atom = at;
      bound = at;
    }

call_shaped : (tb : Table) (ty : Results Ty) (f : Name) (cs : List Code) → AllByRecursion (Shaped tb) cs → Shaped tb (call_code ty f cs)
call_shaped tb (results.One (Tree t)) f cs h = line_shaped tb (λ sc n. call_line (Tree t) f (several cs sc n)) (λ sc n. plain_then tb (several cs sc n).binds (CallTerm f (several cs sc n).atoms) (several_plain tb cs sc n h) tt)
call_shaped tb (results.One Whole) f cs h = scalar_shaped tb Whole f cs h
call_shaped tb (results.One Truth) f cs h = scalar_shaped tb Truth f cs h
call_shaped tb (results.Several tys) f cs h = line_shaped tb (λ sc n. call_line Whole f (several cs sc n)) (λ sc n. plain_then tb (several cs sc n).binds (CallTerm f (several cs sc n).atoms) (several_plain tb cs sc n h) tt)

found_shaped : (tb : Table) (arms : List ArmCode) (k : ℕ) (arm : ArmCode) → AllByRecursion (λ (c : ArmCode). Shaped tb c.code) arms → arm_for arms k ≡ Some arm → Shaped tb arm.code
found_shaped tb [] k arm h e = absurd cc
found_shaped tb (c ∷ cs) k arm h e = go (c.con == k) refl (found_shaped tb cs k arm h.1)
  where
    arm_or : Option ArmCode → ArmCode
    arm_or None = arm
    arm_or (Some a) = a

    go : (b : Bool) → c.con == k ≡ b → (arm_for cs k ≡ Some arm → Shaped tb arm.code) → Shaped tb arm.code
    go true t more = subst (λ (a : ArmCode). Shaped tb a.code) (ap arm_or (sym (ap (λ b. if b then Some c else arm_for cs k) t) ∙ e)) h.0
    go false t more = more (sym (ap (λ b. if b then Some c else arm_for cs k) t) ∙ e)

branch_shape : (tb : Table) (k : ℕ) (o : Option ArmCode) (sc : Scope) (n : ℕ) (more : ℕ → Branched) → ((arm : ArmCode) → o ≡ Some arm → Shaped tb arm.code) → ((m : ℕ) → BranchesForm IsWrite tb (more m).branches)
    → BranchesForm IsWrite tb (branch_of tb k o sc n more).branches
branch_shape tb k None sc n more h g = g n
branch_shape tb k (Some arm) sc n more h g =
    ((h arm refl).line (with_fields arm.names (fields_at tb k) n sc) (n + length arm.names), g (arm.code.line (with_fields arm.names (fields_at tb k) n sc) (n + length arm.names)).fresh)

branches_shape : (tb : Table) (ks : List ℕ) (arms : List ArmCode) → AllByRecursion (λ (c : ArmCode). Shaped tb c.code) arms → (sc : Scope) (n : ℕ) → BranchesForm IsWrite tb (branches_of tb ks arms sc n).branches
branches_shape tb [] arms h sc n = tt
branches_shape tb (k ∷ ks) arms h sc n = branch_shape tb k (arm_for arms k) sc n (λ m. branches_of tb ks arms sc m) (λ arm e. found_shaped tb arms k arm h e) (λ m. branches_shape tb ks arms h sc m)

-- A constructor is among these.
Listed : ℕ → List ℕ → Type 0
Listed c [] = ⊥
Listed c (k ∷ ks) = (c ≡ k) ⊎ Listed c ks

some_branch : (tb : Table) (k : ℕ) (o : Option ArmCode) (sc : Scope) (n : ℕ) (more : ℕ → Branched) → ((m : ℕ) → IsBranch (more m).branches) → IsBranch (branch_of tb k o sc n more).branches
some_branch tb k None sc n more h = h n
some_branch tb k (Some arm) sc n more h = tt

own_branch : (tb : Table) (k : ℕ) (o : Option ArmCode) (arm : ArmCode) (sc : Scope) (n : ℕ) (more : ℕ → Branched) → o ≡ Some arm → IsBranch (branch_of tb k o sc n more).branches
own_branch tb k None arm sc n more e = absurd cc
own_branch tb k (Some a) arm sc n more e = tt

-- A constructor that has an arm has a branch.
listed_branch : (tb : Table) (c : ℕ) (arm : ArmCode) (ks : List ℕ) (arms : List ArmCode) (sc : Scope) (n : ℕ) → arm_for arms c ≡ Some arm → Listed c ks → IsBranch (branches_of tb ks arms sc n).branches
unfolding Listed
listed_branch tb c arm [] arms sc n e h = absurd h
listed_branch tb c arm (k ∷ ks) arms sc n e (inl same) = own_branch tb k (arm_for arms k) arm sc n (λ m. branches_of tb ks arms sc m) (ap (λ j. arm_for arms j) (sym same) ∙ e)
listed_branch tb c arm (k ∷ ks) arms sc n e (inr h) = some_branch tb k (arm_for arms k) sc n (λ m. branches_of tb ks arms sc m) (λ m. listed_branch tb c arm ks arms sc m e h)

numbers_listed : (n count k : ℕ) → n ≤ k → k < n + count → Listed k (numbers_from n count)
unfolding Listed
numbers_listed n zero k le lt = absurd (omega (arith, le, lt))
numbers_listed n (suc count) k le lt = by (test (k == n)) (λ le'. numbers_listed (suc n) count k le' (omega (arith, lt)))
  where
    by : Test (k == n) → (suc n ≤ k → Listed k (numbers_from (suc n) count)) → Listed k (n ∷ numbers_from (suc n) count)
    by (holds e) later = inl (eqb-true k n e)
    by (fails e) later = inr (later (let ne : k ≡ n → ⊥ = λ same. both_ways (k == n) e (eq-eqb k n same) in omega (arith, le, ne)))

-- A declared constructor is one of its type.
declared_listed : (tb : Table) (k c : ℕ) → IsTable tb → constructor_named tb k ≡ Some c → Listed c (constructors_of tb (owner_at tb c))
declared_listed tb k c is e =
    let lt : c < length (map (λ (r : Row). r.name) tb.rows) = place_within (map (λ (r : Row). r.name) tb.rows) k c e in
    let same = length-map tb.rows (λ (r : Row). r.name) in
    let among = (together tb (owner_at tb c) c is).0 (tag_there tb c (omega (arith, lt, same))) in
    numbers_listed (first_at tb (owner_at tb c)) (count_at tb (owner_at tb c)) c among.0 among.1

-- The code of the first of some arms, which its constructor finds.
found_first : (c : ArmCode) (cs : List ArmCode) → arm_for (c ∷ cs) c.con ≡ Some c
found_first c cs = ap (λ b. if b then Some c else arm_for cs c.con) (eq-eqb c.con c.con refl)

declared_con : (g : Globals) (k : Ident) (c : ℕ) → constructor_named g.table (number_of k) ≡ Some c → constructor_named g.table (number_of k) ≡ Some (con_named g k)
declared_con g k c e = e ∙ ap (λ (o : Option ℕ). Some (con_or o)) (sym e)

case_branch : (g : Globals) → IsTable g.table → (arms : Arms) → ArmsCovered g arms → (sc : Scope) (n : ℕ)
    → IsBranch (branches_of g.table (constructors_of g.table (owner_at g.table (first_constructor (infer_arms g arms)))) (infer_arms g arms) sc n).branches
case_branch g is (LastArm k xs e) h sc n =
    let arm : ArmCode = record { con = con_named g k; names = xs; code = infer g e } in
    listed_branch g.table (con_named g k) arm (constructors_of g.table (owner_at g.table (con_named g k))) (arm ∷ []) sc n (found_first arm []) (declared_listed g.table (number_of k) (con_named g k) is (declared_con g k h.0.0 h.0.1))
case_branch g is (NextArm k xs e arms) h sc n =
    let arm : ArmCode = record { con = con_named g k; names = xs; code = infer g e } in
    listed_branch g.table (con_named g k) arm (constructors_of g.table (owner_at g.table (con_named g k))) (arm ∷ infer_arms g arms) sc n (found_first arm (infer_arms g arms))
    (declared_listed g.table (number_of k) (con_named g k) is (declared_con g k h.0.0 h.0.1))

parts_form : (tb : Table) (cs : List Code) → AllByRecursion (Shaped tb) cs → (sc : Scope) (n : ℕ) → PartsForm IsWrite tb (part_lines cs sc n).parts
parts_form tb [] h sc n = tt
parts_form tb (c ∷ cs) h sc n = (h.0.line sc n, parts_form tb cs h.1 sc (c.line sc n).fresh)

tuple_form : (tb : Table) (types : List Ty) (cs : List Code) → AllByRecursion (Shaped tb) cs → (sc : Scope) (n : ℕ) → HasForm IsWrite tb (tuple_line types cs sc n).term
tuple_form tb types cs h sc n =
    let ss : Several = several (at_fields true types cs) sc n in
    plain_then tb ss.binds (Rattle.gib_core.specs.Tree.Tuple types ss.atoms (part_lines (at_fields false types cs) sc ss.fresh).parts) (several_plain tb (at_fields true types cs) sc n (fields_shaped tb true types cs h))
    (parts_form tb (at_fields false types cs) (fields_shaped tb false types cs h) sc ss.fresh)

side_form : (tb : Table) (xs : List Ident) (types : List Ty) (c : Code) (sc : Scope) (n : ℕ) (inner : Scope) → Shaped tb c → SideForm IsWrite tb (bound_side xs types c sc n inner).side
side_form tb [] types c sc n inner h = h.line sc (n + 0)
side_form tb (x ∷ []) types c sc n inner h = h.side sc (n + 1)
side_form tb (x ∷ y ∷ xs) types c sc n inner h = h.line sc (n + length (x ∷ y ∷ xs))

module _ (g : Globals) (is : IsTable g.table) where
  mutual
    shaped : (e : Expression) → Covered g e → Shaped g.table (infer g e)
    shaped (Var x) h = plain_shaped g.table (λ scope. type_at scope (number_of x)) (λ scope. atom_at scope (number_of x))
    shaped (Num p n) h = plain_shaped g.table (λ _. Whole) (λ _. Rattle.gib_core.specs.declared.atom.Atom.TheVariants.Whole (Rattle.std.specs.Prelude.pos n))
    shaped (Bit p b) h = plain_shaped g.table (λ _. Truth) (λ _. Rattle.gib_core.specs.declared.atom.Atom.TheVariants.Truth b)
    shaped (Paren p e) h = shaped e h
    shaped (Op p f x y) h =
        let l = shaped x h.0 in
        let r = shaped y h.1 in
        atom_shaped g.table (operation_atom f (infer g x).atom (infer g y).atom)
        (λ sc n. plain_join g.table ((infer g x).atom sc n).binds (((infer g y).atom sc ((infer g x).atom sc n).fresh).binds ++ Prim (record { 0 = ((infer g y).atom sc ((infer g x).atom sc n).fresh).fresh }) f ((infer g x).atom sc n).atom ((infer g y).atom sc ((infer g x).atom sc n).fresh).atom ∷ [])
        (l.atom sc n) (plain_join g.table ((infer g y).atom sc ((infer g x).atom sc n).fresh).binds (Prim (record { 0 = ((infer g y).atom sc ((infer g x).atom sc n).fresh).fresh }) f ((infer g x).atom sc n).atom ((infer g y).atom sc ((infer g x).atom sc n).fresh).atom ∷ []) (r.atom sc ((infer g x).atom sc n).fresh) (tt, tt)))
    shaped (Call f xs) h = call_shaped g.table (gives_type g.table (function_named g.functions (number_of f))) f.name (infer_all g xs) (all_shaped xs h)
    shaped (Make k xs) h = line_shaped g.table (make_line g.table (record { 0 = con_named g k }) (infer_all g xs)) (make_shape g.table (record { 0 = con_named g k }) (infer_all g xs) (all_shaped xs h))
    shaped (Let p x e f) h =
        let l = shaped e h.0 in
        let r = shaped f h.1 in
        line_shaped g.table (let_line x (infer g e).bound (infer g f).line)
        (λ sc n. plain_then g.table ((infer g e).bound sc n).binds _ (l.bound sc n) (r.line (slot x ((infer g e).bound sc n).atom ((infer g e).bound sc n).ty ∷ sc) ((infer g e).bound sc n).fresh))
    shaped (Par p x d y e f) h =
        let l = shaped d h.0 in
        let r = shaped e h.1 in
        let b = shaped f h.2 in
        line_shaped g.table (par_line x (infer g d).side y (infer g e).side (infer g f).line)
        (λ sc n.
        let a = (infer g d).side sc (n + 1) in
        let c = (infer g e).side sc (a.fresh + 1) in
        ((refl, l.side sc (n + 1), r.side sc (a.fresh + 1)), b.line (slot y (var a.fresh) c.ty ∷ slot x (var n) a.ty ∷ sc) c.fresh))
    shaped (If p c d e) h =
        let a = shaped c h.0 in
        let l = shaped d h.1 in
        let r = shaped e h.2 in
        line_shaped g.table (if_line (infer g c).atom (infer g d).line (infer g e).line)
        (λ sc n.
        let x = (infer g c).atom sc n in
        let u = (infer g d).line sc x.fresh in
        let v = (infer g e).line sc u.fresh in
        plain_then g.table x.binds (IfTerm x.atom u.term v.term) (a.atom sc n) (l.line sc x.fresh, r.line sc u.fresh))
    shaped (Case p x arms) h =
        let ks = constructors_of g.table (owner_at g.table (first_constructor (infer_arms g arms))) in
        line_shaped g.table (case_line g.table x (infer_arms g arms)) (λ sc n. (case_branch g is arms h sc n, branches_shape g.table ks (infer_arms g arms) (arms_shaped arms h) sc n))
    shaped (Tuple p ts xs) h = line_shaped g.table (tuple_line (map (type_of_name g.table.types) ts) (infer_all g xs)) (tuple_form g.table (map (type_of_name g.table.types) ts) (infer_all g xs) (all_shaped xs h))
    shaped (LetSeveral p qs e f) h =
        let l = shaped e h.0 in
        let r = shaped f h.1 in
        let xs = names_of qs in
        let types = types_of g.table.types qs in
        line_shaped g.table (several_line xs types (infer g e) (infer g f).line)
        (λ sc n. let b = bound_side xs types (infer g e) sc n sc in (side_form g.table xs types (infer g e) sc n sc l, r.line b.scope b.fresh))
    shaped (ParSeveral p qs d rs e f) h =
        let l = shaped d h.0 in
        let r = shaped e h.1 in
        let b = shaped f h.2 in
        let xs = names_of qs in
        let ys = names_of rs in
        let types = types_of g.table.types qs in
        let other = types_of g.table.types rs in
        line_shaped g.table (sides_line xs types (infer g d) ys other (infer g e) (infer g f).line)
        (λ sc n.
        let u = bound_side xs types (infer g d) sc n sc in
        let v = bound_side ys other (infer g e) sc u.fresh u.scope in
        ((refl, side_form g.table xs types (infer g d) sc n sc l, side_form g.table ys other (infer g e) sc u.fresh u.scope r), b.line v.scope v.fresh))

    all_shaped : (xs : Arguments) → AllCovered g xs → AllByRecursion (Shaped g.table) (infer_all g xs)
    all_shaped NoArgument h = tt
    all_shaped (Argument e xs) h = (shaped e h.0, all_shaped xs h.1)

    arms_shaped : (arms : Arms) → ArmsCovered g arms → AllByRecursion (λ (c : ArmCode). Shaped g.table c.code) (infer_arms g arms)
    arms_shaped (LastArm k xs e) h = (shaped e h.1, tt)
    arms_shaped (NextArm k xs e arms) h = (shaped e h.1, arms_shaped arms h.2)

-- The line that an expression becomes.
pub infer_shape : (g : Globals) → IsTable g.table → (e : Expression) → Covered g e → (sc : Scope) (n : ℕ) → HasForm IsWrite g.table ((infer g e).line sc n).term
infer_shape g is e h sc n = (shaped g is e h).line sc n
