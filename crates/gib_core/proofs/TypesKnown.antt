-- In a core whose bodies fit, and whose functions have declared types, each type that a bound term has is declared.
use Rattle.std.proofs.Common.{◌≡◌, ℕ, zero, suc, ◌+◌, ◌<◌, ◌==◌, Bool, true, false, if◌then◌else◌, List, [], ◌∷◌, ◌++◌, length, map, slice_get, Option, Some, None, refl, sym, subst, ap, ◌∙◌, arith}
use Rattle.std.specs.List.{AllByRecursion}
use Rattle.gib_base.specs.declared.name.Name.{Name}
use Rattle.gib_types.specs.declared.table.Ty.{Ty}
use Rattle.gib_types.specs.declared.table.Ty.TheVariants.{Whole, Truth, Tree}
use Rattle.gib_types.specs.Table.{Row, Table, scalar_types, IsTable, IsTyBelow, fields_at, fields_of, con_at, if_owned}
use Rattle.gib_syntax.specs.Meaning.{is_scalar}
use Rattle.gib_types.specs.Operators.{operator_type}
use Rattle.std.proofs.lemmas.Bool.Decides.{nat_tests}
use Rattle.gib_core.specs.declared.atom.Atom.{Atom}
use Rattle.gib_core.specs.declared.atom.Access.TheVariants as by
use Rattle.gib_core.specs.declared.atom.Kind.TheVariants as kind
use Rattle.gib_core.specs.declared.atom.Variable.{Variable}
use Rattle.gib_core.specs.Fits.{Sort, Outside, Absent, Scalar, Held, Placed, Loose, AtHead, Field, Scope, Dest, Nowhere, Empty, Open, InParts, AtomsFit, hold_all, bound_scope, Fits, PartsFit, BindFits, SideFits, BranchesFit, Line, Needs, Inner, AtEnd, none_of, new_line, tell_line, arm_line, side_tells, CallFits, OwnFits, MainFits, AllFit, EachFits, put, tree_type, packed_due, dest_of, dest_type, more, by_call, cased, loosen, loosen_one, has_branch, arm_scope, field_sort, param_sort, body_scope}
use Rattle.gib_core.specs.Meaning.{function_at}
use Rattle.gib_core.specs.Numbering.{binders, AreNumbered}
use Rattle.gib_core.specs.Met.{Body}
use Rattle.gib_core.specs.Parts.{AreDeclared, IsResultDeclared}
use Rattle.gib_syntax.specs.Results as results
use Rattle.gib_syntax.specs.Results.{Results}
use Rattle.gib_core.specs.Tree as t
use Rattle.gib_core.specs.Tree.{Term, Bind, Side, PartTerms, Branches, FunctionTerm, CoreTree}
use Rattle.gib_core.proofs.Bodies.{built_fits, each_fits}
use Rattle.gib_core.specs.Ending.{Within, within_par, within_main, within_function}
use Rattle.gib_core.proofs.Fine.{anywhere, side_alone, bind_alone}
use Rattle.gib_core.specs.Literals.{AllLiteralsFit}
use Rattle.gib_core.specs.Rules.{AreBuilt}
use Rattle.gib_core.specs.TypesNamed.{SignaturesDeclared, TypesDeclared, BindDeclared, SideDeclared, PartsDeclared, BranchesDeclared, AllTypesDeclared}

-- What is known of a variable names declared types alone.
abbrev IsSortBelow : ℕ → Sort → Type 0
IsSortBelow n Outside = Unit {0}
IsSortBelow n Absent = Unit {0}
IsSortBelow n (Scalar ty) = Unit {0}
IsSortBelow n Held = Unit {0}
IsSortBelow n (Placed s) = s < n
IsSortBelow n (Loose s) = s < n
IsSortBelow n (AtHead s) = s < n
IsSortBelow n (Field s z x k p) = s < n

abbrev IsScopeBelow : ℕ → Scope → Type 0
IsScopeBelow n sc = (y : ℕ) → IsSortBelow n (sc y)

choose_below : (n : ℕ) (b : Bool) (i j : Sort) → IsSortBelow n i → IsSortBelow n j → IsSortBelow n (if b then i else j)
choose_below n true i j h k = h
choose_below n false i j h k = k

put_below : (n : ℕ) (sc : Scope) (x : ℕ) (i : Sort) → IsScopeBelow n sc → IsSortBelow n i → IsScopeBelow n (put sc x i)
put_below n sc x i h k y = choose_below n (y == x) i (sc y) k (h y)

loosen_below : (n : ℕ) (b : Bool) (i : Sort) → IsSortBelow n i → IsSortBelow n (loosen_one b i)
loosen_below n false i h = h
loosen_below n true Outside h = h
loosen_below n true Absent h = h
loosen_below n true (Scalar ty) h = h
loosen_below n true Held h = h
loosen_below n true (Placed s) h = h
loosen_below n true (Loose s) h = h
loosen_below n true (AtHead s) h = h
loosen_below n true (Field s z x k p) h = h

behind_below : (n : ℕ) (m : ℕ → Bool) (sc : Scope) (x : ℕ) (i : Sort) → IsScopeBelow n sc → IsSortBelow n i → IsScopeBelow n (put (loosen m sc) x i)
behind_below n m sc x i h k = put_below n (loosen m sc) x i (λ y. loosen_below n (m y) (sc y) (h y)) k

tree_below : (n : ℕ) (i : Sort) (s : ℕ) → IsSortBelow n i → tree_type i ≡ Some s → s < n
tree_below n Outside s h e = absurd cc
tree_below n Absent s h e = absurd cc
tree_below n (Scalar ty) s h e = absurd cc
tree_below n Held s h e = absurd cc
tree_below n (Placed u) s h e = let q : u ≡ s = cc in subst (λ (m : ℕ). m < n) q h
tree_below n (Loose u) s h e = let q : u ≡ s = cc in subst (λ (m : ℕ). m < n) q h
tree_below n (AtHead u) s h e = let q : u ≡ s = cc in subst (λ (m : ℕ). m < n) q h
tree_below n (Field u z x k p) s h e = absurd cc

-- The type of a constructor is declared, and so are those of its fields.

owned_below : (table : Table) → IsTable table → (s k : ℕ) → con_at table s k ≡ Some k → s < length table.types
owned_below table is s k e = go (slice_get table.rows k) refl e
  where
    owner : (row : Row) (b : Bool) → row.owner == s ≡ b → (if b then Some k else None) ≡ Some k → row.owner ≡ s
    owner row true q f = grind (arith, nat_tests)
    owner row false q f = absurd cc

    go : (o : Option Row) → slice_get table.rows k ≡ o → if_owned s k o ≡ Some k → s < length table.types
    go None p q = absurd cc
    go (Some row) p q = subst (λ (m : ℕ). m < length table.types) (owner row (row.owner == s) refl q) (is.rows k row p).owned

fields_below : (table : Table) → IsTable table → (k : ℕ) → AllByRecursion (IsTyBelow (length table.types)) (fields_at table k)
fields_below table is k = go (slice_get table.rows k) refl
  where
    go : (o : Option Row) → slice_get table.rows k ≡ o → AllByRecursion (IsTyBelow (length table.types)) (fields_of o)
    go None p = tt
    go (Some row) p = (is.rows k row p).known

field_below : (n x k p : ℕ) (z : Option ℕ) (s : ℕ) → s < n → IsSortBelow n (field_sort x k p z s)
field_below n x k p None s lt = lt
field_below n x k p (Some z) s lt = lt

arm_below : (n x k p : ℕ) (z : Option ℕ) (ts : List Ty) (ys : List Variable) (sc : Scope) → AllByRecursion (IsTyBelow n) ts → IsScopeBelow n sc → IsScopeBelow n (arm_scope x k p z ts ys sc)
arm_below n x k p z [] ys sc h g = g
arm_below n x k p z (ty ∷ ts) [] sc h g = g
arm_below n x k p z (Whole ∷ ts) (y ∷ ys) sc h g = arm_below n x k p z ts ys (put sc y.0 (Scalar Whole)) h.1 (put_below n sc y.0 (Scalar Whole) g tt)
arm_below n x k p z (Truth ∷ ts) (y ∷ ys) sc h g = arm_below n x k p z ts ys (put sc y.0 (Scalar Truth)) h.1 (put_below n sc y.0 (Scalar Truth) g tt)
arm_below n x k p z (Tree s ∷ ts) (y ∷ ys) sc h g =
    arm_below n x k (Rattle.gib_core.specs.Fits.next_place p z) (Some y.0) ts ys (put sc y.0 (field_sort x k p z s.0)) h.1 (put_below n sc y.0 (field_sort x k p z s.0) g (field_below n x k p z s.0 h.0))

scalar_below : (n : ℕ) (ty : Ty) → is_scalar ty ≡ true → IsTyBelow n ty
scalar_below n Whole e = tt
scalar_below n Truth e = tt
scalar_below n (Tree s) e = absurd cc

-- A destination whose head is open is of a declared type.
abbrev IsDestBelow : ℕ → Dest → Type 0
IsDestBelow n (Nowhere ty) = Unit {0}
IsDestBelow n (Empty s) = Unit {0}
IsDestBelow n (Open s h k xs dues) = s < n
IsDestBelow n (InParts tys) = Unit {0}

more_below : (n : ℕ) (d : Dest) (x : ℕ) → IsDestBelow n d → IsDestBelow n (more d x)
more_below n (Nowhere ty) x h = tt
more_below n (Empty s) x h = tt
more_below n (InParts tys) x h = tt
more_below n (Open s g k xs []) x h = h
more_below n (Open s g k xs (u ∷ dues)) x h = h

pub dest_more : (d : Dest) (x : ℕ) → dest_type (more d x) ≡ dest_type d
dest_more (Nowhere ty) x = refl
dest_more (Empty s) x = refl
dest_more (InParts tys) x = refl
dest_more (Open s g k xs []) x = refl
dest_more (Open s g k xs (u ∷ dues)) x = refl

named_declared : (n : ℕ) (fs : List FunctionTerm) → AllByRecursion (λ (f : FunctionTerm). AreDeclared n f.parameters f.result) fs → (f : ℕ) (g : FunctionTerm) → function_at fs f ≡ Some g → IsResultDeclared n g.result
named_declared n [] h f g e = absurd cc
named_declared n (x ∷ fs) h f g e = go (λ q. named_declared n fs h.1 f g q) (x.name.0 == f) e
  where
    go : (function_at fs f ≡ Some g → IsResultDeclared n g.result) → (b : Bool) → (if b then Some x else function_at fs f) ≡ Some g → IsResultDeclared n g.result
    go later true q = let r : x ≡ g = cc in subst (λ (y : FunctionTerm). IsResultDeclared n y.result) r h.0.1
    go later false q = later q

-- The scopes of several variables.
held_below : (n : ℕ) (xs : List Variable) (sc : Scope) → IsScopeBelow n sc → IsScopeBelow n (hold_all xs sc)
held_below n [] sc h = h
held_below n (x ∷ xs) sc h = held_below n xs (put sc x.0 Held) (put_below n sc x.0 Held h tt)

param_below : (n : ℕ) (ty : Ty) → IsTyBelow n ty → IsSortBelow n (param_sort ty)
param_below n Whole h = tt
param_below n Truth h = tt
param_below n (Tree s) h = h

bound_below : (n : ℕ) (tys : List Ty) (xs : List Variable) (sc : Scope) → AllByRecursion (IsTyBelow n) tys → IsScopeBelow n sc → IsScopeBelow n (bound_scope tys xs sc)
bound_below n [] xs sc h g = g
bound_below n (t ∷ ts) [] sc h g = g
bound_below n (t ∷ ts) (x ∷ xs) sc h g = bound_below n ts xs (put sc x.0 (param_sort t)) h.1 (put_below n sc x.0 (param_sort t) g (param_below n t h.0))

-- Types of which the packed ones are declared.
abbrev AreNumbersBelow : ℕ → List ℕ → Type 0
AreNumbersBelow n ss = AllByRecursion (λ (s : ℕ). s < n) ss

types_below : (n : ℕ) (tys : List Ty) → AreNumbersBelow n (packed_due tys) → AllByRecursion (IsTyBelow n) tys
types_below n [] h = tt
types_below n (Whole ∷ tys) h = (tt, types_below n tys h)
types_below n (Truth ∷ tys) h = (tt, types_below n tys h)
types_below n (Tree s ∷ tys) h = (h.0, types_below n tys h.1)

-- What follows from a term: its types are declared, and so is the type of what it makes.
record Told (n : ℕ) (u : Term) (r : Results Ty) : Type 0 where
  pub types : TypesDeclared n u
  pub due : IsResultDeclared n r

-- Where a line goes on behind a binding.
record Goes (n : ℕ) (d : Dest) (P : Scope → Dest → Line → Type 0) : Type 0 where
  pub scope : Scope
  pub dest : Dest
  pub scope_below : IsScopeBelow n scope
  pub dest_below : IsDestBelow n dest
  pub same : dest_type dest ≡ dest_type d
  pub line : Line
  pub rest : P scope dest line

side_on : (core : CoreTree) (n : ℕ) (w : Within) (s : Side) (sc : Scope) (d : Dest) (ln : Line) (P : Scope → Dest → Line → Type 0) → SideDeclared n s → SideFits core w s sc d ln P → IsScopeBelow n sc → IsDestBelow n d → Goes n d P
side_on core n w (t.On kind.Here x ty u) sc d ln P h f g k = record {
  line = tell_line (side_tells w core u) ln;
  scope = put (loosen (cased u) sc) x.0 (Placed f.0);
  dest = more d x.0;
  scope_below = behind_below n (cased u) sc x.0 (Placed f.0) g (subst (IsTyBelow n) f.1 h.0);
  dest_below = more_below n d x.0 k;
  same = dest_more d x.0;
  rest = f.5;
}
side_on core n w (t.On kind.Region x ty u) sc d ln P h f g k = record {
  line = tell_line (side_tells w core u) ln;
  scope = put (loosen (cased u) sc) x.0 (Placed f.0);
  dest = d;
  scope_below = behind_below n (cased u) sc x.0 (Placed f.0) g (subst (IsTyBelow n) f.1 h.0);
  dest_below = k;
  same = refl;
  rest = f.4;
}
side_on core n w (t.On kind.Scalar x ty u) sc d ln P h f g k = record {
  line = tell_line (side_tells w core u) ln;
  scope = put (loosen (cased u) sc) x.0 (Scalar ty);
  dest = d;
  scope_below = behind_below n (cased u) sc x.0 (Scalar ty) g tt;
  dest_below = k;
  same = refl;
  rest = f.3;
}
side_on core n w (t.Several xs tys u) sc d ln P h f g k = record {
  line = tell_line none_of ln;
  scope = bound_scope tys xs (loosen (cased u) sc);
  dest = d;
  scope_below = bound_below n tys xs (loosen (cased u) sc) h.0 (λ y. loosen_below n (cased u y) (sc y) (g y));
  dest_below = k;
  same = refl;
  rest = f.3;
}

both_on : (core : CoreTree) (n : ℕ) (w : Within) (v : Line → Within) (l r : Side) (sc : Scope) (d : Dest) (ln : Line) (P : Scope → Dest → Line → Type 0) → SideDeclared n l → SideDeclared n r
    → SideFits core w l sc d ln (λ sc' d' ln'. SideFits core (v ln') r sc' d' ln' P) → IsScopeBelow n sc → IsDestBelow n d → Goes n d P
both_on core n w v l r sc d ln P hl hr f g k =
    let a = side_on core n w l sc d ln (λ sc' d' ln'. SideFits core (v ln') r sc' d' ln' P) hl f g k in
    let b = side_on core n (v a.line) r a.scope a.dest a.line P hr a.rest a.scope_below a.dest_below in
    record { scope = b.scope; dest = b.dest; scope_below = b.scope_below; dest_below = b.dest_below; same = b.same ∙ a.same; line = b.line; rest = b.rest }

bind_on : (core : CoreTree) (is : IsTable core.table) (b : Bind) (sc : Scope) (d : Dest) (ln : Line) (P : Scope → Dest → Line → Type 0) → BindDeclared (length core.table.types) b → BindFits core b sc d ln P
    → IsScopeBelow (length core.table.types) sc → IsDestBelow (length core.table.types) d → Goes (length core.table.types) d P
bind_on core is (t.Past x c) sc d ln P h f g k = record {
  line = ln;
  scope = put sc x.0 Held;
  dest = Open f.0 x.0 c.0 [] (packed_due (fields_at core.table c.0));
  scope_below = put_below (length core.table.types) sc x.0 Held g tt;
  dest_below = owned_below core.table is f.0 c.0 f.2;
  same = sym (ap dest_type f.1);
  rest = f.4;
}
bind_on core is (t.One s) sc d ln P h f g k = side_on core (length core.table.types) ln.within s sc d ln P h f g k
bind_on core is (t.Both false l r) sc d ln P h f g k = both_on core (length core.table.types) (within_par ln.within) (λ ln'. within_par ln.within) l r sc d ln P h.1.0 h.1.1 f.1 g k
bind_on core is (t.Both true l r) sc d ln P h f g k = both_on core (length core.table.types) (within_par ln.within) (λ ln'. within_par ln'.within) l r sc d ln P h.1.0 h.1.1 f.2 g k
bind_on core is (t.Prim x o y z) sc d ln P h f g k = record {
  line = ln;
  scope = put sc x.0 (Scalar (operator_type o));
  dest = d;
  scope_below = put_below (length core.table.types) sc x.0 (Scalar (operator_type o)) g tt;
  dest_below = k;
  same = refl;
  rest = f.3;
}
bind_on core is (t.Reach y by.Offset) sc d ln P h f g k = record {
  line = ln;
  scope = put sc y.0 (Placed f.0);
  dest = d;
  scope_below = put_below (length core.table.types) sc y.0 (Placed f.0) g (subst (IsSortBelow (length core.table.types)) f.5 (g y.0));
  dest_below = k;
  same = refl;
  rest = f.7;
}
bind_on core is (t.Reach y (by.Skip z)) sc d ln P h f g k = record {
  line = ln;
  scope = put sc y.0 (Placed f.0);
  dest = d;
  scope_below = put_below (length core.table.types) sc y.0 (Placed f.0) g (subst (IsSortBelow (length core.table.types)) f.5 (g y.0));
  dest_below = k;
  same = refl;
  rest = f.7;
}
bind_on core is (t.Reach y (by.End z)) sc d ln P h f g k = record {
  line = ln;
  scope = put sc y.0 (Placed f.0);
  dest = d;
  scope_below = put_below (length core.table.types) sc y.0 (Placed f.0) g (subst (IsSortBelow (length core.table.types)) f.5 (g y.0));
  dest_below = k;
  same = refl;
  rest = f.7;
}

told_call : (n : ℕ) (u : Term) (A : Type 0) (B : Name → List Atom → Type 0) → (A → TypesDeclared n u) → by_call u A B → TypesDeclared n u
told_call n (t.Then b u) A B go h = go h
told_call n (t.Write x k ss ps) A B go h = go h
told_call n (t.Point x) A B go h = go h
told_call n (t.CallTerm f xs) A B go h = tt
told_call n (t.Give x) A B go h = go h
told_call n (t.CaseTerm x bs) A B go h = go h
told_call n (t.IfTerm x u v) A B go h = go h
told_call n (t.Tuple tys ss ps) A B go h = go h

same_due : (n : ℕ) (d e : Dest) → d ≡ e → IsResultDeclared n (dest_type e) → IsResultDeclared n (dest_type d)
same_due n d e q h = subst (λ (x : Dest). IsResultDeclared n (dest_type x)) (sym q) h

module _ (core : CoreTree) (is : IsTable core.table) (sg : AllByRecursion (λ (f : FunctionTerm). AreDeclared (length core.table.types) f.parameters f.result) core.functions) where
  abbrev many : ℕ
  many = length core.table.types

  mutual
    term_told : (ns : Needs) (u : Term) (sc : Scope) (d : Dest) (ln : Line) → Fits core ns u sc d ln → IsScopeBelow many sc → IsDestBelow many d → Told many u (dest_type d)
    term_told ns (t.Then b u) sc d ln f g k =
        let h = bind_told b sc d ln (bind_alone core b sc d ln (λ sc' d' ln'. Fits core ns u sc' d' ln') f) g k in
        let r = bind_on core is b sc d ln (λ sc' d' ln'. Fits core ns u sc' d' ln') h f g k in
        let q = term_told ns u r.scope r.dest r.line r.rest r.scope_below r.dest_below in
        record { types = (h, q.types); due = subst (IsResultDeclared many) r.same q.due }
    term_told ns (t.Write x c ss ps) sc d ln f g k = record {
      types = tt;
      due = same_due many d (Open f.0 x.0 c.0 f.1 []) f.2 (subst (IsDestBelow many) f.2 k);
    }
    term_told ns (t.Point x) sc d ln f g k = record { types = tt; due = same_due many d (Empty f.0) f.1 (tree_below many (sc f.2.variable.0) f.0 (g f.2.variable.0) f.2.sort) }
    term_told ns (t.CallTerm x xs) sc d ln f g k = record {
      types = tt;
      due = subst (IsResultDeclared many) f.1.result (named_declared many core.functions sg x.0 f.1.function f.1.named);
    }
    term_told ns (t.Give x) sc d ln f g k = record { types = tt; due = same_due many d (Nowhere f.0) f.1 (scalar_below many f.0 f.2) }
    term_told ns (t.CaseTerm x bs) sc d ln f g k =
        let lt = tree_below many (sc f.1.variable.0) f.0 (g f.1.variable.0) f.1.sort in
        let r = branches_told ns bs f.1.variable.0 (put sc f.1.variable.0 (AtHead f.0)) d ln f.3 (put_below many sc f.1.variable.0 (AtHead f.0) g lt) k in
        let one = is.inhabited f.0 lt in
        record { types = (tt, r.0); due = r.1 one.0 (f.2 one.0 one.1) }
    term_told ns (t.IfTerm x u v) sc d ln f g k =
        let a = term_told ns u sc d ln f.1 g k in
        let b = term_told ns v sc d ln f.2 g k in
        record { types = (tt, (a.types, b.types)); due = a.due }
    term_told ns (t.Tuple tys ss ps) sc d ln f g k =
        let q = parts_told ln.within ps (packed_due tys) sc ss (scalar_types tys) f.1 g in
        let known = types_below many tys q.1 in
        record { types = (known, q.0); due = same_due many d (InParts tys) f.0 known }

    parts_told : (w : Within) (ps : PartTerms) (dues : List ℕ) (sc : Scope) (ss : List Atom) (us : List Ty) → PartsFit core w ps dues sc (λ tc. AtomsFit tc ss us) → IsScopeBelow many sc → PartsDeclared many ps × AreNumbersBelow many dues
    parts_told w t.NoPart [] sc ss us f g = (tt, tt)
    parts_told w t.NoPart (s ∷ dues) sc ss us f g = absurd f
    parts_told w (t.PartThen u ps) [] sc ss us f g = absurd f
    parts_told w (t.PartThen u ps) (s ∷ dues) sc ss us f g =
        let a = term_told (Inner none_of) u sc (Empty s) (new_line w) f.0 g tt in
        let b = parts_told w ps dues (loosen (cased u) sc) ss us f.1 (λ y. loosen_below many (cased u y) (sc y) (g y)) in
        ((tt, (a.types, b.0)), (a.due, b.1))

    bind_told : (b : Bind) (sc : Scope) (d : Dest) (ln : Line) → BindFits core b sc d ln anywhere → IsScopeBelow many sc → IsDestBelow many d → BindDeclared many b
    bind_told (t.Past x c) sc d ln f g k = tt
    bind_told (t.One s) sc d ln f g k = side_told ln.within s sc d ln f g k
    bind_told (t.Both false l r) sc d ln f g k =
        let w = within_par ln.within in
        let hl = side_told w l sc d ln (side_alone core w l sc d ln (λ sc' d' ln'. SideFits core w r sc' d' ln' anywhere) f.1) g k in
        let a = side_on core many w l sc d ln (λ sc' d' ln'. SideFits core w r sc' d' ln' anywhere) hl f.1 g k in
        (tt, (hl, side_told w r a.scope a.dest a.line a.rest a.scope_below a.dest_below))
    bind_told (t.Both true l r) sc d ln f g k =
        let w = within_par ln.within in
        let hl = side_told w l sc d ln (side_alone core w l sc d ln (λ sc' d' ln'. SideFits core (within_par ln'.within) r sc' d' ln' anywhere) f.2) g k in
        let a = side_on core many w l sc d ln (λ sc' d' ln'. SideFits core (within_par ln'.within) r sc' d' ln' anywhere) hl f.2 g k in
        (tt, (hl, side_told (within_par a.line.within) r a.scope a.dest a.line a.rest a.scope_below a.dest_below))
    bind_told (t.Prim x o y z) sc d ln f g k = tt
    bind_told (t.Reach y access) sc d ln f g k = tt

    side_told : (w : Within) (s : Side) (sc : Scope) (d : Dest) (ln : Line) → SideFits core w s sc d ln anywhere → IsScopeBelow many sc → IsDestBelow many d → SideDeclared many s
    side_told w (t.On kind.Here x ty u) sc d ln f g k =
        let q = term_told (Inner (side_tells w core u)) u (put sc x.0 Held) (Empty f.0) (new_line w) f.4 (put_below many sc x.0 Held g tt) tt in
        (subst (IsTyBelow many) (sym f.1) q.due, q.types)
    side_told w (t.On kind.Region x ty u) sc d ln f g k =
        let q = term_told (Inner (side_tells w core u)) u (put sc x.0 Held) (Empty f.0) (new_line w) f.3 (put_below many sc x.0 Held g tt) tt in
        (subst (IsTyBelow many) (sym f.1) q.due, q.types)
    side_told w (t.On kind.Scalar x ty u) sc d ln f g k =
        let ns = Inner (side_tells w core u) in
        (scalar_below many ty f.0, told_call many u (Fits core ns u sc (Nowhere ty) (new_line w)) (λ q xs. CallFits core sc q xs (results.One ty)) (λ h. (term_told ns u sc (Nowhere ty) (new_line w) h g tt).types) f.2)
    side_told w (t.Several xs tys u) sc d ln f g k =
        let q = term_told (Inner none_of) u (hold_all xs sc) (InParts tys) (new_line w) f.2 (held_below many xs sc g) tt in
        (q.due, q.types)

    branches_told : (ns : Needs) (bs : Branches) (x : ℕ) (sc : Scope) (d : Dest) (ln : Line) → BranchesFit core ns bs x sc d ln → IsScopeBelow many sc → IsDestBelow many d
        → BranchesDeclared many bs × ((k : ℕ) → has_branch bs k ≡ true → IsResultDeclared many (dest_type d))
    branches_told ns t.NoBranch x sc d ln f g k = (tt, λ c e. absurd cc)
    branches_told ns (t.BranchThen c ys u bs) x sc d ln f g k =
        let a = term_told ns u (arm_scope x c.0 1 None (fields_at core.table c.0) ys sc) d (arm_line core x c ys u ln) f.1 (arm_below many x c.0 1 None (fields_at core.table c.0) ys sc (fields_below core.table is c.0) g) k in
        let b = branches_told ns bs x sc d ln f.2 g k in
        ((tt, (a.types, b.0)), λ c' e. a.due)

result_below : (n : ℕ) (r : Results Ty) → IsDestBelow n (dest_of r)
result_below n (results.One Whole) = tt
result_below n (results.One Truth) = tt
result_below n (results.One (Tree s)) = tt
result_below n (results.Several tys) = tt

parameters_below : (n m : ℕ) (ts : List Ty) → AllByRecursion (IsTyBelow n) ts → IsScopeBelow n (body_scope m ts)
parameters_below n zero ts h y = tt
parameters_below n (suc m) [] h zero = tt
parameters_below n (suc m) [] h (suc y) = parameters_below n m [] tt y
parameters_below n (suc m) (ty ∷ ts) h zero = param_below n ty h.0
parameters_below n (suc m) (ty ∷ ts) h (suc y) = parameters_below n m ts h.1 y

bodies_told : (core : CoreTree) (fs : List FunctionTerm) → IsTable core.table → SignaturesDeclared core → AllByRecursion (λ (f : FunctionTerm). AreDeclared (length core.table.types) f.parameters f.result) fs
    → AllByRecursion (λ (g : FunctionTerm). OwnFits core g (length g.parameters + length (binders g.body))) fs → MainFits core (1 + length (binders core.main.body))
    → AllByRecursion (λ (b : Body). TypesDeclared (length core.table.types) b.term)
    (map (λ (f : FunctionTerm). record { parameters = f.parameters; result = f.result; term = f.body }) fs ++ record { parameters = core.main.parameter ∷ []; result = results.One core.main.result; term = core.main.body } ∷ [])
bodies_told core [] is sg h f m =
    let n = length core.table.types in
    let slots = 1 + length (binders core.main.body) in
    ((term_told core is sg.functions (AtEnd none_of) core.main.body (body_scope slots (core.main.parameter ∷ [])) (dest_of (results.One core.main.result)) (new_line (within_main core)) m.fits (parameters_below n slots (core.main.parameter ∷ []) sg.main.0) (result_below n (results.One core.main.result))).types, tt)
bodies_told core (g ∷ fs) is sg h f m =
    let n = length core.table.types in
    let slots = length g.parameters + length (binders g.body) in
    ((term_told core is sg.functions (AtEnd none_of) g.body (body_scope slots g.parameters) (dest_of g.result) (new_line (within_function core g)) f.0.fits (parameters_below n slots g.parameters h.0.0) (result_below n g.result)).types, bodies_told core fs is sg h.1 f.1 m)

pub types_known : (core : CoreTree) → IsTable core.table → SignaturesDeclared core → AreNumbered core → AllLiteralsFit core → AreBuilt core → AllTypesDeclared core
types_known core is sg num lits built =
    bodies_told core core.functions is sg sg.functions (each_fits core is num lits built) (built_fits core is num lits built).main
