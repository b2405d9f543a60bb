-- What meets the build rules fits.
use Rattle.std.proofs.Common.{◌≡◌, ℕ, ◌<◌, ◌==◌, Bool, true, false, ◌||◌, ◌&&◌, not, List, [], ◌∷◌, length, Option, Some, None, refl, sym, ap, ◌∙◌, subst}
use Rattle.std.proofs.lemmas.Bool.{eqb-true, not-false, not-true, and_parts, both_ways}
use Rattle.std.specs.List.{AllByRecursion}
use Rattle.gib_base.specs.declared.name.Name.{Name}
use Rattle.gib_types.specs.declared.table.Ty.{Ty}
use Rattle.gib_types.specs.declared.table.Ty.TheVariants.{Whole, Truth, Tree}
use Rattle.gib_types.specs.declared.table.TyId.{TyId}
use Rattle.gib_types.specs.declared.table.ConId.{ConId}
use Rattle.gib_types.specs.Table.{Table, fields_at, scalar_types}
use Rattle.gib_syntax.specs.Meaning.{is_scalar}
use Rattle.gib_core.specs.declared.atom.Variable.{Variable}
use Rattle.gib_core.specs.declared.atom.Atom.{Atom}
use Rattle.gib_core.specs.declared.scope.Known.{Known}
use Rattle.gib_core.specs.Tree.{Term, Then, Write, Point, CallTerm, Give, CaseTerm, IfTerm, Tuple, variables_of, Bind, Past, One, Both, Prim, Reach, Side, On, Several, FunctionTerm, CoreTree}
use Rattle.gib_syntax.specs.Results as results
use Rattle.gib_syntax.specs.Results.{Results}
use Rattle.gib_core.specs.Meaning.{function_at}
use Rattle.gib_core.specs.Met.{Destination, Nowhere, Empty, Open, InParts, Setting, CallLine, packed_types, stands_behind, behind, met}
use Rattle.gib_core.specs.Rules.{Before, is_among, is_bound, type_bound, rules, least, LinesAreBuilt, same_type, is_empty, is_nowhere, all_usable, any_other, have_types, may_write, are_scalars, any_cased, further, are_variables, gives_packed, is_packed, same_types, are_due, result_fits, call_fits}
use Rattle.gib_core.specs.Fits as f
use Rattle.gib_core.specs.Fits.{Sort, Absent, Held, Placed, AtHead, Field, Scope, put, tree_type, loosen, cased, side_cased, Dest, packed_due, more, IsDue, AtomsFit, FurtherPlaced, IsTree, CallFits, by_call, arm_scope, Line, Needs, Meets, Fits, BindFits, SideFits, BranchesFit}
use Rattle.gib_core.specs.Literals.{LiteralFits}
use Rattle.gib_core.proofs.Facts.{least4, same_type_is}
use Rattle.gib_core.proofs.Later.{Later}
use Rattle.gib_core.proofs.Vars.{named, Tracked, Vars, vars_later, vars_hold, put_there, tracked_later, tracked_put}
use Rattle.gib_core.proofs.Severals.{AllTracked}
use Rattle.gib_core.proofs.Dests.{numbers, IsDest, Keeps, due_all, atoms_fit, written_names, placed_further}

-- A scalar call is the whole right side of a scalar; the type asks that of no other term.
abbrev pub IsPart : Setting → Term → Type 0
IsPart s t = by_call t (Unit {0}) (λ g xs. s.whole ≡ false)

pub is_part : (s : Setting) (t : Term) → s.whole ≡ false → IsPart s t
is_part s (Then b t) e = tt
is_part s (Write h k ss ps) e = tt
is_part s (Point x) e = tt
is_part s (CallTerm g xs) e = e
is_part s (Give x) e = tt
is_part s (CaseTerm x bs) e = tt
is_part s (IfTerm x t u) e = tt
is_part s (Tuple tys ss ps) e = tt

pub behind_part : (s : Setting) (b : Bind) → (behind s b).whole ≡ false
behind_part s (Past h k) = refl
behind_part s (One x) = refl
behind_part s (Both marked l r) = refl
behind_part s (Prim x g y z) = refl
behind_part s (Reach y by) = refl

-- What stands behind lines.

pub keep_later : (b c : Before) (sc : Scope) → Later b c → Keeps b sc c sc
keep_later b c sc l = λ y ty k. tracked_later b c sc (λ z. false) y ty l (λ z e. absurd cc) k

-- What a side leaves.
abbrev pub side_types : Side → List Ty
side_types (On kind x ty t) = ty ∷ []
side_types (Several xs tys t) = tys

pub record SideDone (core : CoreTree) (n : ℕ) (b : Before) (s : Setting) (side : Side) (sc : Scope) (c : Before) (tc : Scope) (d : Dest) : Type 0 where
  pub vars : Vars n c s.scope tc
  pub keep : Keeps b sc c tc
  pub own : AllTracked c tc (variables_of side) (side_types side)
  pub dest : IsDest core.table c tc (stands_behind side s.destination) s.due d

pub absent_loose : (m : Bool) → f.loosen_one m Absent ≡ Absent
absent_loose true = refl
absent_loose false = refl

-- The variable of a side gets its sort, behind the side's term.
pub record Bound (n : ℕ) (b c : Before) (ks : List Known) (sc : Scope) (m : ℕ → Bool) (x : Variable) (i : Sort) : Type 0 where
  pub vars : Vars n c ks (put (loosen m sc) x.0 i)
  pub keep : Keeps b sc c (put (loosen m sc) x.0 i)

pub bind_sort : (n : ℕ) (b c : Before) (ks : List Known) (sc : Scope) (m : ℕ → Bool) (x : Variable) (i : Sort) → Later b c → ((z : ℕ) → m z ≡ true → is_among c.cased (named z) ≡ true)
    → is_bound b.bound x ≡ false → x.0 < n → is_bound c.bound x ≡ true → Vars n b ks sc → Bound n b c ks sc m x i
bind_sort n b c ks sc m x i l h new lt bound v =
    let base = vars_later n b c ks sc m l h v in
    let absent : loosen m sc x.0 ≡ Absent = ap (f.loosen_one (m x.0)) (v.new x.0 new lt) ∙ absent_loose (m x.0) in
    record {
      vars = vars_hold n c ks (loosen m sc) x.0 i absent bound base;
      keep = λ y ty k. tracked_put c (loosen m sc) x.0 y i ty absent (tracked_later b c sc m y ty l h k);
    }

pub placed_own : (c : Before) (sc : Scope) (x : Variable) (t : TyId) → type_bound c.bound x ≡ Some (Tree t) → Tracked c (put sc x.0 (Placed t.0)) x.0 (Tree t)
placed_own c sc x t e = let there = put_there sc x.0 (Placed t.0) in record { typed = e; usable = (ap tree_type there, λ ne. there) }

pub scalar_own : (c : Before) (sc : Scope) (x : Variable) (ty : Ty) → is_scalar ty ≡ true → type_bound c.bound x ≡ Some ty → Tracked c (put sc x.0 (f.Scalar ty)) x.0 ty
scalar_own c sc x Whole s e = record { typed = e; usable = put_there sc x.0 (f.Scalar Whole) }
scalar_own c sc x Truth s e = record { typed = e; usable = put_there sc x.0 (f.Scalar Truth) }
scalar_own c sc x (Tree t) s e = absurd cc

-- A packed type is one of a tree.
pub packed_type : (ty : Ty) → is_scalar ty ≡ false → (t : TyId) × (ty ≡ Tree t)
packed_type Whole e = absurd cc
packed_type Truth e = absurd cc
packed_type (Tree t) e = (t, refl)

-- The rules on a call.
pub record CallFacts (core : CoreTree) (b : Before) (s : Setting) (g : Name) (xs : List Atom) : Type 0 where
  pub place : gives_packed (function_at core.functions g.0) && not (is_empty s.destination) ≡ false
  pub usable : all_usable s xs ≡ true
  pub fits : call_fits b s xs (function_at core.functions g.0) ≡ true

pub call_facts : (core : CoreTree) (b : Before) (s : Setting) (g : Name) (xs : List Atom) → least (rules core b s (CallLine g xs)) ≡ None → CallFacts core b s g xs
call_facts core b s g xs e =
    let o = function_at core.functions g.0 in
    let h = least4 4 6 8 9 (any_other s xs) (gives_packed o && not (is_empty s.destination)) (not (all_usable s xs)) (not (call_fits b s xs o)) e in
    record { place = h.1; usable = not-false (all_usable s xs) h.2; fits = not-false (call_fits b s xs o) h.3 }

or_no : (p w : Bool) → w ≡ false → p || w ≡ true → p ≡ true
or_no true w e h = refl
or_no false w e h = absurd cc

empty_if : (p e : Bool) → p ≡ true → p && not e ≡ false → e ≡ true
empty_if true e p h = not-false e h
empty_if false e p h = absurd cc

-- An empty place of a tree.
pub empty_place : (table : Table) (b : Before) (sc : Scope) (e : Destination) (due : Ty) (d : Dest) → is_empty e ≡ true → IsDest table b sc e due d → (t : TyId) × (due ≡ Tree t) × (d ≡ f.Empty t.0)
empty_place table b sc Nowhere due d e h = absurd cc
empty_place table b sc Empty due d e h = h
empty_place table b sc (Open q k standing) due d e h = absurd cc
empty_place table b sc (InParts tys) due d e h = absurd cc

pub no_place : (table : Table) (b : Before) (sc : Scope) (e : Destination) (due : Ty) (d : Dest) → is_nowhere e ≡ true → IsDest table b sc e due d → (is_scalar due ≡ true) × (d ≡ f.Nowhere due)
no_place table b sc Nowhere due d e h = h
no_place table b sc Empty due d e h = absurd cc
no_place table b sc (Open q k standing) due d e h = absurd cc
no_place table b sc (InParts tys) due d e h = absurd cc

-- A call that fits.

-- The types of parts are those that are due.
pub same_types_are : (ts us : List Ty) → same_types ts us ≡ true → ts ≡ us
same_types_are [] [] e = refl
same_types_are [] (u ∷ us) e = absurd cc
same_types_are (t ∷ ts) [] e = absurd cc
same_types_are (t ∷ ts) (u ∷ us) e = let p = and_parts (same_type t u) (same_types ts us) e in (λ i. same_type_is t u p.0 i ∷ same_types_are ts us p.1 i)

pub due_parts : (table : Table) (b : Before) (sc : Scope) (e : Destination) (due : Ty) (d : Dest) (tys : List Ty) → are_due e tys ≡ true → IsDest table b sc e due d → d ≡ f.InParts tys
due_parts table b sc Nowhere due d tys h i = absurd cc
due_parts table b sc Empty due d tys h i = absurd cc
due_parts table b sc (Open q k standing) due d tys h i = absurd cc
due_parts table b sc (InParts own) due d tys h i = i ∙ ap f.InParts (sym (same_types_are tys own h))

-- A packed call is at an empty place, one of several parts where they are due.
result_placed : (core : CoreTree) (b : Before) (s : Setting) (sc : Scope) (d : Dest) (g : Name) (xs : List Atom) (h : FunctionTerm) (r : Results Ty) → h.result ≡ r → function_at core.functions g.0 ≡ Some h → f.AtomsFit sc xs h.parameters
    → s.whole ≡ false → is_packed r && not (is_empty s.destination) ≡ false → result_fits s.destination s.due s.whole r ≡ true → IsDest core.table b sc s.destination s.due d → f.IsCallPlace d × CallFits core sc g xs (f.dest_type d)
result_placed core b s sc d g xs h (results.One ty) is named args w p fit i =
    let q = and_parts (same_type ty s.due) (not (is_scalar ty) || s.whole) fit in
    let place = empty_place core.table b sc s.destination s.due d (empty_if (not (is_scalar ty)) (is_empty s.destination) (or_no (not (is_scalar ty)) s.whole w q.1) p) i in
    let P : Dest → Type 0 = λ e. f.IsCallPlace e × CallFits core sc g xs (f.dest_type e) in
    subst P (sym place.2) (tt, record { function = h; named = named; result = is ∙ ap results.One (same_type_is ty s.due q.0 ∙ place.1); arguments = args })
result_placed core b s sc d g xs h (results.Several tys) is named args w p fit i =
    let P : Dest → Type 0 = λ e. f.IsCallPlace e × CallFits core sc g xs (f.dest_type e) in
    subst P (sym (due_parts core.table b sc s.destination s.due d tys fit i)) (tt, record { function = h; named = named; result = is; arguments = args })

call_placed : (core : CoreTree) (n : ℕ) (b : Before) (s : Setting) (sc : Scope) (d : Dest) (g : Name) (xs : List Atom) (o : Option FunctionTerm) → function_at core.functions g.0 ≡ o → s.whole ≡ false → gives_packed o && not (is_empty s.destination) ≡ false
    → call_fits b s xs o ≡ true → all_usable s xs ≡ true → AllByRecursion LiteralFits xs → Vars n b s.scope sc → IsDest core.table b sc s.destination s.due d → f.IsCallPlace d × CallFits core sc g xs (f.dest_type d)
call_placed core n b s sc d g xs None e w p fit u l v i = absurd cc
call_placed core n b s sc d g xs (Some h) e w p fit u l v i =
    let q = and_parts (have_types b xs h.parameters) (result_fits s.destination s.due s.whole h.result) fit in
    result_placed core b s sc d g xs h h.result refl e (atoms_fit n b s sc xs h.parameters u q.0 l v) w p q.1 i

pub call_in_place : (core : CoreTree) (n : ℕ) (b : Before) (s : Setting) (sc : Scope) (d : Dest) (g : Name) (xs : List Atom) → s.whole ≡ false → LinesAreBuilt core b (met core.table s (CallTerm g xs)) → AllByRecursion LiteralFits xs → Vars n b s.scope sc
    → IsDest core.table b sc s.destination s.due d → f.IsCallPlace d × CallFits core sc g xs (f.dest_type d)
call_in_place core n b s sc d g xs w h l v i = let c = call_facts core b s g xs h.0 in call_placed core n b s sc d g xs (function_at core.functions g.0) refl w c.place c.fits c.usable l v i

-- A scalar call, where a scalar is due.
scalar_result : (s : Setting) (r : Results Ty) → s.destination ≡ Nowhere → result_fits s.destination s.due s.whole r ≡ true → r ≡ results.One s.due
scalar_result s (results.One ty) e fit = ap results.One (same_type_is ty s.due (and_parts (same_type ty s.due) (not (is_scalar ty) || s.whole) fit).0)
scalar_result s (results.Several tys) e fit = absurd (both_ways false refl (ap (λ d. are_due d tys) (sym e) ∙ fit))

scalar_known : (core : CoreTree) (n : ℕ) (b : Before) (s : Setting) (sc : Scope) (g : Name) (xs : List Atom) (o : Option FunctionTerm) → function_at core.functions g.0 ≡ o → s.destination ≡ Nowhere → call_fits b s xs o ≡ true → all_usable s xs ≡ true
    → AllByRecursion LiteralFits xs → Vars n b s.scope sc → CallFits core sc g xs (results.One s.due)
scalar_known core n b s sc g xs None e place fit u l v = absurd cc
scalar_known core n b s sc g xs (Some h) e place fit u l v =
    let q = and_parts (have_types b xs h.parameters) (result_fits s.destination s.due s.whole h.result) fit in
    record { function = h; named = e; result = scalar_result s h.result place q.1; arguments = atoms_fit n b s sc xs h.parameters u q.0 l v }

pub scalar_call_fits : (core : CoreTree) (n : ℕ) (b : Before) (s : Setting) (sc : Scope) (g : Name) (xs : List Atom) → s.destination ≡ Nowhere → LinesAreBuilt core b (met core.table s (CallTerm g xs)) → AllByRecursion LiteralFits xs → Vars n b s.scope sc → CallFits core sc g xs (results.One s.due)
scalar_call_fits core n b s sc g xs place h l v = let c = call_facts core b s g xs h.0 in scalar_known core n b s sc g xs (function_at core.functions g.0) refl place c.fits c.usable l v

-- A head that is filled.
pub write_fits : (core : CoreTree) (n : ℕ) (b : Before) (s : Setting) (sc : Scope) (d : Dest) (e : Destination) (h : Variable) (k : ConId) (ss ps : List Atom) (ns : Needs) (ln : Line) → Meets ns ln.told ln.overs → may_write core.table b e h k ps ≡ true → are_scalars core.table b e ss ≡ true
    → all_usable s ss ≡ true → AllByRecursion LiteralFits ss → Vars n b s.scope sc → IsDest core.table b sc e s.due d → Fits core ns (Write h k ss ps) sc d ln
write_fits core n b s sc d Nowhere h k ss ps ns ln meets w t u l v i = absurd cc
write_fits core n b s sc d Empty h k ss ps ns ln meets w t u l v i = absurd cc
write_fits core n b s sc d (InParts tys) h k ss ps ns ln meets w t u l v i = absurd cc
write_fits core n b s sc d (Open q c standing) h k ss ps ns ln meets w t u l v i =
    let names = length standing == length (packed_types core.table c) && are_variables standing ps in
    let calm = not (any_cased b.cased (further standing)) in
    let p = and_parts (q.0 == h.0 && c.0 == k.0) (names && calm) w in
    let qc = and_parts (q.0 == h.0) (c.0 == k.0) p.0 in
    let nc = and_parts names calm p.1 in
    let lv = and_parts (length standing == length (packed_types core.table c)) (are_variables standing ps) nc.0 in
    let head = eqb-true q.0 h.0 qc.0 in
    let con = eqb-true c.0 k.0 qc.1 in
    let all = due_all (fields_at core.table c.0) (length standing) lv.0 in
    let is : d ≡ f.Open i.0.0 h.0 k.0 (numbers standing) [] =
    i.2.dest ∙ ap (λ ds. f.Open i.0.0 q.0 c.0 (numbers standing) ds) all ∙ ap (λ m. f.Open i.0.0 m c.0 (numbers standing) []) head ∙ ap (λ m. f.Open i.0.0 h.0 m (numbers standing) []) con in
    let typed : have_types b ss (scalar_types (fields_at core.table k.0)) ≡ true = subst (λ m. have_types b ss (scalar_types (fields_at core.table m)) ≡ true) con t in (
      i.0.0,
      numbers standing,
      is,
      written_names standing ps lv.1,
      atoms_fit n b s sc ss (scalar_types (fields_at core.table k.0)) u typed l v,
      placed_further b sc standing i.2.stand (not-true (any_cased b.cased (further standing)) nc.1),
      meets,
    )
