-- A core that meets the build rules has a text, where its form has one.
use Rattle.std.proofs.Common.{◌≡◌, ℕ, zero, suc, ◌+◌, ◌<◌, ◌≤◌, ◌==◌, Bool, true, false, ◌&&◌, ◌||◌, not, if◌then◌else◌, List, [], ◌∷◌, ◌++◌, map, length, Option, Some, None, refl, sym, ap, ◌∙◌, subst, arith}
use Rattle.std.specs.Prelude.{get_or}
use Rattle.std.specs.List.{AllByRecursion}
use Rattle.std.proofs.lemmas.Bool.{eqb-true, ltb-true, not-false, and_parts, or_parts}
use Rattle.std.proofs.lemmas.Option.{same_Some}
use Rattle.gib_base.specs.declared.name.Name.{Name}
use Rattle.gib_types.specs.declared.table.Ty.{Ty}
use Rattle.gib_types.specs.declared.table.Ty.TheVariants.{Whole, Truth, Tree}
use Rattle.gib_types.specs.declared.table.ConId.{ConId}
use Rattle.gib_types.specs.Table.{Table, fields_at, tree_types, scalar_types, is_scalar, numbers_from, first_at, count_at, IsTable, first_type, further_types}
use Rattle.gib_syntax.specs.Results as results
use Rattle.gib_syntax.specs.Results.{Results}
use Rattle.gib_syntax.specs.Declarations.{type_of_name}
use Rattle.gib_core.specs.declared.atom.Variable.{Variable}
use Rattle.gib_core.specs.declared.atom.Atom.{Atom}
use Rattle.gib_core.specs.declared.atom.Atom.TheVariants as a
use Rattle.gib_core.specs.declared.atom.Kind.{Kind}
use Rattle.gib_core.specs.declared.atom.Kind.TheVariants.{Here, Region, Scalar}
use Rattle.gib_core.specs.declared.atom.Access.{Access}
use Rattle.gib_core.specs.declared.atom.Access.TheVariants.{Offset, Skip, End}
use Rattle.gib_core.specs.declared.scope.Behind.{Behind}
use Rattle.gib_core.specs.declared.scope.Known.{Known}
use Rattle.gib_core.specs.Tree.{Term, Then, Write, Point, CallTerm, Give, CaseTerm, IfTerm, Tuple, Past, One, Both, Prim, Reach, On, Several, Branches, NoBranch, BranchThen, variables_from, FunctionTerm, CoreTree}
use Rattle.gib_core.specs.Meaning.{function_at}
use Rattle.gib_core.specs.Ending.{ended}
use Rattle.gib_core.specs.Numbering.{binders, branch_binders}
use Rattle.gib_core.specs.TypesNamed.{TypesDeclared, BranchesDeclared}
use Rattle.gib_core.specs.Met.{Destination, Nowhere, Empty, Open, InParts, Setting, SideLine, ParLine, CaseLine, known, reached, reached_too, field, packed_before, with_arm, field_due, packed_types, stands_too, in_side, behind, left_of, right_of, in_arm, in_branch, arms_of, met, met_side, met_branches}
use Rattle.gib_core.specs.Rules.{Before, result_fits, is_reached, is_usable, all_usable, any_other, is_other, is_among, is_outside, one_tells, is_empty, is_of_type, is_bound, is_nowhere, has_room, may_write, are_variables, any_cased, further, are_scalars, type_of, same_type, cover, are_arms, any_bound, arm_variables, has_type, have_types, call_fits, gives_packed, may_reach, by_access, rules, least, next, next_all, LinesAreBuilt}
use Rattle.gib_core.specs.Ordered.{IsFound, IsNatural, AreNaturalAtoms, IsNaturalTerm, AreNaturalBranches}
use Rattle.gib_local.specs.Building.{Program, is_flat, is_in, gives_scalar}
use Rattle.gib_local_print.specs.Printing.{Naming, result_text, function_text, side_place}
use Rattle.gib_local_print.specs.HasText.{HasAtom, HasVariable, HasAccess, HasFields, IsOpenAt, FillsAtOnce, MayStand, IsResultWritten, scope_from, HasText, OpensText, HasBranches, program_of}
use Rattle.gib_local_print.specs.HasShape.{IsWrite, IsFilled, HasShape, HasShapes}
use Rattle.gib_core.proofs.Facts.{empty_is, least2, least3, least4, same_type_is, Test, holds, fails, test}
use Rattle.gib_core.proofs.Runs.{Runs, runs_apart}
use Rattle.gib_core.proofs.Orders.{known_name, field_variable, usable_apart, typed_long, past_found, found_in, rows_inside, covered}
use Rattle.gib_local_print.proofs.Written.{written}
use Rattle.gib_local_print.proofs.World.{in_here, in_past}

built_apart : (core : CoreTree) (b : Before) (ms ns : List Rattle.gib_core.specs.Met.Met) → LinesAreBuilt core b (ms ++ ns) → LinesAreBuilt core b ms × LinesAreBuilt core (next_all core.table b ms) ns
built_apart core b [] ns h = (tt, h)
built_apart core b (m ∷ ms) ns h = let k = built_apart core (next core.table b m.line) ms ns h.1 in ((h.0, k.0), k.1)

-- ---- scopes

-- The variables in scope are among these.
pub record Covers (xs : List ℕ) (ks : List Known) : Type 0 where
  pub inside : (x : Variable) (k : Known) → known ks x ≡ Some k → is_in xs x.0 ≡ true

covers_by : (n : ℕ) (xs : List ℕ) (k : Known) (ks : List Known) (x : Variable) (j : Known) → k.variable.0 ≡ n → Covers xs ks → Test (k.variable.0 == x.0) → known (k ∷ ks) x ≡ Some j → is_in (n ∷ xs) x.0 ≡ true
covers_by n xs k ks x j same h (holds e) f = subst (λ z. is_in (n ∷ xs) z ≡ true) (sym same ∙ eqb-true k.variable.0 x.0 e) (in_here n xs)
covers_by n xs k ks x j same h (fails e) f = in_past n x.0 xs (h.inside x j (ap (λ t. if t then Some k else known ks x) (sym e) ∙ f))

pub covers_more : (n : ℕ) (xs : List ℕ) (k : Known) (ks : List Known) → k.variable.0 ≡ n → Covers xs ks → Covers (n ∷ xs) (k ∷ ks)
covers_more n xs k ks e h = record { inside = λ x j f. covers_by n xs k ks x j e h (test (k.variable.0 == x.0)) f }

reach_by : (xs : List ℕ) (k : Known) (ks : List Known) (x : Variable) (j : Known) → is_in xs k.variable.0 ≡ true → Covers xs ks → Test (k.variable.0 == x.0) → known (k ∷ ks) x ≡ Some j → is_in xs x.0 ≡ true
reach_by xs k ks x j was h (holds e) f = subst (λ z. is_in xs z ≡ true) (eqb-true k.variable.0 x.0 e) was
reach_by xs k ks x j was h (fails e) f = h.inside x j (ap (λ t. if t then Some k else known ks x) (sym e) ∙ f)

covers_reach : (xs : List ℕ) (ks : List Known) (y : Variable) (o : Option Known) → known ks y ≡ o → Covers xs ks → Covers xs (reached_too o ks)
covers_reach xs ks y None e h = h
covers_reach xs ks y (Some k) e h =
    let name = known_name ks y k e in
    let was : is_in xs k.variable.0 ≡ true = subst (λ z. is_in xs z ≡ true) (sym name) (h.inside y k e) in
    record { inside = λ x j f. reach_by xs (record k { reached = true }) ks x j was h (test (k.variable.0 == x.0)) f }

covers_arm : (n m : ℕ) (k : ConId) (ys : List Variable) (types : List Ty) (before : Option Variable) (xs : List ℕ) (ks : List Known) → Runs n (map (λ (x : Variable). x.0) ys) m → Covers xs ks → Covers (scope_from n ys xs) (with_arm k ys types before ks)
covers_arm n m k [] types before xs ks r h = h
covers_arm n m k (y ∷ ys) types before xs ks r h =
    covers_arm (n + 1) m k ys (further_types types) (packed_before y (first_type types) before) (n ∷ xs) (field k y (first_type types) before ∷ ks) r.1
    (covers_more n xs (field k y (first_type types) before) ks (field_variable k y (first_type types) before ∙ r.0) h)

-- ---- atoms

known_in : (xs : List ℕ) (ks : List Known) (y : Variable) (o : Option Known) → known ks y ≡ o → is_reached o ≡ true → Covers xs ks → is_in xs y.0 ≡ true
known_in xs ks y None e r h = absurd cc
known_in xs ks y (Some k) e r h = h.inside y k e

atom_text : (xs : List ℕ) (s : Setting) (x : Atom) → is_usable s x ≡ true → IsNatural x → Covers xs s.scope → HasAtom xs x
atom_text xs s (a.Variable y) u l h = known_in xs s.scope y (known s.scope y) refl u h
atom_text xs s (a.Whole z) u l h = l
atom_text xs s (a.Truth b) u l h = tt

atoms_text : (xs : List ℕ) (s : Setting) (ys : List Atom) → all_usable s ys ≡ true → AreNaturalAtoms ys → Covers xs s.scope → AllByRecursion (HasAtom xs) ys
atoms_text xs s [] u l h = tt
atoms_text xs s (y ∷ ys) u l h = let p = and_parts (is_usable s y) (all_usable s ys) u in (atom_text xs s y p.0 l.0 h, atoms_text xs s ys p.1 l.1 h)

variable_text : (xs : List ℕ) (s : Setting) (b : Before) (x : Atom) (due : Ty) → is_usable s x ≡ true → has_type b x due ≡ true → is_scalar due ≡ false → Covers xs s.scope → HasVariable xs x
variable_text xs s b (a.Variable y) due u t f h = known_in xs s.scope y (known s.scope y) refl u h
variable_text xs s b (a.Whole z) due u t f h = (let e : Whole ≡ due = same_type_is Whole due t in let g : true ≡ false = ap is_scalar e ∙ f in absurd cc)
variable_text xs s b (a.Truth z) due u t f h = (let e : Truth ≡ due = same_type_is Truth due t in let g : true ≡ false = ap is_scalar e ∙ f in absurd cc)

cased_text : (xs : List ℕ) (tb : Table) (s : Setting) (b : Before) (x : Atom) (arms : List (ConId × List Variable)) → is_usable s x ≡ true → cover tb (type_of b x) arms ≡ true → Covers xs s.scope → HasVariable xs x
cased_text xs tb s b (a.Variable y) arms u c h = known_in xs s.scope y (known s.scope y) refl u h
cased_text xs tb s b (a.Whole z) arms u c h = absurd cc
cased_text xs tb s b (a.Truth z) arms u c h = absurd cc

access_by : (core : CoreTree) (b : Before) (xs : List ℕ) (s : Setting) (o : Option Behind) (by : Access) → by_access core b s o by ≡ true → Covers xs s.scope → HasAccess xs by
access_by core b xs s None by e h = absurd cc
access_by core b xs s (Some f) Offset e h = tt
access_by core b xs s (Some f) (Skip z) e h =
    let p = and_parts (f.before.0 == z.0) (is_reached (known s.scope z) && not (is_among b.cased z)) e in
    known_in xs s.scope z (known s.scope z) refl (and_parts (is_reached (known s.scope z)) (not (is_among b.cased z)) p.1).0 h
access_by core b xs s (Some f) (End z) e h =
    let told = is_outside s.others && one_tells (ended core) s.calls z in
    let p = and_parts (f.before.0 == z.0) (is_reached (known s.scope z) && told) e in
    known_in xs s.scope z (known s.scope z) refl (and_parts (is_reached (known s.scope z)) told p.1).0 h

reach_text : (core : CoreTree) (b : Before) (xs : List ℕ) (s : Setting) (y : Variable) (o : Option Known) (by : Access) → known s.scope y ≡ o → may_reach core b s o by ≡ true → Covers xs s.scope → (is_in xs y.0 ≡ true) × HasAccess xs by
reach_text core b xs s y None by e r h = absurd cc
reach_text core b xs s y (Some k) by e r h = (h.inside y k e, access_by core b xs s k.behind by (and_parts (not k.reached) (by_access core b s k.behind by) r).1 h)

-- ---- destinations

-- A packed value is due exactly where there is a destination; an open head has packed fields.
abbrev pub IsDue : Table → Destination → Ty → Type 0
IsDue tb Nowhere due = is_scalar due ≡ true
IsDue tb Empty due = is_scalar due ≡ false
IsDue tb (InParts ts) due = ⊥
IsDue tb (Open h k st) due = (is_scalar due ≡ false) × (is_flat tb k ≡ false) × IsFound tb k

due_scalar : (tb : Table) (d : Destination) (due : Ty) → IsDue tb d due → is_scalar due ≡ is_nowhere d
due_scalar tb Nowhere due h = h
due_scalar tb Empty due h = h
due_scalar tb (InParts ts) due h = absurd h
due_scalar tb (Open q k st) due h = h.0

due_kept : (tb : Table) (kind : Kind) (x : Variable) (d : Destination) (due : Ty) → IsDue tb d due → IsDue tb (stands_too kind x d) due
due_kept tb Here x Nowhere due h = h
due_kept tb Here x Empty due h = h
due_kept tb Here x (InParts ts) due h = h
due_kept tb Here x (Open q k st) due h = h
due_kept tb Region x d due h = h
due_kept tb Scalar x d due h = h

empty_there : (d : Destination) → is_empty d ≡ true → is_nowhere d ≡ false
empty_there Nowhere e = absurd cc
empty_there Empty e = refl
empty_there (InParts ts) e = refl
empty_there (Open h k st) e = refl

all_trees : (ts : List Ty) (i : ℕ) → i < length (tree_types ts) → is_scalar (get_or (tree_types ts) i Whole) ≡ false
all_trees [] i lt = absurd (omega (arith, lt))
all_trees (Whole ∷ ts) i lt = all_trees ts i lt
all_trees (Truth ∷ ts) i lt = all_trees ts i lt
all_trees (Tree t ∷ ts) zero lt = refl
all_trees (Tree t ∷ ts) (suc i) lt = all_trees ts i (omega (arith, lt))

due_tree : (tb : Table) (d : Destination) → has_room tb d ≡ true → is_scalar (field_due tb d) ≡ false
due_tree tb Nowhere e = absurd cc
due_tree tb Empty e = absurd cc
due_tree tb (InParts ts) e = absurd cc
due_tree tb (Open h k st) e = all_trees (fields_at tb k.0) (length st) (ltb-true (length st) (length (packed_types tb k)) e)

-- ---- filling a head

named_length : (st : List Variable) (ps : List Atom) → are_variables st ps ≡ true → length ps ≡ length st
named_length [] [] e = refl
named_length [] (y ∷ ys) e = absurd cc
named_length (x ∷ xs) [] e = absurd cc
named_length (x ∷ xs) (a.Variable y ∷ ys) e = ap suc (named_length xs ys (and_parts (x.0 == y.0) (are_variables xs ys) e).1)
named_length (x ∷ xs) (a.Whole z ∷ ys) e = absurd cc
named_length (x ∷ xs) (a.Truth t ∷ ys) e = absurd cc

-- What a line that fills a head says.
record Filling (tb : Table) (xs : List ℕ) (d : Destination) (h : Variable) (k : ConId) (ss ps : List Atom) : Type 0 where
  open_at : IsOpenAt d h k
  fields : IsFound tb k → HasFields tb xs k ss ps

filling : (core : CoreTree) (b : Before) (s : Setting) (d : Destination) (xs : List ℕ) (h : Variable) (k : ConId) (ss ps : List Atom) → may_write core.table b d h k ps ≡ true → are_scalars core.table b d ss ≡ true → all_usable s (ss ++ ps) ≡ true
    → AreNaturalAtoms ss → AreNaturalAtoms ps → Covers xs s.scope → Filling core.table xs d h k ss ps
filling core b s Nowhere xs h k ss ps w t u ns np c = absurd cc
filling core b s Empty xs h k ss ps w t u ns np c = absurd cc
filling core b s (InParts ts) xs h k ss ps w t u ns np c = absurd cc
filling core b s (Open g j st) xs h k ss ps w t u ns np c =
    let tb = core.table in
    let p = and_parts (g.0 == h.0 && j.0 == k.0) ((length st == length (packed_types tb j) && are_variables st ps) && not (any_cased b.cased (further st))) w in
    let q = and_parts (g.0 == h.0) (j.0 == k.0) p.0 in
    let r = and_parts (length st == length (packed_types tb j) && are_variables st ps) (not (any_cased b.cased (further st))) p.1 in
    let o = and_parts (length st == length (packed_types tb j)) (are_variables st ps) r.0 in
    let same_h : g ≡ h = ap (λ n. record { 0 = n }) (eqb-true g.0 h.0 q.0) in
    let same_k : j ≡ k = ap (λ n. record { 0 = n }) (eqb-true j.0 k.0 q.1) in
    let us = usable_apart s ss ps u in
    let trees : length ps ≡ length (tree_types (fields_at tb k.0)) = named_length st ps o.1 ∙ (eqb-true (length st) (length (packed_types tb j)) o.0 ∙ ap (λ (i : ConId). length (tree_types (fields_at tb i.0))) same_k) in
    let scalars : length ss ≡ length (scalar_types (fields_at tb k.0)) = typed_long b ss (scalar_types (fields_at tb j.0)) t ∙ ap (λ (i : ConId). length (scalar_types (fields_at tb i.0))) same_k in
    record { open_at = (same_h, same_k); fields = λ f. record { found = f; scalars = scalars; trees = trees; scalar_atoms = atoms_text xs s ss us.0 ns c; tree_atoms = atoms_text xs s ps us.1 np c } }

-- ---- calls

-- One scalar is given.
abbrev gives_one : Results Ty → Bool
gives_one (results.One t) = is_scalar t
gives_one (results.Several ts) = false

written_result : (tb : Table) (r : Results Ty) → IsResultWritten tb r → is_scalar (type_of_name tb.types (result_text tb r)) ≡ gives_one r
written_result tb (results.One t) w = ap is_scalar w
written_result tb (results.Several ts) w = absurd w

gives_by : (nm : Naming) (tb : Table) (f : ℕ) (fs : List FunctionTerm) (g h : FunctionTerm) → (function_at fs f ≡ Some h → gives_scalar (map (function_text nm tb) fs) tb.types f ≡ gives_one h.result) → IsResultWritten tb g.result
    → Test (g.name.0 == f) → function_at (g ∷ fs) f ≡ Some h → gives_scalar (map (function_text nm tb) (g ∷ fs)) tb.types f ≡ gives_one h.result
gives_by nm tb f fs g h more w (holds e) l =
    let same : g ≡ h = same_Some g h (ap (λ t. if t then Some g else function_at fs f) (sym e) ∙ l) in
    ap (λ t. if t then is_scalar (type_of_name tb.types (function_text nm tb g).result) else gives_scalar (map (function_text nm tb) fs) tb.types f) e
    ∙ (written_result tb g.result w ∙ ap (λ (i : FunctionTerm). gives_one i.result) same)
gives_by nm tb f fs g h more w (fails e) l =
    ap (λ t. if t then is_scalar (type_of_name tb.types (function_text nm tb g).result) else gives_scalar (map (function_text nm tb) fs) tb.types f) e
    ∙ more (ap (λ t. if t then Some g else function_at fs f) (sym e) ∙ l)

gives_result : (nm : Naming) (tb : Table) (f : ℕ) (fs : List FunctionTerm) (h : FunctionTerm) → AllByRecursion (λ (g : FunctionTerm). IsResultWritten tb g.result) fs → function_at fs f ≡ Some h → gives_scalar (map (function_text nm tb) fs) tb.types f ≡ gives_one h.result
gives_result nm tb f [] h w l = absurd cc
gives_result nm tb f (g ∷ fs) h w l = gives_by nm tb f fs g h (gives_result nm tb f fs h w.1) w.0 (test (g.name.0 == f)) l

-- What fits is due: one thing of the type, since no parts are.
one_due : (tb : Table) (d : Destination) (due : Ty) (whole : Bool) (r : Results Ty) → result_fits d due whole r ≡ true → IsDue tb d due → gives_one r ≡ is_nowhere d
one_due tb d due whole (results.One t) fit h =
    let q = and_parts (same_type t due) (not (is_scalar t) || whole) fit in
    ap is_scalar (same_type_is t due q.0) ∙ due_scalar tb d due h
one_due tb Nowhere due whole (results.Several ts) fit h = absurd cc
one_due tb Empty due whole (results.Several ts) fit h = absurd cc
one_due tb (Open g k st) due whole (results.Several ts) fit h = absurd cc
one_due tb (InParts us) due whole (results.Several ts) fit h = absurd h

call_text : (nm : Naming) (core : CoreTree) (b : Before) (s : Setting) (f : Name) (ys : List Atom) (o : Option FunctionTerm) → AllByRecursion (λ (g : FunctionTerm). IsResultWritten core.table g.result) core.functions → function_at core.functions f.0 ≡ o
    → call_fits b s ys o ≡ true → IsDue core.table s.destination s.due → gives_scalar (program_of nm core).functions core.table.types f.0 ≡ is_nowhere s.destination
call_text nm core b s f ys None w e fit d = absurd cc
call_text nm core b s f ys (Some g) w e fit d =
    let p = and_parts (have_types b ys g.parameters) (result_fits s.destination s.due s.whole g.result) fit in
    gives_result nm core.table f.0 core.functions g w e ∙ one_due core.table s.destination s.due s.whole g.result p.1 d

-- ---- sides

side_may : (core : CoreTree) (b : Before) (s : Setting) (kind : Kind) (x : Variable) (t : Ty) → least (rules core b s (SideLine kind x t)) ≡ None → MayStand core.table s.destination kind t
side_may core b s Here x t e =
    let r = least3 2 8 9 (not (has_room core.table s.destination)) (is_bound b.bound x) (not (same_type t (field_due core.table s.destination))) e in
    let room = not-false (has_room core.table s.destination) r.0 in
    (room, ap is_scalar (same_type_is t (field_due core.table s.destination) (not-false (same_type t (field_due core.table s.destination)) r.2)) ∙ due_tree core.table s.destination room)
side_may core b s Region x t e = (least2 3 8 (is_scalar t) (is_bound b.bound x) e).0
side_may core b s Scalar x t e = not-false (is_scalar t) (least2 8 9 (is_bound b.bound x) (not (is_scalar t)) e).1

side_due : (tb : Table) (s : Setting) (kind : Kind) (t : Ty) → MayStand tb s.destination kind t → IsDue tb (in_side tb s kind t).destination (in_side tb s kind t).due
side_due tb s Here t may = due_tree tb s.destination may.0
side_due tb s Region t may = may
side_due tb s Scalar t may = may

side_scope : (tb : Table) (xs : List ℕ) (s : Setting) (kind : Kind) (t : Ty) → Covers xs s.scope → Covers xs (in_side tb s kind t).scope
side_scope tb xs s Here t h = h
side_scope tb xs s Region t h = h
side_scope tb xs s Scalar t h = h

side_where : (tb : Table) (s : Setting) (kind : Kind) (t : Ty) → (in_side tb s kind t).destination ≡ side_place kind
side_where tb s Here t = refl
side_where tb s Region t = refl
side_where tb s Scalar t = refl

-- A variable list of consecutive numbers.
fields_are : (n m : ℕ) (ys : List Variable) → Runs n (map (λ (x : Variable). x.0) ys) m → ys ≡ variables_from n ys
fields_are n m [] h = refl
fields_are n m (y ∷ ys) h = λ i. record { 0 = h.0 i } ∷ fields_are (n + 1) m ys h.1 i

fields_end : (n m : ℕ) (ys : List Variable) → Runs n (map (λ (x : Variable). x.0) ys) m → n + length ys ≡ m
fields_end n m [] h = omega (arith, h)
fields_end n m (y ∷ ys) h = (let e = fields_end (n + 1) m ys h.1 in omega (arith, e))

-- What is said of a whole core.
pub record Premises (core : CoreTree) : Type 0 where
  pub is_table : IsTable core.table
  pub results : AllByRecursion (λ (g : FunctionTerm). IsResultWritten core.table g.result) core.functions

-- A term that fills a head at once.
at_once : (core : CoreTree) → IsTable core.table → (h : Variable) (k : ConId) (rest : Term) (b : Before) (s : Setting) (xs : List ℕ) (n m : ℕ) → IsWrite rest → IsFound core.table k → s.destination ≡ Open h k [] → Runs n (binders rest) m → IsNaturalTerm rest → Covers xs s.scope
    → LinesAreBuilt core b (met core.table s rest) → (n ≡ m) × FillsAtOnce core.table xs h k rest
at_once core is h k (Then c t) b s xs n m w f d r l c' built = absurd w
at_once core is h k (Point x) b s xs n m w f d r l c built = absurd w
at_once core is h k (CallTerm g ys) b s xs n m w f d r l c built = absurd w
at_once core is h k (Give x) b s xs n m w f d r l c built = absurd w
at_once core is h k (CaseTerm x bs) b s xs n m w f d r l c built = absurd w
at_once core is h k (IfTerm x t u) b s xs n m w f d r l c built = absurd w
at_once core is h k (Tuple ts ss ps) b s xs n m w f d r l c built = absurd w
at_once core is h k (Write g j ss ps) b s xs n m w f d r l c built =
    let q = least4 4 5 8 9 (any_other s (ss ++ ps)) (not (may_write core.table b s.destination g j ps)) (not (all_usable s (ss ++ ps))) (not (are_scalars core.table b s.destination ss)) built.0 in
    let may : may_write core.table b (Open h k []) g j ps ≡ true = ap (λ e. may_write core.table b e g j ps) (sym d) ∙ not-false (may_write core.table b s.destination g j ps) q.1 in
    let scalars : are_scalars core.table b (Open h k []) ss ≡ true = ap (λ e. are_scalars core.table b e ss) (sym d) ∙ not-false (are_scalars core.table b s.destination ss) q.3 in
    let fill = filling core b s (Open h k []) xs g j ss ps may scalars (not-false (all_usable s (ss ++ ps)) q.2) l.0 l.1 c in
    let same_k : k ≡ j = fill.open_at.1 in
    let fields : HasFields core.table xs j ss ps = fill.fields (subst (λ i. IsFound core.table i) same_k f) in
    (r, (sym fill.open_at.0, sym same_k, subst (λ i. HasFields core.table xs i ss ps) (sym same_k) fields))

module _ (nm : Naming) (core : CoreTree) (ok : Premises core) where
  abbrev p : Program
  p = program_of nm core

  abbrev count : ℕ
  count = length core.table.types

  opens_text : (f : Bool) (h : Variable) (k : ConId) (rest : Term) (b : Before) (s : Setting) (xs : List ℕ) (n m : ℕ) → is_flat core.table k ≡ f → IsFilled f rest → is_empty s.destination ≡ true → IsFound core.table k
      → (h.0 ≡ n) → Runs (n + 1) (binders rest) m → IsNaturalTerm rest → Covers xs s.scope → LinesAreBuilt core b (met core.table (behind s (Past h k)) rest)
      → (is_flat core.table k ≡ false → HasText p rest xs (Open h k []) (n + 1) m) → OpensText p h k rest xs s.destination n m (HasText p rest xs (Open h k []) (n + 1) m) f
  opens_text true h k rest b s xs n m flat w e f num r l c built more =
      let o = at_once core ok.is_table h k rest b (behind s (Past h k)) xs (n + 1) m w f refl r l c built in
      (num, sym o.0, empty_there s.destination e, o.1)
  opens_text false h k rest b s xs n m flat w e f num r l c built more = (num, empty_is s.destination e, f, more flat)

  write_by : (h : Variable) (k : ConId) (ss ps : List Atom) (b : Before) (s : Setting) (d : Destination) (xs : List ℕ) (n m : ℕ) → n ≡ m → AreNaturalAtoms ss × AreNaturalAtoms ps → IsDue core.table d s.due → Covers xs s.scope
      → may_write core.table b d h k ps ≡ true → are_scalars core.table b d ss ≡ true → all_usable s (ss ++ ps) ≡ true → HasText p (Write h k ss ps) xs d n m
  write_by h k ss ps b s Nowhere xs n m e l due c w t u = absurd cc
  write_by h k ss ps b s Empty xs n m e l due c w t u = absurd cc
  write_by h k ss ps b s (InParts ts) xs n m e l due c w t u = absurd cc
  write_by h k ss ps b s (Open g j st) xs n m e l due c w t u =
      let fill = filling core b s (Open g j st) xs h k ss ps w t u l.0 l.1 c in
      let same : j ≡ k = fill.open_at.1 in
      (e, subst (λ i. is_flat core.table i ≡ false) same due.1, fill.open_at, fill.fields (subst (λ i. IsFound core.table i) same due.2))

  mutual
    pub term_text : (t : Term) (b : Before) (s : Setting) (xs : List ℕ) (n m : ℕ) → Runs n (binders t) m → IsNaturalTerm t → HasShape core.table t → TypesDeclared count t → IsDue core.table s.destination s.due → Covers xs s.scope
        → LinesAreBuilt core b (met core.table s t) → HasText p t xs s.destination n m
    term_text (Then (Past h k) rest) b s xs n m r l sh ty due c built =
        let q = least2 1 8 (not (is_empty s.destination && is_of_type core.table k s.due)) (is_bound b.bound h) built.0 in
        let both = and_parts (is_empty s.destination) (is_of_type core.table k s.due) (not-false (is_empty s.destination && is_of_type core.table k s.due) q.0) in
        let scalar : is_scalar s.due ≡ false = due_scalar core.table s.destination s.due due ∙ empty_there s.destination both.0 in
        let after : Before = next core.table b (Rattle.gib_core.specs.Met.PastLine h k) in
        opens_text (is_flat core.table k) h k rest after s xs n m refl sh.0 both.0 (past_found core.table ok.is_table k s.due both.1) r.0 r.1 l.1 c built.1
        (λ flat. term_text rest after (behind s (Past h k)) xs (n + 1) m r.1 l.1 sh.1 ty.1 (scalar, flat, past_found core.table ok.is_table k s.due both.1) c built.1)
    term_text (Then (One (On kind x t u)) rest) b s xs n m r l sh ty due c built =
        let line = SideLine kind x t in
        let lines = met core.table (in_side core.table s kind t) u in
        let first = next core.table b line in
        let parts = built_apart core first lines (met core.table (behind s (One (On kind x t u))) rest) built.1 in
        let q = runs_apart (n + 1) m (binders u) (binders rest) r.1 in
        let may = side_may core b s kind x t built.0 in
        let inner = term_text u first (in_side core.table s kind t) xs (n + 1) q.0 q.1 l.0.1 sh.0 ty.0.1 (side_due core.table s kind t may) (side_scope core.table xs s kind t c) parts.0 in (
          q.0,
          (r.0, may, written core.table ok.is_table t ty.0.0, subst (λ d. HasText p u xs d (n + 1) q.0) (side_where core.table s kind t) inner),
          term_text rest (next_all core.table first lines) (behind s (One (On kind x t u))) (x.0 ∷ xs) q.0 m q.2 l.1 sh.1 ty.1 (due_kept core.table kind x s.destination s.due due) (covers_more x.0 xs (reached x) s.scope refl c) parts.1,
        )
    term_text (Then (Both fork (On i x t u) (On j y o w)) rest) b s xs n m r l sh ty due c built =
        let tb = core.table in
        let left = On i x t u in
        let right = On j y o w in
        let ls = left_of s right in
        let rs = right_of s left in
        let c0 = next tb b ParLine in
        let c1 = next tb c0 (SideLine i x t) in
        let lines_l = met tb (in_side tb ls i t) u in
        let z = next_all tb c1 lines_l in
        let lines_r = met_side tb rs right in
        let both = built_apart core c0 (met_side tb ls left ++ lines_r) (met tb (behind s (Both fork left right)) rest) built.1 in
        let parts = built_apart core c0 (met_side tb ls left) lines_r both.0 in
        let q0 = runs_apart n m ((x.0 ∷ binders u) ++ (y.0 ∷ binders w)) (binders rest) r in
        let q1 = runs_apart n q0.0 (x.0 ∷ binders u) (y.0 ∷ binders w) q0.1 in
        let a = q1.0 in
        let e = q0.0 in
        let may_l = side_may core c0 ls i x t parts.0.0 in
        let may_r = side_may core z rs j y o parts.1.0 in
        let inner_l = term_text u c1 (in_side tb ls i t) xs (n + 1) a q1.1.1 l.0.1.0.1 sh.0.1 ty.0.1.0.1 (side_due tb ls i t may_l) (side_scope tb xs ls i t c) parts.0.1 in
        let c2 = next tb z (SideLine j y o) in
        let inner_r = term_text w c2 (in_side tb rs j o) xs (a + 1) e q1.2.1 l.0.1.1.1 sh.0.2 ty.0.1.1.1 (side_due tb rs j o may_r) (side_scope tb xs rs j o c) parts.1.1 in (
          sh.0.0,
          (
            a,
            (q1.1.0, may_l, written tb ok.is_table t ty.0.1.0.0, subst (λ d. HasText p u xs d (n + 1) a) (side_where tb ls i t) inner_l),
            (
              e,
              (q1.2.0, may_r, written tb ok.is_table o ty.0.1.1.0, subst (λ d. HasText p w xs d (a + 1) e) (side_where tb rs j o) inner_r),
              term_text rest (next_all tb c0 (met_side tb ls left ++ lines_r)) (behind s (Both fork left right)) (y.0 ∷ x.0 ∷ xs) e m q0.2 l.1 sh.1 ty.1
                  (due_kept tb j y (stands_too i x s.destination) s.due (due_kept tb i x s.destination s.due due)) (covers_more y.0 (x.0 ∷ xs) (reached y) (reached x ∷ s.scope) refl (covers_more x.0 xs (reached x) s.scope refl c)) both.1,
            ),
          ),
        )
    term_text (Then (One (Several ys ts u)) rest) b s xs n m r l sh ty due c built = absurd sh.0
    term_text (Then (Both fork (On i x t u) (Several ys ts w)) rest) b s xs n m r l sh ty due c built = absurd sh.0.2
    term_text (Then (Both fork (Several ys ts u) side) rest) b s xs n m r l sh ty due c built = absurd sh.0.1
    term_text (Then (Prim x f y z) rest) b s xs n m r l sh ty due c built =
        let u = all_usable s (y ∷ z ∷ []) in
        let q = least3 4 8 9 (any_other s (y ∷ z ∷ [])) (is_bound b.bound x || not u) (not (have_types b (y ∷ z ∷ []) (Whole ∷ Whole ∷ []))) built.0 in
        let k = or_parts (is_bound b.bound x) (not u) q.1 in
        let us = and_parts (is_usable s y) (is_usable s z && true) (not-false u k.1) in
        let uz = and_parts (is_usable s z) true us.1 in (
          r.0,
          atom_text xs s y us.0 l.0.0 c,
          atom_text xs s z uz.0 l.0.1 c,
          term_text rest (next core.table b (Rattle.gib_core.specs.Met.PrimLine x f y z)) (behind s (Prim x f y z)) (x.0 ∷ xs) (n + 1) m r.1 l.1 sh.1 ty.1 due (covers_more x.0 xs (reached x) s.scope refl c) built.1,
        )
    term_text (Then (Reach y by) rest) b s xs n m r l sh ty due c built =
        let q = least2 4 8 (is_among s.others y) (not (may_reach core b s (known s.scope y) by)) built.0 in
        let h = reach_text core b xs s y (known s.scope y) by refl (not-false (may_reach core b s (known s.scope y) by) q.1) c in
        (h.0, h.1, term_text rest (next core.table b (Rattle.gib_core.specs.Met.ReachLine y by)) (behind s (Reach y by)) xs n m r l.1 sh.1 ty.1 due (covers_reach xs s.scope y (known s.scope y) refl c) built.1)
    term_text (Write h k ss ps) b s xs n m r l sh ty due c built =
        let q = least4 4 5 8 9 (any_other s (ss ++ ps)) (not (may_write core.table b s.destination h k ps)) (not (all_usable s (ss ++ ps))) (not (are_scalars core.table b s.destination ss)) built.0 in
        write_by h k ss ps b s s.destination xs n m r l due c (not-false (may_write core.table b s.destination h k ps) q.1) (not-false (are_scalars core.table b s.destination ss) q.3) (not-false (all_usable s (ss ++ ps)) q.2)
    term_text (Point x) b s xs n m r l sh ty due c built =
        let q = least4 4 6 8 9 (is_other s x) (not (is_empty s.destination)) (not (is_usable s x)) (not (has_type b x s.due)) built.0 in
        let e = empty_there s.destination (not-false (is_empty s.destination) q.1) in
        (r, e, variable_text xs s b x s.due (not-false (is_usable s x) q.2) (not-false (has_type b x s.due) q.3) (due_scalar core.table s.destination s.due due ∙ e) c)
    term_text (CallTerm f ys) b s xs n m r l sh ty due c built =
        let o = function_at core.functions f.0 in
        let q = least4 4 6 8 9 (any_other s ys) (gives_packed o && not (is_empty s.destination)) (not (all_usable s ys)) (not (call_fits b s ys o)) built.0 in
        (r, call_text nm core b s f ys o ok.results refl (not-false (call_fits b s ys o) q.3) due, atoms_text xs s ys (not-false (all_usable s ys) q.2) l c)
    term_text (Give x) b s xs n m r l sh ty due c built =
        let q = least3 4 8 9 (is_other s x) (not (is_usable s x)) (not (is_nowhere s.destination && has_type b x s.due)) built.0 in
        (r, atom_text xs s x (not-false (is_usable s x) q.1) l c)
    term_text (CaseTerm x bs) b s xs n m r l sh ty due c built =
        let arms = arms_of bs in
        let u = is_usable s x in
        let v = cover core.table (type_of b x) arms in
        let q = least3 4 7 8 (is_other s x) (not v) (not u || any_bound (arm_variables arms) [] b.bound) built.0 in
        let k = or_parts (not u) (any_bound (arm_variables arms) [] b.bound) q.2 in
        let cov = covered core.table (type_of b x) arms (not-false v q.1) in (
          cased_text xs core.table s b x arms (not-false u k.0) (not-false v q.1) c,
          sh.0,
          branches_text bs (next core.table b (CaseLine x arms)) s xs n m (first_at core.table cov.0) (count_at core.table cov.0) r l.1 sh.1 ty.1 due c built.1 cov.1 (rows_inside cov.0 core.table.rows),
        )
    term_text (IfTerm x t u) b s xs n m r l sh ty due c built =
        let q = least3 4 8 9 (is_other s x) (not (is_usable s x)) (not (has_type b x Truth)) built.0 in
        let lines = met core.table (in_branch s) t in
        let parts = built_apart core b lines (met core.table (in_branch s) u) built.1 in
        let k = runs_apart n m (binders t) (binders u) r in (
          atom_text xs s x (not-false (is_usable s x) q.1) l.0 c,
          (k.0, term_text t b (in_branch s) xs n k.0 k.1 l.1.0 sh.0 ty.1.0 due c parts.0, term_text u (next_all core.table b lines) (in_branch s) xs k.0 m k.2 l.1.1 sh.1 ty.1.1 due c parts.1),
        )
    term_text (Tuple ts ss ps) b s xs n m r l sh ty due c built = absurd sh

    pub branches_text : (bs : Branches) (b : Before) (s : Setting) (xs : List ℕ) (n m first many : ℕ) → Runs n (branch_binders bs) m → AreNaturalBranches bs → HasShapes core.table bs → BranchesDeclared count bs → IsDue core.table s.destination s.due → Covers xs s.scope
        → LinesAreBuilt core b (met_branches core.table s bs) → are_arms core.table (numbers_from first many) (arms_of bs) ≡ true → first + many ≤ length core.table.rows → HasBranches p bs xs s.destination n m
    branches_text NoBranch b s xs n m first many r l sh ty due c built e rows = r
    branches_text (BranchThen k ys t bs) b s xs n m first zero r l sh ty due c built e rows = absurd cc
    branches_text (BranchThen k ys t bs) b s xs n m first (suc many) r l sh ty due c built e rows =
        let tb = core.table in
        let q = and_parts (first == k.0 && length (fields_at tb first) == length ys) (are_arms tb (numbers_from (suc first) many) (arms_of bs)) e in
        let is_k = eqb-true first k.0 (and_parts (first == k.0) (length (fields_at tb first) == length ys) q.0).0 in
        let fields = map (λ (x : Variable). x.0) ys in
        let r1 = runs_apart n m fields (binders t ++ branch_binders bs) r in
        let r2 = runs_apart r1.0 m (binders t) (branch_binders bs) r1.2 in
        let lines = met tb (in_arm tb s k ys) t in
        let parts = built_apart core b lines (met_branches tb s bs) built in
        let first_line : HasText p t (scope_from n ys xs) s.destination r1.0 r2.0 = term_text t b (in_arm tb s k ys) (scope_from n ys xs) r1.0 r2.0 r2.1 l.1.0 sh.0 ty.1.0 due (covers_arm n r1.0 k ys (fields_at tb k.0) None xs s.scope r1.1 c) parts.0 in (
          fields_are n r1.0 ys r1.1,
          found_in tb ok.is_table k (omega (arith, is_k, rows)),
          (
            r2.0,
            subst (λ i. HasText p t (scope_from n ys xs) s.destination i r2.0) (sym (fields_end n r1.0 ys r1.1)) first_line,
            branches_text bs (next_all tb b lines) s xs r2.0 m (suc first) many r2.2 l.1.1 sh.1 ty.1.1 due c parts.1 q.1 (omega (arith, rows)),
          ),
        )
