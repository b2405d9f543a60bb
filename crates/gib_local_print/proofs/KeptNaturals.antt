-- No pass makes a negative literal.
use Rattle.std.proofs.Common.{◌≡◌, ℕ, ◌+◌, Bool, true, false, if◌then◌else◌, List, [], ◌∷◌, map, length}
use Rattle.std.specs.List.{AllByRecursion}
use Rattle.gib_types.specs.declared.table.ConId.{ConId}
use Rattle.gib_types.specs.Table.{Table}
use Rattle.gib_core.specs.declared.atom.Variable.{Variable}
use Rattle.gib_core.specs.declared.atom.Atom.{Atom}
use Rattle.gib_core.specs.declared.atom.Atom.TheVariants as a
use Rattle.gib_core.specs.declared.atom.Access.TheVariants.{Offset, Skip, End}
use Rattle.gib_core.specs.declared.atom.AccessMode.{AccessMode}
use Rattle.gib_core.specs.declared.atom.AccessMode.TheVariants.{Skips, Offsets, Ends}
use Rattle.gib_core.specs.declared.atom.Ended.{Ended}
use Rattle.gib_core.specs.Tree.{Term, Then, Write, Point, CallTerm, Give, CaseTerm, IfTerm, Tuple, PartTerms, NoPart, PartThen, Bind, Past, One, Both, Prim, Reach, Side, On, Several, Branches, NoBranch, BranchThen, prepend, CoreTree}
use Rattle.gib_core.specs.Counting.{is_once}
use Rattle.gib_core.specs.Inferring.{as_atoms}
use Rattle.gib_core.specs.Met.{Body, bodies}
use Rattle.gib_core.specs.Ordered.{IsFit, AreFit, IsOrdered, BindOrdered, SideOrdered, PartsOrdered, BranchesOrdered, AreOrdered, IsNatural, AreNaturalAtoms, IsNaturalEntry, IsNaturalTerm, IsNaturalBind, IsNaturalSide, AreNaturalParts, AreNaturalBranches, AreNatural}
use Rattle.gib_core.specs.Reaching.{Later, uses, bind_uses, uses_any, ends_now, not_now, skips_from, offsets_from, untold_from, reaches, laters, in_par, packed_variables, ended_by, offsets_by, tells_ends, reach, reach_bind, reach_side, reach_parts, reach_branches, reach_core}
use Rattle.gib_core.proofs.Remade.{all_so, remade_so}
use Rattle.gib_core.proofs.Walks.{map_joins}
use Rattle.gib_place.specs.declared.field.Field.{Field}
use Rattle.gib_place.specs.Numbering.{place_core, place_anew, place_in, variables_in}
use Rattle.gib_place.specs.Placing.{pointing, Filling, are_fields, as_bound, placed_inside, place_line, place_inner, place_body}
use Rattle.gib_place.proofs.Lays.{Lays, ends, opens, puts, stays, one, left, right, both}
use Rattle.gib_place.proofs.Counts.{ending_line, filling_line, line_by_steps}
use Rattle.gib_place.specs.Renaming.{Renaming, rename_atom, rename, rename_bind, rename_side, rename_parts, rename_branches}

-- ---- what is used behind where it is bound

fit_natural : (n : ℕ) (x : Atom) → IsFit n x → IsNatural x
fit_natural n (a.Variable x) h = tt
fit_natural n (a.Whole z) h = h
fit_natural n (a.Truth b) h = tt

fits_natural : (n : ℕ) (xs : List Atom) → AreFit n xs → AreNaturalAtoms xs
fits_natural n [] h = tt
fits_natural n (x ∷ xs) h = (fit_natural n x h.0, fits_natural n xs h.1)

mutual
  ordered_natural : (tb : Table) (n : ℕ) (t : Term) → IsOrdered tb n t → IsNaturalTerm t
  ordered_natural tb n (Then b rest) h = (bind_ordered tb n b h.0, ordered_natural tb h.1.0 rest h.1.2)
  ordered_natural tb n (Write g k ss ps) h = (fits_natural n ss h.1, fits_natural n ps h.2)
  ordered_natural tb n (Point x) h = fit_natural n x h
  ordered_natural tb n (CallTerm f xs) h = fits_natural n xs h
  ordered_natural tb n (Give x) h = fit_natural n x h
  ordered_natural tb n (CaseTerm x bs) h = (fit_natural n x h.0, branches_ordered tb n bs h.1)
  ordered_natural tb n (IfTerm x t u) h = (fit_natural n x h.0, (ordered_natural tb h.1.0 t h.1.2, ordered_natural tb h.2.0 u h.2.2))
  ordered_natural tb n (Tuple tys ss ps) h = (fits_natural n ss h.0, parts_ordered tb n ps h.1)

  bind_ordered : (tb : Table) (n : ℕ) (b : Bind) → BindOrdered tb n b → IsNaturalBind b
  bind_ordered tb n (Past g k) h = tt
  bind_ordered tb n (One s) h = side_ordered tb n s h
  bind_ordered tb n (Both fork l r) h = (tt, (side_ordered tb n l h.0, side_ordered tb h.1.0 r h.1.2))
  bind_ordered tb n (Prim x f y z) h = (fit_natural n y h.1, fit_natural n z h.2)
  bind_ordered tb n (Reach y by) h = tt

  side_ordered : (tb : Table) (n : ℕ) (s : Side) → SideOrdered tb n s → IsNaturalSide s
  side_ordered tb n (On kind x ty t) h = (tt, ordered_natural tb (x.0 + 1) t h.1)
  side_ordered tb n (Several xs tys t) h = (tt, ordered_natural tb (Rattle.gib_core.specs.Ordered.behind_fields n xs) t h.1)

  parts_ordered : (tb : Table) (n : ℕ) (ps : PartTerms) → PartsOrdered tb n ps → AreNaturalParts ps
  parts_ordered tb n NoPart h = tt
  parts_ordered tb n (PartThen t ps) h = (tt, (ordered_natural tb h.0.0 t h.0.2, parts_ordered tb n ps h.1))

  branches_ordered : (tb : Table) (n : ℕ) (bs : Branches) → BranchesOrdered tb n bs → AreNaturalBranches bs
  branches_ordered tb n NoBranch h = tt
  branches_ordered tb n (BranchThen k xs t bs) h = (tt, (ordered_natural tb h.0.4.0 t h.0.4.2, branches_ordered tb n bs h.1))

pub core_natural : (core : CoreTree) → AreOrdered core → AreNatural core
core_natural core h = all_so (λ (b : Body). IsOrdered core.table (length b.parameters) b.term) (λ (b : Body). IsNaturalTerm b.term) (λ b o. ordered_natural core.table (length b.parameters) b.term o) (bodies core) h

-- ---- other numbers

atom_renamed : (r : Renaming) (x : Atom) → IsNatural x → IsNatural (rename_atom r x)
atom_renamed r (a.Variable x) h = tt
atom_renamed r (a.Whole z) h = h
atom_renamed r (a.Truth b) h = tt

atoms_renamed : (r : Renaming) (xs : List Atom) → AreNaturalAtoms xs → AreNaturalAtoms (map (rename_atom r) xs)
atoms_renamed r [] h = tt
atoms_renamed r (x ∷ xs) h = (atom_renamed r x h.0, atoms_renamed r xs h.1)

mutual
  term_renamed : (r : Renaming) (t : Term) → IsNaturalTerm t → IsNaturalTerm (rename r t)
  term_renamed r (Then b rest) h = (bind_renamed r b h.0, term_renamed r rest h.1)
  term_renamed r (Write g k ss ps) h = (atoms_renamed r ss h.0, atoms_renamed r ps h.1)
  term_renamed r (Point x) h = atom_renamed r x h
  term_renamed r (CallTerm f xs) h = atoms_renamed r xs h
  term_renamed r (Give x) h = atom_renamed r x h
  term_renamed r (CaseTerm x bs) h = (atom_renamed r x h.0, branches_renamed r bs h.1)
  term_renamed r (IfTerm x t u) h = (atom_renamed r x h.0, (term_renamed r t h.1.0, term_renamed r u h.1.1))
  term_renamed r (Tuple tys ss ps) h = (atoms_renamed r ss h.0, parts_renamed r ps h.1)

  bind_renamed : (r : Renaming) (b : Bind) → IsNaturalBind b → IsNaturalBind (rename_bind r b)
  bind_renamed r (Past g k) h = tt
  bind_renamed r (One s) h = side_renamed r s h
  bind_renamed r (Both fork l q) h = (tt, (side_renamed r l h.1.0, side_renamed r q h.1.1))
  bind_renamed r (Prim x f y z) h = (atom_renamed r y h.0, atom_renamed r z h.1)
  bind_renamed r (Reach y by) h = tt

  side_renamed : (r : Renaming) (s : Side) → IsNaturalSide s → IsNaturalSide (rename_side r s)
  side_renamed r (On kind x ty t) h = (tt, term_renamed r t h.1)
  side_renamed r (Several xs tys t) h = (tt, term_renamed r t h.1)

  parts_renamed : (r : Renaming) (ps : PartTerms) → AreNaturalParts ps → AreNaturalParts (rename_parts r ps)
  parts_renamed r NoPart h = tt
  parts_renamed r (PartThen t ps) h = (tt, (term_renamed r t h.1.0, parts_renamed r ps h.1.1))

  branches_renamed : (r : Renaming) (bs : Branches) → AreNaturalBranches bs → AreNaturalBranches (rename_branches r bs)
  branches_renamed r NoBranch h = tt
  branches_renamed r (BranchThen k xs t bs) h = (tt, (term_renamed r t h.1.0, branches_renamed r bs h.1.1))

-- ---- placing

abbrev NaturalBinds : List Bind → Type 0
NaturalBinds bs = AllByRecursion IsNaturalBind bs

abbrev NaturalFields : List Field → Type 0
NaturalFields fs = AllByRecursion (λ (f : Field). IsNatural f.target) fs

binds_then : (bs : List Bind) (t : Term) → NaturalBinds bs → IsNaturalTerm t → IsNaturalTerm (prepend bs t)
binds_then [] t h g = g
binds_then (b ∷ bs) t h g = (h.0, binds_then bs t h.1 g)

binds_apart : (bs : List Bind) (t : Term) → IsNaturalTerm (prepend bs t) → NaturalBinds bs × IsNaturalTerm t
binds_apart [] t h = (tt, h)
binds_apart (b ∷ bs) t h = (let g = binds_apart bs t h.1 in ((h.0, g.0), g.1))

fields_natural : (fs : List Field) → NaturalBinds (map pointing fs) → NaturalFields fs
fields_natural [] h = tt
fields_natural (f ∷ fs) h = (h.0.1, fields_natural fs h.1)

variables_natural : (xs : List Variable) → AreNaturalAtoms (as_atoms xs)
variables_natural [] = tt
variables_natural (x ∷ xs) = (tt, variables_natural xs)

-- What a run and the fields of its head are laid out as.
lays_natural : {once : Variable → Bool} {g : Variable} {k : ConId} {o : Bool} {bs : List Bind} {fs : List Field} {cs : List Bind} {xs : List Variable} → Lays once (Past g k) o bs fs cs xs
    → NaturalBinds bs → NaturalFields fs → NaturalBinds cs
lays_natural ends n m = tt
lays_natural (opens l) n m = (tt, lays_natural l n m)
lays_natural (puts e l) n m = ((tt, m.0), lays_natural l n m.1)
lays_natural (stays l) n m = (n.0, lays_natural l n.1 m)
lays_natural (one o e l) n m = (n.0, lays_natural l n.1 m.1)
lays_natural (left o e l) n m = (n.0, lays_natural l n.1 m.1)
lays_natural (right o e l) n m = (n.0, lays_natural l n.1 m.1)
lays_natural (both o e p d l) n m = (n.0, lays_natural l n.1 m.1.1)

-- A term has no negative literal where another one has none.
abbrev IsNaturalToo : Term → Term → Type 0
IsNaturalToo t u = IsNaturalTerm t → IsNaturalTerm u

laid_natural : (once : Variable → Bool) (l : Filling) (cs : List Bind) (xs : List Variable) → are_fields once l.ending.fields l.ending.packed ≡ true
    → Lays once (Past l.room l.made) false l.run l.ending.fields cs xs → IsNaturalToo (filling_line l) (prepend cs (Write l.ending.head l.ending.con l.ending.scalars (as_atoms xs)))
laid_natural once l cs xs e lays h =
    let a = binds_apart l.run (Then (Past l.room l.made) (ending_line l.ending)) h in
    let b = binds_apart (map pointing l.ending.fields) (Write l.ending.head l.ending.con l.ending.scalars l.ending.packed) a.1.1 in
    binds_then cs (Write l.ending.head l.ending.con l.ending.scalars (as_atoms xs)) (lays_natural lays a.0 (fields_natural l.ending.fields b.0)) (b.1.0, variables_natural xs)

line_natural : (once : Variable → Bool) (t : Term) → IsNaturalTerm t → IsNaturalTerm (place_line once t)
line_natural once t = line_by_steps once IsNaturalToo (λ t h. h) (laid_natural once) t

-- What is said of a term follows from what is said of another one.
abbrev FromOther : Type 0 → Type 0 → Type 0
FromOther A B = B → A

inner_natural : (once : Variable → Bool) (t : Term) → IsNaturalTerm t → IsNaturalTerm (place_inner once t)
inner_natural once t = map_joins FromOther (λ (A B : Type 0). A × B) (Unit {0}) IsNaturalEntry as_bound (placed_inside once)
    (record { same = λ A h. h; chain = λ A B C f g h. f (g h); two = λ A B C D f g h. (f h.0, g h.1); bound = λ b h. h; nested = λ s u h. line_natural once u h }) t

place_natural : (b : Body) → IsNaturalTerm b.term → IsNaturalTerm (place_anew b)
place_natural b h =
    term_renamed (place_in (variables_in (length b.parameters) (place_body b.term))) (place_body b.term) (line_natural (is_once b.term) (place_inner (is_once b.term) b.term) (inner_natural (is_once b.term) b.term h))

-- ---- reaching

ends_natural : (used : Variable → Bool) (fs : List Later) (u : Term) → IsNaturalTerm u → IsNaturalTerm (prepend (ends_now used fs) u)
ends_natural used [] u h = h
ends_natural used (f ∷ fs) u h = by (used f.field) (ends_natural used fs u h)
  where
    by : (b : Bool) → IsNaturalTerm (prepend (ends_now used fs) u) → IsNaturalTerm (prepend (if b then Reach f.field (End f.before) ∷ ends_now used fs else ends_now used fs) u)
    by true e = (tt, e)
    by false e = e

skips_natural : (t u : Term) (z : Variable) (ys : List Variable) → IsNaturalTerm u → IsNaturalTerm (prepend (skips_from t z ys) u)
skips_natural t u z [] h = h
skips_natural t u z (y ∷ ys) h = by (uses_any t (y ∷ ys)) (skips_natural t u y ys h)
  where
    by : (b : Bool) → IsNaturalTerm (prepend (skips_from t y ys) u) → IsNaturalTerm (prepend (if b then Reach y (Skip z) ∷ skips_from t y ys else []) u)
    by true e = (tt, e)
    by false e = h

offsets_natural : (t u : Term) (ys : List Variable) → IsNaturalTerm u → IsNaturalTerm (prepend (offsets_from t ys) u)
offsets_natural t u [] h = h
offsets_natural t u (y ∷ ys) h = by (uses t y) (offsets_natural t u ys h)
  where
    by : (b : Bool) → IsNaturalTerm (prepend (offsets_from t ys) u) → IsNaturalTerm (prepend (if b then Reach y Offset ∷ offsets_from t ys else offsets_from t ys) u)
    by true e = (tt, e)
    by false e = e

reaches_natural : (m : AccessMode) (es : List Ended) (t u : Term) (xs : List Variable) → IsNaturalTerm u → IsNaturalTerm (prepend (reaches m es t xs) u)
reaches_natural Skips es t u [] h = h
reaches_natural Offsets es t u [] h = h
reaches_natural Ends es t u [] h = h
reaches_natural Skips es t u (z ∷ ys) h = skips_natural t u z ys h
reaches_natural Offsets es t u (z ∷ ys) h = offsets_natural t u ys h
reaches_natural Ends es t u (z ∷ ys) h = offsets_natural t u (untold_from es t z ys) h

module _ (tb : Table) (es : List Ended) where
  mutual
    term_reached : (mode : AccessMode) (fs : List Later) (t : Term) → IsNaturalTerm t → IsNaturalTerm (reach mode tb es fs t)
    term_reached mode fs (Then b rest) h =
        let left : List Later = not_now (bind_uses b) fs in
        ends_natural (bind_uses b) fs (Then (reach_bind mode tb es b) (reach mode tb es left rest)) (bind_reached mode b h.0, term_reached mode left rest h.1)
    term_reached mode fs (Write g k ss ps) h = ends_natural (uses (Write g k ss ps)) fs (Write g k ss ps) h
    term_reached mode fs (Point x) h = ends_natural (uses (Point x)) fs (Point x) h
    term_reached mode fs (CallTerm f xs) h = ends_natural (uses (CallTerm f xs)) fs (CallTerm f xs) h
    term_reached mode fs (Give x) h = ends_natural (uses (Give x)) fs (Give x) h
    term_reached mode fs (CaseTerm x bs) h = ends_natural (uses (CaseTerm x bs)) fs (CaseTerm x (reach_branches mode tb es bs)) (h.0, branches_reached mode bs h.1)
    term_reached mode fs (IfTerm x t u) h = ends_natural (uses (IfTerm x t u)) fs (IfTerm x (reach mode tb es [] t) (reach mode tb es [] u)) (h.0, (term_reached mode [] t h.1.0, term_reached mode [] u h.1.1))
    term_reached mode fs (Tuple tys ss ps) h = ends_natural (uses (Tuple tys ss ps)) fs (Tuple tys ss (reach_parts mode tb es ps)) (h.0, parts_reached mode ps h.1)

    bind_reached : (mode : AccessMode) (b : Bind) → IsNaturalBind b → IsNaturalBind (reach_bind mode tb es b)
    bind_reached mode (Past g k) h = tt
    bind_reached mode (One s) h = side_reached mode s h
    bind_reached mode (Both fork l r) h = (tt, (side_reached (in_par mode) l h.1.0, side_reached (in_par mode) r h.1.1))
    bind_reached mode (Prim x f y z) h = h
    bind_reached mode (Reach y by) h = tt

    side_reached : (mode : AccessMode) (s : Side) → IsNaturalSide s → IsNaturalSide (reach_side mode tb es s)
    side_reached mode (On kind x ty t) h = (tt, term_reached mode [] t h.1)
    side_reached mode (Several xs tys t) h = (tt, term_reached mode [] t h.1)

    parts_reached : (mode : AccessMode) (ps : PartTerms) → AreNaturalParts ps → AreNaturalParts (reach_parts mode tb es ps)
    parts_reached mode NoPart h = tt
    parts_reached mode (PartThen t ps) h = (tt, (term_reached mode [] t h.1.0, parts_reached mode ps h.1.1))

    branches_reached : (mode : AccessMode) (bs : Branches) → AreNaturalBranches bs → AreNaturalBranches (reach_branches mode tb es bs)
    branches_reached mode NoBranch h = tt
    branches_reached mode (BranchThen k xs t bs) h =
        let ps = packed_variables tb k xs in
        (tt, (reaches_natural mode es t (reach mode tb es (laters mode es t ps) t) ps (term_reached mode (laters mode es t ps) t h.1.0), branches_reached mode bs h.1.1))

abbrev Naturals : Body → Type 0
Naturals b = IsNaturalTerm b.term

-- A whole core.
pub passes_natural : (mode : AccessMode) (core : CoreTree) → AreNatural core → AreNatural (reach_core mode (place_core core))
passes_natural mode core h =
    let placed : CoreTree = place_core core in
    let known : AreNatural placed = remade_so place_anew core.offsets core.marked Naturals Naturals place_natural core h in
    remade_so (λ b. reach mode placed.table (ended_by mode placed) [] b.term) (offsets_by mode placed) (tells_ends mode) Naturals Naturals (λ b n. term_reached placed.table (ended_by mode placed) mode [] b.term n) placed known
