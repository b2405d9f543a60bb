-- Destinations, and atoms that fit.
use Rattle.std.proofs.Common.{◌≡◌, ℕ, zero, suc, ◌<◌, ◌==◌, Bool, true, false, if◌then◌else◌, List, [], ◌∷◌, ◌++◌, map, drop, length, get_or, Option, Some, None, refl, sym, ap, ◌∙◌, subst, arith, length-append}
use Rattle.std.proofs.lemmas.Bool.{eqb-true, and_from, and_parts, or_parts}
use Rattle.std.proofs.lemmas.List.{map-append}
use Rattle.std.proofs.lemmas.Option.{same_Some}
use Rattle.std.specs.List.{AllByRecursion}
use Rattle.gib_types.specs.declared.table.Ty.{Ty}
use Rattle.gib_types.specs.declared.table.Ty.TheVariants.{Whole, Truth, Tree}
use Rattle.gib_types.specs.declared.table.TyId.{TyId}
use Rattle.gib_types.specs.declared.table.ConId.{ConId}
use Rattle.gib_types.specs.Table.{Table, fields_at, tree_types, con_at, if_owned}
use Rattle.gib_types.specs.Row.{Row}
use Rattle.std.specs.Prelude.{slice_get}
use Rattle.gib_syntax.specs.Meaning.{is_scalar}
use Rattle.gib_core.specs.declared.atom.Variable.{Variable}
use Rattle.gib_core.specs.declared.atom.Atom.{Atom}
use Rattle.gib_core.specs.declared.atom.Atom.TheVariants as a
use Rattle.gib_core.specs.declared.scope.Behind.{Behind}
use Rattle.gib_core.specs.declared.scope.Known.{Known}
use Rattle.gib_core.specs.Tree.{var}
use Rattle.gib_core.specs.Met.{Destination, Nowhere, Empty, Open, InParts, Setting, known, field_due, packed_types}
use Rattle.gib_core.specs.Rules.{Before, is_among, type_bound, type_of, has_type, have_types, is_reached, is_usable, all_usable, any_cased, further, are_variables, is_there}
use Rattle.gib_core.specs.Fits as f
use Rattle.gib_core.specs.Fits.{Sort, Placed, Scope, tree_type, Dest, packed_due, more, IsDue, AtomFits, AtomsFit, ArePlaced, FurtherPlaced, IsTree}
use Rattle.gib_core.specs.Literals.{LiteralFits}
use Rattle.gib_core.proofs.Facts.{is_type_is, same_variable}
use Rattle.gib_core.proofs.Vars.{Tracked, IsKnown, Vars}

abbrev pub numbers : List Variable → List ℕ
numbers xs = map (λ (x : Variable). x.0) xs

-- The fields that stand are trees that can be used.
abbrev pub AllStand : Before → Scope → List Variable → Type 0
AllStand b sc [] = Unit {0}
AllStand b sc (x ∷ xs) = ((o : TyId) × Tracked b sc x.0 (Tree o)) × AllStand b sc xs

-- An open head.
pub record OpenAt (table : Table) (b : Before) (sc : Scope) (h : Variable) (k : ConId) (standing : List Variable) (t : ℕ) (d : Dest) : Type 0 where
  pub dest : d ≡ f.Open t h.0 k.0 (numbers standing) (drop (length standing) (packed_due (fields_at table k.0)))
  pub stand : AllStand b sc standing

-- The destination, with the type that is due there.
abbrev pub IsDest : Table → Before → Scope → Destination → Ty → Dest → Type 0
IsDest table b sc Nowhere due d = (is_scalar due ≡ true) × (d ≡ f.Nowhere due)
IsDest table b sc Empty due d = (t : TyId) × (due ≡ Tree t) × (d ≡ f.Empty t.0)
IsDest table b sc (Open h k standing) due d = (t : TyId) × (due ≡ Tree t) × OpenAt table b sc h k standing t.0 d
IsDest table b sc (InParts tys) due d = d ≡ f.InParts tys

-- What is tracked stays so.
abbrev pub Keeps : Before → Scope → Before → Scope → Type 0
Keeps b sc c tc = (y : ℕ) (ty : Ty) → Tracked b sc y ty → Tracked c tc y ty

pub stand_kept : (b c : Before) (sc tc : Scope) (xs : List Variable) → Keeps b sc c tc → AllStand b sc xs → AllStand c tc xs
stand_kept b c sc tc [] keep h = tt
stand_kept b c sc tc (x ∷ xs) keep h = ((h.0.0, keep x.0 (Tree h.0.0) h.0.1), stand_kept b c sc tc xs keep h.1)

pub dest_kept : (table : Table) (b c : Before) (sc tc : Scope) (e : Destination) (due : Ty) (d : Dest) → Keeps b sc c tc → IsDest table b sc e due d → IsDest table c tc e due d
dest_kept table b c sc tc Nowhere due d keep h = h
dest_kept table b c sc tc Empty due d keep h = h
dest_kept table b c sc tc (Open q k standing) due d keep h = (h.0, h.1, record { dest = h.2.dest; stand = stand_kept b c sc tc standing keep h.2.stand })
dest_kept table b c sc tc (InParts tys) due d keep h = h

-- The next field that is due.
pub record NextOf (ts : List Ty) (n : ℕ) : Type 0 where
  pub ty : TyId
  pub due : get_or (tree_types ts) n Whole ≡ Tree ty
  pub rest : drop n (packed_due ts) ≡ ty.0 ∷ drop (suc n) (packed_due ts)

pub next_of : (ts : List Ty) (n : ℕ) → n < length (tree_types ts) → NextOf ts n
next_of [] n lt = absurd (omega arith)
next_of (Whole ∷ ts) n lt = (let h = next_of ts n lt in record { ty = h.ty; due = h.due; rest = h.rest })
next_of (Truth ∷ ts) n lt = (let h = next_of ts n lt in record { ty = h.ty; due = h.due; rest = h.rest })
next_of (Tree t ∷ ts) zero lt = record { ty = t; due = refl; rest = refl }
next_of (Tree t ∷ ts) (suc n) lt = (let h = next_of ts n (omega arith) in record { ty = h.ty; due = h.due; rest = h.rest })

drop_all : (ts : List Ty) → drop (length (tree_types ts)) (packed_due ts) ≡ []
drop_all [] = refl
drop_all (Whole ∷ ts) = drop_all ts
drop_all (Truth ∷ ts) = drop_all ts
drop_all (Tree t ∷ ts) = drop_all ts

pub due_all : (ts : List Ty) (n : ℕ) → n == length (tree_types ts) ≡ true → drop n (packed_due ts) ≡ []
due_all ts n e = ap (λ m. drop m (packed_due ts)) (eqb-true n (length (tree_types ts)) e) ∙ drop_all ts

pub record HereDue (table : Table) (d : Dest) (standing : List Variable) (h : Variable) (k : ConId) (t : ℕ) (x : Variable) : Type 0 where
  pub ty : TyId
  pub due : field_due table (Open h k standing) ≡ Tree ty
  pub is : IsDue d ty.0
  pub after : more d x.0 ≡ f.Open t h.0 k.0 (numbers (standing ++ x ∷ [])) (drop (length (standing ++ x ∷ [])) (packed_due (fields_at table k.0)))

pub here_due : (table : Table) (b : Before) (sc : Scope) (h : Variable) (k : ConId) (standing : List Variable) (t : ℕ) (d : Dest) (x : Variable) → OpenAt table b sc h k standing t d
    → length standing < length (packed_types table k) → HereDue table d standing h k t x
here_due table b sc h k standing t d x o lt =
    let n = next_of (fields_at table k.0) (length standing) lt in
    let all = packed_due (fields_at table k.0) in
    let is : d ≡ f.Open t h.0 k.0 (numbers standing) (n.ty.0 ∷ drop (suc (length standing)) all) = o.dest ∙ ap (λ l. f.Open t h.0 k.0 (numbers standing) l) n.rest in
    let long : suc (length standing) ≡ length (standing ++ x ∷ []) = let e = length-append standing (x ∷ []) in omega (arith, e) in
    record {
      ty = n.ty;
      due = n.due;
      is = subst (λ (e : Dest). IsDue e n.ty.0) (sym is) refl;
      after = ap (λ e. more e x.0) is
          ∙ ap (λ l. f.Open t h.0 k.0 l (drop (suc (length standing)) all)) (sym (map-append (λ (y : Variable). y.0) standing (x ∷ [])))
          ∙ ap (λ m. f.Open t h.0 k.0 (numbers (standing ++ x ∷ [])) (drop m all)) long;
    }

pub stand_too : (b : Before) (sc : Scope) (xs : List Variable) (x : Variable) (o : TyId) → AllStand b sc xs → Tracked b sc x.0 (Tree o) → AllStand b sc (xs ++ x ∷ [])
stand_too b sc [] x o h k = ((o, k), tt)
stand_too b sc (y ∷ xs) x o h k = (h.0, stand_too b sc xs x o h.1 k)

-- Variables that can be used.

by_reached : (b : Before) (sc : Scope) (y : ℕ) (r : Bool) (o : Option Behind) → r ≡ true → IsKnown b sc y r o → (ty : Ty) × Tracked b sc y ty
by_reached b sc y true o e k = k
by_reached b sc y false o e k = absurd cc

tracked_if : (n : ℕ) (b : Before) (ks : List Known) (sc : Scope) (x : Variable) (o : Option Known) → known ks x ≡ o → is_reached o ≡ true → Vars n b ks sc → (ty : Ty) × Tracked b sc x.0 ty
tracked_if n b ks sc x None e r v = absurd cc
tracked_if n b ks sc x (Some k) e r v = by_reached b sc x.0 k.reached k.behind r (v.knows x.0 k e)

pub tracked_of : (n : ℕ) (b : Before) (ks : List Known) (sc : Scope) (x : Variable) → is_reached (known ks x) ≡ true → Vars n b ks sc → (ty : Ty) × Tracked b sc x.0 ty
tracked_of n b ks sc x r v = tracked_if n b ks sc x (known ks x) refl r v

tracked_at : (b : Before) (sc : Scope) (x : Variable) (ty own : Ty) → type_bound b.bound x ≡ Some ty → Tracked b sc x.0 own → Tracked b sc x.0 ty
tracked_at b sc x ty own e k =
    let same : own ≡ ty = same_Some own ty (sym k.typed ∙ e) in
    subst (λ t. Tracked b sc x.0 t) same k

pub tracked_as : (n : ℕ) (b : Before) (ks : List Known) (sc : Scope) (x : Variable) (ty : Ty) → is_reached (known ks x) ≡ true → type_bound b.bound x ≡ Some ty → Vars n b ks sc → Tracked b sc x.0 ty
tracked_as n b ks sc x ty r e v = let k = tracked_of n b ks sc x r v in tracked_at b sc x ty k.0 e k.1

atom_tracked : (b : Before) (sc : Scope) (x : Variable) (ty : Ty) → Tracked b sc x.0 ty → AtomFits sc (a.Variable x) ty
atom_tracked b sc x Whole k = k.usable
atom_tracked b sc x Truth k = k.usable
atom_tracked b sc x (Tree t) k = k.usable.0

pub atom_fits : (n : ℕ) (b : Before) (s : Setting) (sc : Scope) (x : Atom) (ty : Ty) → is_usable s x ≡ true → has_type b x ty ≡ true → LiteralFits x → Vars n b s.scope sc → AtomFits sc x ty
atom_fits n b s sc (a.Variable x) ty u t l v = atom_tracked b sc x ty (tracked_as n b s.scope sc x ty u (is_type_is (type_bound b.bound x) ty t) v)
atom_fits n b s sc (a.Whole z) Whole u t l v = l
atom_fits n b s sc (a.Whole z) Truth u t l v = absurd cc
atom_fits n b s sc (a.Whole z) (Tree ty) u t l v = absurd cc
atom_fits n b s sc (a.Truth z) Whole u t l v = absurd cc
atom_fits n b s sc (a.Truth z) Truth u t l v = tt
atom_fits n b s sc (a.Truth z) (Tree ty) u t l v = absurd cc

pub atoms_fit : (n : ℕ) (b : Before) (s : Setting) (sc : Scope) (xs : List Atom) (ts : List Ty) → all_usable s xs ≡ true → have_types b xs ts ≡ true → AllByRecursion LiteralFits xs → Vars n b s.scope sc → AtomsFit sc xs ts
atoms_fit n b s sc [] [] u t l v = tt
atoms_fit n b s sc [] (ty ∷ ts) u t l v = absurd cc
atoms_fit n b s sc (x ∷ xs) [] u t l v = absurd cc
atoms_fit n b s sc (x ∷ xs) (ty ∷ ts) u t l v =
    let us = and_parts (is_usable s x) (all_usable s xs) u in
    let tys = and_parts (has_type b x ty) (have_types b xs ts) t in
    (atom_fits n b s sc x ty us.0 tys.0 l.0 v, atoms_fit n b s sc xs ts us.1 tys.1 l.1 v)

pub usable_first : (s : Setting) (xs ys : List Atom) → all_usable s (xs ++ ys) ≡ true → all_usable s xs ≡ true
usable_first s [] ys e = refl
usable_first s (x ∷ xs) ys e = let h = and_parts (is_usable s x) (all_usable s (xs ++ ys)) e in and_from (is_usable s x) (all_usable s xs) h.0 (usable_first s xs ys h.1)

is_tree_type : Ty → Bool
is_tree_type Whole = false
is_tree_type Truth = false
is_tree_type (Tree t) = true

whole_tree : (t : TyId) → Whole ≡ Tree t → ⊥
unfolding is_tree_type
whole_tree t e = (let h : false ≡ true = ap is_tree_type e in absurd cc)

truth_tree : (t : TyId) → Truth ≡ Tree t → ⊥
unfolding is_tree_type
truth_tree t e = (let h : false ≡ true = ap is_tree_type e in absurd cc)

pub tree_fits : (n : ℕ) (b : Before) (s : Setting) (sc : Scope) (x : Atom) (t : TyId) → is_usable s x ≡ true → type_of b x ≡ Some (Tree t) → Vars n b s.scope sc → IsTree sc x t.0
tree_fits n b s sc (a.Variable x) t u e v = record { variable = x; atom = refl; sort = (tracked_as n b s.scope sc x (Tree t) u e v).usable.0 }
tree_fits n b s sc (a.Whole z) t u e v = absurd (whole_tree t (same_Some Whole (Tree t) e))
tree_fits n b s sc (a.Truth z) t u e v = absurd (truth_tree t (same_Some Truth (Tree t) e))

-- The fields of a head that is filled.

pub written_names : (xs : List Variable) (ps : List Atom) → are_variables xs ps ≡ true → ps ≡ map var (numbers xs)
written_names [] [] e = refl
written_names [] (y ∷ ps) e = absurd cc
written_names (x ∷ xs) [] e = absurd cc
written_names (x ∷ xs) (a.Variable y ∷ ps) e =
    let h = and_parts (x.0 == y.0) (are_variables xs ps) e in
    (λ i. a.Variable (sym (same_variable x y h.0) i) ∷ written_names xs ps h.1 i)
written_names (x ∷ xs) (a.Whole z ∷ ps) e = absurd cc
written_names (x ∷ xs) (a.Truth z ∷ ps) e = absurd cc

placed_each : (b : Before) (sc : Scope) (xs : List Variable) → AllStand b sc xs → any_cased b.cased xs ≡ false → ArePlaced sc (numbers xs)
placed_each b sc [] h e = tt
placed_each b sc (x ∷ xs) h e =
    let k = or_parts (is_among b.cased x) (any_cased b.cased xs) e in
    ((h.0.0.0, h.0.1.usable.1 k.0), placed_each b sc xs h.1 k.1)

pub placed_further : (b : Before) (sc : Scope) (xs : List Variable) → AllStand b sc xs → any_cased b.cased (further xs) ≡ false → FurtherPlaced sc (numbers xs)
placed_further b sc [] h e = tt
placed_further b sc (x ∷ xs) h e = placed_each b sc xs h.1 e

con_by : (t k : ℕ) (same : Bool) → is_there (if same then Some k else None) ≡ true → (if same then Some k else None) ≡ Some k
con_by t k true e = refl
con_by t k false e = absurd cc

con_if : (t k : ℕ) (r : Option Row) → is_there (if_owned t k r) ≡ true → if_owned t k r ≡ Some k
con_if t k None e = absurd cc
con_if t k (Some r) e = con_by t k (r.owner == t) e

-- The constructor is one of its type.
pub con_there : (table : Table) (t k : ℕ) → is_there (con_at table t k) ≡ true → con_at table t k ≡ Some k
con_there table t k e = con_if t k (slice_get table.rows k) e
