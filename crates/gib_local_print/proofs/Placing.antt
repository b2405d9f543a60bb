-- To place fields keeps the form of cores.
use Rattle.std.proofs.Common.{◌≡◌, Bool, true, false, if◌then◌else◌, List, [], ◌∷◌, ◌++◌, map, Option, Some, None, refl, sym, ap, ◌∙◌, subst}
use Rattle.std.specs.List.{AllByRecursion}
use Rattle.gib_types.specs.declared.table.Ty.{Ty}
use Rattle.gib_types.specs.declared.table.ConId.{ConId}
use Rattle.gib_types.specs.Table.{Table}
use Rattle.gib_core.specs.declared.atom.Variable.{Variable}
use Rattle.gib_core.specs.declared.atom.Kind.TheVariants.{Here, Region, Scalar}
use Rattle.gib_core.specs.Tree.{Term, Then, Write, Point, CallTerm, Give, CaseTerm, IfTerm, Tuple, PartTerms, NoPart, PartThen, Bind, Past, One, Both, Prim, Reach, Side, On, Several, Branches, NoBranch, BranchThen, prepend, variables_of}
use Rattle.gib_core.specs.Counting.{is_once}
use Rattle.gib_core.specs.Inferring.{as_atoms}
use Rattle.gib_place.specs.declared.field.Field.{Field}
use Rattle.gib_place.specs.Placing
use Rattle.gib_place.specs.Placing.{pointing, Ending, Filling, field_first, binding_first, room_first, ending_of, filling_of, Cut, cut_at, bound_in, are_there, are_none, PlacedSide, place_at, place_side, PlacedBind, place_one, place_right, place_too, place_both, place_bind, Laid, fields_laid, laid_behind, lay_bind, lay, are_fields, laid_line, fill, place_line, place_inner, inner_side, inner_parts, inner_branches}
use Rattle.gib_place.specs.Renaming.{Renaming, rename, rename_side, rename_parts, rename_branches}
use Rattle.gib_local.specs.Building.{is_flat}
use Rattle.gib_local_print.specs.HasText.{IsBranch}
use Rattle.gib_local_print.specs.HasShape.{IsWrite}
use Rattle.gib_local_print.specs.HasForm.{IsFilledSo, HasForm, SideForm, PartsForm, BranchesForm}
use Rattle.gib_local_print.proofs.Inferred.{PlainBind, Plain}

-- A binding whose head, if it is one, has packed fields.
abbrev GoodBind : Table → Bind → Type 0
GoodBind tb (Past h k) = is_flat tb k ≡ false
GoodBind tb (One s) = SideForm IsWrite tb s
GoodBind tb (Both fork l r) = (fork ≡ false) × SideForm IsWrite tb l × SideForm IsWrite tb r
GoodBind tb (Prim x f y z) = Unit {0}
GoodBind tb (Reach y by) = Unit {0}

abbrev Good : Table → List Bind → Type 0
Good tb bs = AllByRecursion (GoodBind tb) bs

not_flat : (f : Bool) (t : Term) → f ≡ false → IsFilledSo IsWrite f t
not_flat false t e = tt
not_flat true t e = absurd cc

good_then : (tb : Table) (bs : List Bind) (t : Term) → Good tb bs → HasForm IsWrite tb t → HasForm IsWrite tb (prepend bs t)
good_then tb [] t h g = g
good_then tb (Past x k ∷ bs) t h g = (not_flat (is_flat tb k) (prepend bs t) h.0, good_then tb bs t h.1 g)
good_then tb (One s ∷ bs) t h g = (h.0, good_then tb bs t h.1 g)
good_then tb (Both f l r ∷ bs) t h g = (h.0, good_then tb bs t h.1 g)
good_then tb (Prim x f y z ∷ bs) t h g = (tt, good_then tb bs t h.1 g)
good_then tb (Reach y by ∷ bs) t h g = (tt, good_then tb bs t h.1 g)

good_join : (tb : Table) (bs cs : List Bind) → Good tb bs → Good tb cs → Good tb (bs ++ cs)
good_join tb [] cs h g = g
good_join tb (b ∷ bs) cs h g = (h.0, good_join tb bs cs h.1 g)

plain_good : (tb : Table) (b : Bind) → PlainBind tb b → GoodBind tb b
plain_good tb (Past x k) h = absurd h
plain_good tb (One s) h = h
plain_good tb (Both f l r) h = h
plain_good tb (Prim x f y z) h = tt
plain_good tb (Reach y by) h = tt

pointing_good : (tb : Table) (fs : List Field) → Good tb (map pointing fs)
pointing_good tb [] = tt
pointing_good tb (f ∷ fs) = (tt, pointing_good tb fs)

-- ---- what is placed

SideOk : Table → Option PlacedSide → Type 0
SideOk tb None = Unit {0}
SideOk tb (Some p) = SideForm IsWrite tb p.side

BindOk : Table → Option PlacedBind → Type 0
BindOk tb None = Unit {0}
BindOk tb (Some p) = GoodBind tb p.bind

at_if : (tb : Table) (b : Bool) (p : PlacedSide) → SideForm IsWrite tb p.side → SideOk tb (if b then Some p else None)
unfolding SideOk
at_if tb true p h = h
at_if tb false p h = tt

at_ok : (tb : Table) (may : List Field → Bool) (x : Variable) (ty : Ty) (t : Term) (c : Option Cut) → HasForm IsWrite tb t → SideOk tb (place_at may x ty t c)
unfolding SideOk
at_ok tb may x ty t None h = tt
at_ok tb may x ty t (Some c) h = at_if tb (may c.before) (record { before = c.before; side = On Here x ty t; left = c.behind }) h

once_if : (tb : Table) (b : Bool) (o : Option PlacedSide) → SideOk tb o → SideOk tb (if b then o else None)
unfolding SideOk
once_if tb true o h = h
once_if tb false o h = tt

side_ok : (tb : Table) (once : Variable → Bool) (may : List Field → Bool) (s : Side) (fs : List Field) → SideForm IsWrite tb s → SideOk tb (place_side once may s fs)
unfolding SideOk
side_ok tb once may (On Region x ty t) fs h = once_if tb (once x) (place_at may x ty t (cut_at x fs)) (at_ok tb may x ty t (cut_at x fs) h)
side_ok tb once may (On Here x ty t) fs h = tt
side_ok tb once may (On Scalar x ty t) fs h = tt
side_ok tb once may (Several xs tys t) fs h = tt

one_ok : (tb : Table) (o : Option PlacedSide) → SideOk tb o → BindOk tb (place_one o)
unfolding SideOk BindOk
one_ok tb None h = tt
one_ok tb (Some p) h = h

right_ok : (tb : Table) (f : Bool) (l : Side) (o : Option PlacedSide) → f ≡ false → SideForm IsWrite tb l → SideOk tb o → BindOk tb (place_right f l o)
unfolding SideOk BindOk
right_ok tb f l None e h g = tt
right_ok tb f l (Some p) e h g = (e, h, g)

too_ok : (tb : Table) (f : Bool) (r : Side) (p : PlacedSide) (o : Option PlacedSide) → f ≡ false → SideForm IsWrite tb p.side → SideForm IsWrite tb r → SideOk tb o → GoodBind tb (place_too f r p o).bind
unfolding SideOk
too_ok tb f r p None e h k g = (e, h, k)
too_ok tb f r p (Some q) e h k g = (e, h, g)

both_ok : (tb : Table) (once : Variable → Bool) (late : List Variable) (f : Bool) (l r : Side) (fs : List Field) (o : Option PlacedSide) → f ≡ false → SideForm IsWrite tb l → SideForm IsWrite tb r → SideOk tb o → BindOk tb (place_both once late f l r fs o)
unfolding SideOk BindOk
both_ok tb once late f l r fs None e h k g = right_ok tb f l (place_side once (are_there (variables_of l ++ late)) r fs) e h (side_ok tb once (are_there (variables_of l ++ late)) r fs k)
both_ok tb once late f l r fs (Some p) e h k g = too_ok tb f r p (place_side once are_none r p.left) e g k (side_ok tb once are_none r p.left k)

bind_ok : (tb : Table) (once : Variable → Bool) (late : List Variable) (b : Bind) (fs : List Field) → PlainBind tb b → BindOk tb (place_bind once late b fs)
unfolding BindOk
bind_ok tb once late (Past h k) fs p = absurd p
bind_ok tb once late (One s) fs p = one_ok tb (place_side once (are_there late) s fs) (side_ok tb once (are_there late) s fs p)
bind_ok tb once late (Both f l r) fs p = both_ok tb once late f l r fs (place_side once (are_there (variables_of r ++ late)) l fs) p.0 p.1 p.2 (side_ok tb once (are_there (variables_of r ++ late)) l fs p.1)
bind_ok tb once late (Prim x f y z) fs p = tt
bind_ok tb once late (Reach y by) fs p = tt

lay_step : (tb : Table) (room : List Bind) (b : Bind) (fs : List Field) (o : Option PlacedBind) (further : List Bind → List Field → Laid) → Good tb room → PlainBind tb b → BindOk tb o
    → ((r : List Bind) (gs : List Field) → Good tb r → Good tb (further r gs).binds) → Good tb (lay_bind room b fs o further).binds
unfolding BindOk
lay_step tb room b fs None further g p ok h = (plain_good tb b p, h room fs g)
lay_step tb room b fs (Some q) further g p ok h =
    good_join tb (room ++ (map pointing q.before ++ q.bind ∷ [])) (further [] q.left).binds (good_join tb room (map pointing q.before ++ q.bind ∷ []) g (good_join tb (map pointing q.before) (q.bind ∷ []) (pointing_good tb q.before) (ok, tt))) (h [] q.left tt)

lay_good : (tb : Table) (once : Variable → Bool) (bs room : List Bind) (fs : List Field) → Plain tb bs → Good tb room → Good tb (lay once bs room fs).binds
lay_good tb once [] room fs h g = good_join tb room (map pointing fs) g (pointing_good tb fs)
lay_good tb once (b ∷ bs) room fs h g =
    lay_step tb room b fs (place_bind once (bound_in bs) b fs) (λ rest left. lay once bs rest left) g h.0 (bind_ok tb once (bound_in bs) b fs h.0) (λ r gs k. lay_good tb once bs r gs h.1 k)

-- ---- a head without packed fields: nothing is placed

abbrev no_side : Option PlacedSide
no_side = None

none_if : (b : Bool) → (if b then no_side else None) ≡ no_side
none_if true = refl
none_if false = refl

side_none : (once : Variable → Bool) (may : List Field → Bool) (s : Side) → place_side once may s [] ≡ None
side_none once may (On Region x ty t) = none_if (once x)
side_none once may (On Here x ty t) = refl
side_none once may (On Scalar x ty t) = refl
side_none once may (Several xs tys t) = refl

bind_none : (once : Variable → Bool) (late : List Variable) (b : Bind) → place_bind once late b [] ≡ None
bind_none once late (Past h k) = refl
bind_none once late (One s) = ap place_one (side_none once (are_there late) s)
bind_none once late (Both f l r) =
    ap (place_both once late f l r []) (side_none once (are_there (variables_of r ++ late)) l) ∙ ap (place_right f l) (side_none once (are_there (variables_of l ++ late)) r)
bind_none once late (Prim x f y z) = refl
bind_none once late (Reach y by) = refl

flat_shape : (tb : Table) (once : Variable → Bool) (bs : List Bind) (h : Variable) (k : ConId) (u : Term) → IsWrite u → HasForm IsWrite tb u → Plain tb bs → HasForm IsWrite tb (prepend (lay once bs (Past h k ∷ []) []).binds u)
flat_shape tb once [] h k u w s p = (filled (is_flat tb k) u w, s)
  where
    filled : (f : Bool) (u : Term) → IsWrite u → IsFilledSo IsWrite f u
    filled true u w = w
    filled false u w = tt
flat_shape tb once (b ∷ bs) h k u w s p =
    subst (λ (o : Option PlacedBind). HasForm IsWrite tb (prepend (lay_bind (Past h k ∷ []) b [] o (λ rest left. lay once bs rest left)).binds u)) (sym (bind_none once (bound_in bs) b))
    (first b p.0 (flat_shape tb once bs h k u w s p.1))
  where
    first : (b : Bind) → PlainBind tb b → HasForm IsWrite tb (prepend (lay once bs (Past h k ∷ []) []).binds u) → HasForm IsWrite tb (Then b (prepend (lay once bs (Past h k ∷ []) []).binds u))
    first (Past y j) q g = absurd q
    first (One s) q g = (q, g)
    first (Both f l r) q g = (q, g)
    first (Prim y f v z) q g = (tt, g)
    first (Reach y by) q g = (tt, g)

-- ---- lines that fill a head

FillingOk : Table → Option Filling → Type 0
FillingOk tb None = Unit {0}
FillingOk tb (Some l) = Plain tb l.run × (is_flat tb l.made ≡ true → l.ending.fields ≡ [])

more_ok : (tb : Table) (b : Bind) (o : Option Filling) → PlainBind tb b → FillingOk tb o → FillingOk tb (binding_first b o)
unfolding FillingOk
more_ok tb b None p h = tt
more_ok tb b (Some l) p h = ((p, h.0), h.1)

NoFields : Option Ending → Type 0
NoFields None = Unit {0}
NoFields (Some e) = e.fields ≡ []

write_ends : (t : Term) → IsWrite t → NoFields (ending_of t)
unfolding NoFields
write_ends (Write h k ss ps) w = refl
write_ends (Then b t) w = absurd w
write_ends (Point x) w = absurd w
write_ends (CallTerm f xs) w = absurd w
write_ends (Give x) w = absurd w
write_ends (CaseTerm x bs) w = absurd w
write_ends (IfTerm x t u) w = absurd w
write_ends (Tuple ts ss ps) w = absurd w

room_ok : (tb : Table) (h : Variable) (k : ConId) (o : Option Ending) → (is_flat tb k ≡ true → NoFields o) → FillingOk tb (room_first h k o)
unfolding FillingOk NoFields
room_ok tb h k None e = tt
room_ok tb h k (Some d) e = (tt, e)

is_write : (f : Bool) (t : Term) → IsFilledSo IsWrite f t → f ≡ true → IsWrite t
is_write true t h e = h
is_write false t h e = absurd cc

filling_ok : (tb : Table) (t : Term) → HasForm IsWrite tb t → FillingOk tb (filling_of t)
unfolding FillingOk
filling_ok tb (Then (Past h k) rest) s = room_ok tb h k (ending_of rest) (λ e. write_ends rest (is_write (is_flat tb k) rest s.0 e))
filling_ok tb (Then (One x) rest) s = more_ok tb (One x) (filling_of rest) s.0 (filling_ok tb rest s.1)
filling_ok tb (Then (Both f l r) rest) s = more_ok tb (Both f l r) (filling_of rest) s.0 (filling_ok tb rest s.1)
filling_ok tb (Then (Prim x f y z) rest) s = more_ok tb (Prim x f y z) (filling_of rest) tt (filling_ok tb rest s.1)
filling_ok tb (Then (Reach y by) rest) s = more_ok tb (Reach y by) (filling_of rest) tt (filling_ok tb rest s.1)
filling_ok tb (Write h k ss ps) s = tt
filling_ok tb (Point x) s = tt
filling_ok tb (CallTerm f xs) s = tt
filling_ok tb (Give x) s = tt
filling_ok tb (CaseTerm x bs) s = tt
filling_ok tb (IfTerm x t u) s = tt
filling_ok tb (Tuple ts ss ps) s = tt

laid_shape : (tb : Table) (once : Variable → Bool) (e : Ending) (bs : List Bind) (h : Variable) (k : ConId) (fs : List Field) (f : Bool) → is_flat tb k ≡ f → Plain tb bs → (f ≡ true → fs ≡ []) → HasForm IsWrite tb (laid_line e (lay once bs (Past h k ∷ []) fs))
laid_shape tb once e bs h k fs false flat p none = good_then tb (lay once bs (Past h k ∷ []) fs).binds (Write e.head e.con e.scalars (as_atoms (lay once bs (Past h k ∷ []) fs).standing)) (lay_good tb once bs (Past h k ∷ []) fs p (flat, tt)) tt
laid_shape tb once e bs h k fs true flat p none =
    subst (λ (l : List Field). HasForm IsWrite tb (laid_line e (lay once bs (Past h k ∷ []) l))) (sym (none refl))
    (flat_shape tb once bs h k (Write e.head e.con e.scalars (as_atoms (lay once bs (Past h k ∷ []) []).standing)) tt tt p)

fill_shape : (tb : Table) (once : Variable → Bool) (t : Term) (o : Option Filling) → HasForm IsWrite tb t → FillingOk tb o → HasForm IsWrite tb (fill once t o)
unfolding FillingOk
fill_shape tb once t None s ok = s
fill_shape tb once t (Some l) s ok = go (are_fields once l.ending.fields l.ending.packed)
  where
    go : (b : Bool) → HasForm IsWrite tb (if b then laid_line l.ending (lay once l.run (Past l.room l.made ∷ []) l.ending.fields) else t)
    go true = laid_shape tb once l.ending l.run l.room l.made l.ending.fields (is_flat tb l.made) refl ok.0 ok.1
    go false = s

line_shape : (tb : Table) (once : Variable → Bool) (t : Term) → HasForm IsWrite tb t → HasForm IsWrite tb (place_line once t)
line_shape tb once t s = fill_shape tb once t (filling_of t) s (filling_ok tb t s)

-- ---- all terms, and their numbers

module _ (tb : Table) (once : Variable → Bool) where
  filled_kept : (f : Bool) (t : Term) → IsFilledSo IsWrite f t → IsFilledSo IsWrite f (place_inner once t)
  filled_kept false t h = tt
  filled_kept true (Write g k ss ps) h = tt
  filled_kept true (Then b t) h = absurd h
  filled_kept true (Point x) h = absurd h
  filled_kept true (CallTerm f xs) h = absurd h
  filled_kept true (Give x) h = absurd h
  filled_kept true (CaseTerm x bs) h = absurd h
  filled_kept true (IfTerm x t u) h = absurd h
  filled_kept true (Tuple ts ss ps) h = absurd h

  branch_kept : (bs : Branches) → IsBranch bs → IsBranch (inner_branches once bs)
  branch_kept NoBranch h = absurd h
  branch_kept (BranchThen k xs t bs) h = tt

  mutual
    inner_shape : (t : Term) → HasForm IsWrite tb t → HasForm IsWrite tb (place_inner once t)
    inner_shape (Then (Past h k) rest) e = (filled_kept (is_flat tb k) rest e.0, inner_shape rest e.1)
    inner_shape (Then (One s) rest) e = (inner_side_shape s e.0, inner_shape rest e.1)
    inner_shape (Then (Both fork l r) rest) e = ((e.0.0, inner_side_shape l e.0.1, inner_side_shape r e.0.2), inner_shape rest e.1)
    inner_shape (Then (Prim x f y z) rest) e = (tt, inner_shape rest e.1)
    inner_shape (Then (Reach y by) rest) e = (tt, inner_shape rest e.1)
    inner_shape (Write h k ss ps) e = tt
    inner_shape (Point x) e = tt
    inner_shape (CallTerm f xs) e = tt
    inner_shape (Give x) e = tt
    inner_shape (CaseTerm x bs) e = (branch_kept bs e.0, inner_shapes bs e.1)
    inner_shape (IfTerm x t u) e = (line_shape tb once (place_inner once t) (inner_shape t e.0), line_shape tb once (place_inner once u) (inner_shape u e.1))
    inner_shape (Tuple ts ss ps) e = inner_parts_shape ps e

    inner_side_shape : (s : Side) → SideForm IsWrite tb s → SideForm IsWrite tb (inner_side once s)
    inner_side_shape (On kind x t u) e = line_shape tb once (place_inner once u) (inner_shape u e)
    inner_side_shape (Several xs ts u) e = line_shape tb once (place_inner once u) (inner_shape u e)

    inner_parts_shape : (ps : PartTerms) → PartsForm IsWrite tb ps → PartsForm IsWrite tb (inner_parts once ps)
    inner_parts_shape NoPart e = tt
    inner_parts_shape (PartThen u ps) e = (line_shape tb once (place_inner once u) (inner_shape u e.0), inner_parts_shape ps e.1)

    inner_shapes : (bs : Branches) → BranchesForm IsWrite tb bs → BranchesForm IsWrite tb (inner_branches once bs)
    inner_shapes NoBranch e = tt
    inner_shapes (BranchThen k xs t bs) e = (line_shape tb once (place_inner once t) (inner_shape t e.0), inner_shapes bs e.1)

-- A body, with the lines of all its terms placed.
pub place_shape : (tb : Table) (t : Term) → HasForm IsWrite tb t → HasForm IsWrite tb (Placing.place_body t)
place_shape tb t s = line_shape tb (is_once t) (place_inner (is_once t) t) (inner_shape tb (is_once t) t s)

module _ (tb : Table) (r : Renaming) where
  filled_named : (f : Bool) (t : Term) → IsFilledSo IsWrite f t → IsFilledSo IsWrite f (rename r t)
  filled_named false t h = tt
  filled_named true (Write g k ss ps) h = tt
  filled_named true (Then b t) h = absurd h
  filled_named true (Point x) h = absurd h
  filled_named true (CallTerm f xs) h = absurd h
  filled_named true (Give x) h = absurd h
  filled_named true (CaseTerm x bs) h = absurd h
  filled_named true (IfTerm x t u) h = absurd h
  filled_named true (Tuple ts ss ps) h = absurd h

  branch_named : (bs : Branches) → IsBranch bs → IsBranch (rename_branches r bs)
  branch_named NoBranch h = absurd h
  branch_named (BranchThen k xs t bs) h = tt

  mutual
    pub rename_shape : (t : Term) → HasForm IsWrite tb t → HasForm IsWrite tb (rename r t)
    rename_shape (Then (Past h k) rest) e = (filled_named (is_flat tb k) rest e.0, rename_shape rest e.1)
    rename_shape (Then (One s) rest) e = (rename_side_shape s e.0, rename_shape rest e.1)
    rename_shape (Then (Both fork a b) rest) e = ((e.0.0, rename_side_shape a e.0.1, rename_side_shape b e.0.2), rename_shape rest e.1)
    rename_shape (Then (Prim x f y z) rest) e = (tt, rename_shape rest e.1)
    rename_shape (Then (Reach y by) rest) e = (tt, rename_shape rest e.1)
    rename_shape (Write h k ss ps) e = tt
    rename_shape (Point x) e = tt
    rename_shape (CallTerm f xs) e = tt
    rename_shape (Give x) e = tt
    rename_shape (CaseTerm x bs) e = (branch_named bs e.0, rename_shapes bs e.1)
    rename_shape (IfTerm x t u) e = (rename_shape t e.0, rename_shape u e.1)
    rename_shape (Tuple ts ss ps) e = rename_parts_shape ps e

    rename_side_shape : (s : Side) → SideForm IsWrite tb s → SideForm IsWrite tb (rename_side r s)
    rename_side_shape (On kind x t u) e = rename_shape u e
    rename_side_shape (Several xs ts u) e = rename_shape u e

    rename_parts_shape : (ps : PartTerms) → PartsForm IsWrite tb ps → PartsForm IsWrite tb (rename_parts r ps)
    rename_parts_shape NoPart e = tt
    rename_parts_shape (PartThen u ps) e = (rename_shape u e.0, rename_parts_shape ps e.1)

    rename_shapes : (bs : Branches) → BranchesForm IsWrite tb bs → BranchesForm IsWrite tb (rename_branches r bs)
    rename_shapes NoBranch e = tt
    rename_shapes (BranchThen k xs t bs) e = (rename_shape t e.0, rename_shapes bs e.1)
