-- The pass that places the packed fields of a head directly behind it.
--
-- A line that fills a head is a run of bindings, room for the head, its packed fields, which point to values, and the head. Where
-- the region of a field's value can begin at the field's own place, the value is put there, and no field points to it.
use Rattle.std.specs.Prelude.{Bool, true, false, not, ◌&&◌, if◌then◌else◌, List, [], ◌∷◌, ◌++◌, map, Option, Some, None}
use Rattle.gib_types.specs.declared.table.Ty.{Ty}
use Rattle.gib_types.specs.declared.table.ConId.{ConId}
use Rattle.gib_core.specs.declared.atom.Variable.{Variable}
use Rattle.gib_core.specs.declared.atom.Atom.{Atom}
use Rattle.gib_core.specs.declared.atom.Atom.TheVariants as a
use Rattle.gib_core.specs.declared.atom.Kind.TheVariants.{Here, Region, Scalar}
use Rattle.gib_core.specs.Tree.{Term, Then, Write, Point, Bind, Past, One, Both, Prim, Reach, Side, On, Several, PartTerms, Branches, variables_of, prepend, CoreTree}
use Rattle.gib_core.specs.Counting.{is_once}
use Rattle.gib_core.specs.Walk.{Nested, map_term, map_bind, map_side, map_parts, map_branches, with_bodies}
use Rattle.gib_core.specs.Inferring.{as_atoms}
use Rattle.gib_core.specs.Reaching.{is_variable}
use Rattle.gib_core.specs.Rules.{is_among}
use Rattle.gib_place.specs.declared.field.Field.{Field}

-- The field, as the binding that it is.
abbrev pub pointing : Field → Bind
pointing f = One (On Here f.variable f.ty (Point f.target))

-- What stands behind the room for a head: its fields, and the head with its scalars.
pub record Ending : Type 0 where
  pub fields : List Field
  pub head : Variable
  pub con : ConId
  pub scalars : List Atom
  pub packed : List Atom

-- A line that fills a head: a run of bindings, the room for the head of a constructor, and what stands behind it.
pub record Filling : Type 0 where
  pub run : List Bind
  pub room : Variable
  pub made : ConId
  pub ending : Ending

-- One more field before the others.
abbrev pub field_first : Field → Option Ending → Option Ending
field_first f None = None
field_first f (Some e) = Some (record { fields = f ∷ e.fields; head = e.head; con = e.con; scalars = e.scalars; packed = e.packed })

-- One more binding before the others.
abbrev pub binding_first : Bind → Option Filling → Option Filling
binding_first b None = None
binding_first b (Some l) = Some (record { run = b ∷ l.run; room = l.room; made = l.made; ending = l.ending })

-- The room, and what stands behind it.
abbrev pub room_first : Variable → ConId → Option Ending → Option Filling
room_first h k None = None
room_first h k (Some e) = Some (record { run = []; room = h; made = k; ending = e })

-- The fields and the head that stand behind the room for it.
abbrev pub ending_of : Term → Option Ending
ending_of (Then (One (On Here x ty (Point y))) rest) = field_first (record { variable = x; ty = ty; target = y }) (ending_of rest)
ending_of (Write h k ss ps) = Some (record { fields = []; head = h; con = k; scalars = ss; packed = ps })
ending_of t = None

-- The line, where it is one that fills a head.
abbrev pub filling_of : Term → Option Filling
filling_of (Then (Past h k) rest) = room_first h k (ending_of rest)
filling_of (Then (One s) rest) = binding_first (One s) (filling_of rest)
filling_of (Then (Both fork l r) rest) = binding_first (Both fork l r) (filling_of rest)
filling_of (Then (Prim x f y z) rest) = binding_first (Prim x f y z) (filling_of rest)
filling_of (Then (Reach y by) rest) = binding_first (Reach y by) (filling_of rest)
filling_of t = None

-- The fields before the one that points to a variable, and those behind it.
pub record Cut : Type 0 where
  pub before : List Field
  pub behind : List Field

-- One more field before the cut.
abbrev pub before_cut : Field → Option Cut → Option Cut
before_cut f None = None
before_cut f (Some c) = Some (record { before = f ∷ c.before; behind = c.behind })

-- Fields, cut at the first one that points to a variable.
abbrev pub cut_at : Variable → List Field → Option Cut
cut_at x [] = None
cut_at x (f ∷ fs) = if is_variable x f.target then Some (record { before = []; behind = fs }) else before_cut f (cut_at x fs)

-- The variables that a binding binds in its line.
abbrev pub bound_by : Bind → List Variable
bound_by (Past h k) = h ∷ []
bound_by (One s) = variables_of s
bound_by (Both fork l r) = variables_of l ++ variables_of r
bound_by (Prim x f y z) = x ∷ []
bound_by (Reach y by) = []

-- The variables that bindings bind in their line.
abbrev pub bound_in : List Bind → List Variable
bound_in [] = []
bound_in (b ∷ bs) = bound_by b ++ bound_in bs

-- An atom is one of the variables.
abbrev pub is_one : List Variable → Atom → Bool
is_one xs (a.Variable y) = is_among xs y
is_one xs (a.Whole z) = false
is_one xs (a.Truth b) = false

-- No field points to one of these variables, which are bound later: each value is there already.
abbrev pub are_there : List Variable → List Field → Bool
are_there late [] = true
are_there late (f ∷ fs) = not (is_one late f.target) && are_there late fs

-- There are no fields.
abbrev pub are_none : List Field → Bool
are_none [] = true
are_none (f ∷ fs) = false

-- A side that is placed, the fields that are put before it, and those that are left.
pub record PlacedSide : Type 0 where
  pub before : List Field
  pub side : Side
  pub left : List Field

-- A region is placed where its variable is used once, by a field that points to it, and where the fields up to that one, which
-- none was put for, may be put before it.
abbrev pub place_at : (List Field → Bool) → Variable → Ty → Term → Option Cut → Option PlacedSide
place_at may x ty t None = None
place_at may x ty t (Some c) = if may c.before then Some (record { before = c.before; side = On Here x ty t; left = c.behind }) else None

-- A side: a region is placed where it can be, any other side is not. Several variables stay.
abbrev pub place_side : (Variable → Bool) → (List Field → Bool) → Side → List Field → Option PlacedSide
place_side once may (On Region x ty t) fields = if once x then place_at may x ty t (cut_at x fields) else None
place_side once may (On Here x ty t) fields = None
place_side once may (On Scalar x ty t) fields = None
place_side once may (Several xs tys t) fields = None

-- A binding one or both of whose sides are placed: the fields that are put before it, the variables that stand for fields behind
-- these, and the fields that are left.
pub record PlacedBind : Type 0 where
  pub before : List Field
  pub bind : Bind
  pub standing : List Variable
  pub left : List Field

-- A binding of one side, where that side is placed.
abbrev pub place_one : Option PlacedSide → Option PlacedBind
place_one None = None
place_one (Some p) = Some (record { before = p.before; bind = One p.side; standing = variables_of p.side; left = p.left })

-- The right side of a par whose left side stays.
abbrev pub place_right : Bool → Side → Option PlacedSide → Option PlacedBind
place_right fork l None = None
place_right fork l (Some q) = Some (record { before = q.before; bind = Both fork l q.side; standing = variables_of q.side; left = q.left })

-- The right side of a par whose left side is placed.
abbrev pub place_too : Bool → Side → PlacedSide → Option PlacedSide → PlacedBind
place_too fork r p None = record { before = p.before; bind = Both fork p.side r; standing = variables_of p.side; left = p.left }
place_too fork r p (Some q) =
    record { before = p.before; bind = Both fork p.side q.side; standing = variables_of p.side ++ variables_of q.side; left = q.left }

-- The left side of a par, and then its right side. Fields are put before the whole par, so none is for a right side whose left side
-- is placed.
abbrev pub place_both : (Variable → Bool) → List Variable → Bool → Side → Side → List Field → Option PlacedSide → Option PlacedBind
place_both once late fork l r fields None = place_right fork l (place_side once (are_there (variables_of l ++ late)) r fields)
place_both once late fork l r fields (Some p) = Some (place_too fork r p (place_side once are_none r p.left))

-- A binding, before others that bind these variables.
abbrev pub place_bind : (Variable → Bool) → List Variable → Bind → List Field → Option PlacedBind
place_bind once late (Past h k) fields = None
place_bind once late (One s) fields = place_one (place_side once (are_there late) s fields)
place_bind once late (Both fork l r) fields =
    place_both once late fork l r fields (place_side once (are_there (variables_of r ++ late)) l fields)
place_bind once late (Prim x f y z) fields = None
place_bind once late (Reach y by) fields = None

-- Bindings, and the variables that stand for the fields of the head.
pub record Laid : Type 0 where
  pub binds : List Bind
  pub standing : List Variable

-- Fields that are left: each stands for itself.
abbrev pub fields_laid : List Field → Laid
fields_laid fs = record { binds = map pointing fs; standing = map (λ (f : Field). f.variable) fs }

-- What was laid, behind these bindings and these variables.
abbrev pub laid_behind : List Bind → List Variable → Laid → Laid
laid_behind binds standing l = record { binds = binds ++ l.binds; standing = standing ++ l.standing }

-- A binding that is placed, or not, and what follows from there. The room for the head stands before the first that is placed.
abbrev pub lay_bind : List Bind → Bind → List Field → Option PlacedBind → (List Bind → List Field → Laid) → Laid
lay_bind room b fields None further = laid_behind (b ∷ []) [] (further room fields)
lay_bind room b fields (Some p) further =
    laid_behind (room ++ (map pointing p.before ++ p.bind ∷ [])) (map (λ (f : Field). f.variable) p.before ++ p.standing) (further [] p.left)

-- The bindings of a run, with the room for the head where it was not put yet, and the fields that are left.
abbrev pub lay : (Variable → Bool) → List Bind → List Bind → List Field → Laid
lay once [] room fields = laid_behind room [] (fields_laid fields)
lay once (b ∷ bs) room fields = lay_bind room b fields (place_bind once (bound_in bs) b fields) (λ rest left. lay once bs rest left)

-- The head names the fields in their order, and nothing else uses them.
abbrev pub are_fields : (Variable → Bool) → List Field → List Atom → Bool
are_fields once [] [] = true
are_fields once [] (y ∷ ys) = false
are_fields once (f ∷ fs) [] = false
are_fields once (f ∷ fs) (y ∷ ys) = (is_variable f.variable y && once f.variable) && are_fields once fs ys

-- A line, with the room for its head and its fields where they are laid.
abbrev pub laid_line : Ending → Laid → Term
laid_line e laid = prepend laid.binds (Write e.head e.con e.scalars (as_atoms laid.standing))

-- A line that fills a head, with the fields placed that can be. The terms that are nested in it stay.
abbrev pub fill : (Variable → Bool) → Term → Option Filling → Term
fill once t None = t
fill once t (Some l) =
    if are_fields once l.ending.fields l.ending.packed then laid_line l.ending (lay once l.run (Past l.room l.made ∷ []) l.ending.fields) else t

-- A line, placed where it fills a head. The terms that are nested in it stay.
abbrev pub place_line : (Variable → Bool) → Term → Term
place_line once t = fill once t (filling_of t)

-- Bindings stay, but for the terms of their sides.
abbrev pub as_bound : Bind → Bind
as_bound b = b

-- A nested term, with its line placed.
abbrev pub placed_inside : (Variable → Bool) → Nested → Term → Term
placed_inside once at t = place_line once t

-- A term, with the lines placed that are nested in it; a binding, a side, parts, branches, with the lines of their terms placed.
abbrev pub place_inner : (Variable → Bool) → Term → Term
place_inner once t = map_term as_bound (placed_inside once) t

-- A binding, with the lines of its terms placed.
abbrev pub inner_bind : (Variable → Bool) → Bind → Bind
inner_bind once b = map_bind as_bound (placed_inside once) b

-- A side, with the lines of its term placed.
abbrev pub inner_side : (Variable → Bool) → Side → Side
inner_side once s = map_side as_bound (placed_inside once) s

-- Parts, with the lines of their terms placed.
abbrev pub inner_parts : (Variable → Bool) → PartTerms → PartTerms
inner_parts once ps = map_parts as_bound (placed_inside once) ps

-- Branches, with the lines of their terms placed.
abbrev pub inner_branches : (Variable → Bool) → Branches → Branches
inner_branches once bs = map_branches as_bound (placed_inside once) bs

-- A line, placed whole.
abbrev pub place : (Variable → Bool) → Term → Term
place once t = place_line once (place_inner once t)

-- A body, with the lines of all its terms placed.
abbrev pub place_body : Term → Term
place_body t = place (is_once t) t

-- A core whose bodies are placed. Its variables keep their numbers.
abbrev pub place_bodies : CoreTree → CoreTree
place_bodies core = with_bodies (λ b. place_body b.term) core
