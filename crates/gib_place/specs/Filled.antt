-- A line that fills a head as the code keeps it, and what the code says of where its fields are placed.
use Rattle.std.specs.Prelude.{◌≡◌, ℕ, suc, ◌<◌, ◌≤◌, ◌+◌, Bool, true, false, ◌==◌, if◌then◌else◌, List, [], ◌∷◌, ◌++◌, map, take, drop, Option, Some, None}
use Rattle.std.specs.List.{AllByRecursion}
use Rattle.std.specs.Global.{Vec}
use Rattle.gib_types.specs.declared.table.ConId.{ConId}
use Rattle.gib_core.specs.declared.atom.Variable.{Variable}
use Rattle.gib_core.specs.declared.atom.Atom.{Atom}
use Rattle.gib_core.specs.declared.atom.Kind.TheVariants.{Here}
use Rattle.gib_core.specs.declared.node.Binding.{Binding}
use Rattle.gib_core.specs.declared.node.Binding.TheVariants as b
use Rattle.gib_core.specs.declared.node.BoundSide.TheVariants as s
use Rattle.gib_core.specs.Tree.{Term, Bind, Past, One, Both, Prim, Reach, On, Several, Then, Write, Point, CallTerm, Give, CaseTerm, IfTerm, Tuple}
use Rattle.gib_core.specs.Arena.{IsBindingBelow, bind_from, binds_from, side_from}
use Rattle.gib_core.specs.Rules.{is_among}
use Rattle.gib_place.specs.declared.field.Field.{Field}
use Rattle.gib_core.specs.declared.node.Node.{Node}
use Rattle.gib_core.specs.declared.node.Node.TheVariants as n
use Rattle.gib_place.specs.declared.line.Head.{Head}
use Rattle.gib_place.specs.declared.line.Line.{Line}
use Rattle.gib_place.specs.declared.line.Spot.{Spot}
use Rattle.gib_place.specs.declared.line.Taken.{Taken}
use Rattle.gib_place.specs.declared.line.Laid.{Laid as Made}
use Rattle.gib_place.specs.Late.{Seen, is_late}
use Rattle.gib_place.specs.Numbered.{number_at}
use Rattle.gib_place.specs.Placing.{pointing, Ending, Filling, Cut, PlacedSide, PlacedBind, Laid, place_bind, lay_bind, laid_behind, lay}

-- What a tally of a body tells: which variables are used once.
abbrev pub once_by : List (Option ℕ) → Variable → Bool
once_by tally x = number_at tally x.0 == 1

-- The field that a binding is, where it is one that points to a value.
abbrev pub field_of : Bind → Option Field
field_of (Past h k) = None
field_of (One (On Here x ty (Then b rest))) = None
field_of (One (On Here x ty (Write h k ss ps))) = None
field_of (One (On Here x ty (Point y))) = Some (record { variable = x; ty = ty; target = y })
field_of (One (On Here x ty (CallTerm f xs))) = None
field_of (One (On Here x ty (Give y))) = None
field_of (One (On Here x ty (CaseTerm y branches))) = None
field_of (One (On Here x ty (IfTerm y t u))) = None
field_of (One (On Here x ty (Tuple tys ss ps))) = None
field_of (One (On kind x ty t)) = None
field_of (One (Several xs tys t)) = None
field_of (Both fork l r) = None
field_of (Prim x f y z) = None
field_of (Reach y by) = None

-- The bindings are fields that point to values, and their terms stand below a number.
pub record ArePointing (f : ℕ → Term) (n : ℕ) (bindings : List Binding) (fields : List Field) : Type 0 where
  pub are : binds_from f bindings ≡ map pointing fields
  pub below : AllByRecursion (IsBindingBelow n) bindings

-- Where a variable's field is among fields.
abbrev pub cut_from : List Field → Option ℕ → Option Cut
cut_from fields None = None
cut_from fields (Some i) = Some (record { before = take i fields; behind = drop (suc i) fields })

-- The side that takes the part of a field, the fields before that one, and those behind it.
abbrev pub taken : (ℕ → Term) → List Field → Taken → PlacedSide
taken f fields t = record { before = take t.place fields; side = side_from f (s.One t.side); left = drop (suc t.place) fields }

-- A side that takes the part of a field, where the fields before that one may be put before it.
abbrev pub side_at : (ℕ → Term) → (List Field → Bool) → List Field → Option Taken → Option PlacedSide
side_at f may fields None = None
side_at f may fields (Some t) = if may (take t.place fields) then Some (taken f fields t) else None

-- A side that takes the part of a field.
abbrev pub side_placed : (ℕ → Term) → List Field → Option Taken → Option PlacedSide
side_placed f fields None = None
side_placed f fields (Some t) = Some (taken f fields t)

-- The field whose part it takes is there.
abbrev pub IsTaken : ℕ → Option Taken → Type 0
IsTaken n None = Unit {0}
IsTaken n (Some t) = t.place < n

-- The term of the side has a smaller number.
abbrev pub IsTakenBelow : ℕ → Option Taken → Type 0
IsTakenBelow n None = Unit {0}
IsTakenBelow n (Some t) = t.side.term.0 < n

-- It takes the part of the first field.
abbrev pub IsFirst : Option Taken → Type 0
IsFirst None = Unit {0}
IsFirst (Some t) = t.place ≡ 0

-- The number is that of an item.
abbrev pub IsPlace : ℕ → Option ℕ → Type 0
IsPlace n None = Unit {0}
IsPlace n (Some i) = i < n

-- The variables that stand for fields where one side was placed, or two.
abbrev pub standing_of : Variable → Option Variable → List Variable
standing_of x None = x ∷ []
standing_of x (Some y) = x ∷ y ∷ []

-- A binding that is placed so.
abbrev pub placed_at : (ℕ → Term) → List Field → Spot → PlacedBind
placed_at f fields s =
    record { before = take s.before fields; bind = bind_from f s.binding; standing = standing_of s.first s.second; left = drop s.used fields }

-- A binding that is placed so, or stays.
abbrev pub bind_placed : (ℕ → Term) → List Field → Option Spot → Option PlacedBind
bind_placed f fields None = None
bind_placed f fields (Some s) = Some (placed_at f fields s)

-- The fields that it uses are there.
abbrev pub IsSpot : ℕ → Option Spot → Type 0
IsSpot n None = Unit {0}
IsSpot n (Some s) = (s.before ≤ n) × (s.used ≤ n)

-- The terms of what the binding becomes have smaller numbers.
abbrev pub IsSpotBelow : ℕ → Option Spot → Type 0
IsSpotBelow n None = Unit {0}
IsSpotBelow n (Some s) = IsBindingBelow n s.binding

-- The variables are those that were bound after a moment.
abbrev pub AreLate : Seen → ℕ → List Variable → Type 0
AreLate seen moment late = (x : Variable) → is_among late x ≡ is_late seen moment x

-- The room for the head, where it was not put yet.
abbrev pub room_left : Variable → ConId → Bool → List Bind
room_left h k true = []
room_left h k false = Past h k ∷ []

-- The room for the head, as the code keeps it.
abbrev pub room_binding : Variable → ConId → Bool → List Binding
room_binding h k true = []
room_binding h k false = b.Past h k ∷ []

-- The room for the head was put, where it was not yet.
pub record Opens (line : Line) (old new : Made) : Type 0 where
  pub bindings : new.bindings.items ≡ old.bindings.items ++ room_binding line.head line.constructor old.is_open
  pub standing : new.standing.items ≡ old.standing.items
  pub is_open : new.is_open ≡ true
  pub used : new.used ≡ old.used

-- So many of the fields that are left were put.
pub record Puts (line : Line) (count : ℕ) (old new : Made) : Type 0 where
  pub bindings : new.bindings.items ≡ old.bindings.items ++ take count (drop old.used line.pointing.items)
  pub standing : new.standing.items ≡ old.standing.items ++ map (λ (f : Field). f.variable) (take count (drop old.used line.fields.items))
  pub is_open : new.is_open ≡ old.is_open
  pub used : new.used ≡ old.used + count

-- A binding was placed.
pub record LaysSpot (line : Line) (spot : Spot) (old new : Made) : Type 0 where
  pub bindings :
      new.bindings.items
      ≡ old.bindings.items ++ (room_binding line.head line.constructor old.is_open ++ (take spot.before (drop old.used line.pointing.items) ++ spot.binding ∷ []))
  pub standing :
      new.standing.items
      ≡ old.standing.items ++ (map (λ (f : Field). f.variable) (take spot.before (drop old.used line.fields.items)) ++ standing_of spot.first spot.second)
  pub is_open : new.is_open ≡ true
  pub used : new.used ≡ old.used + spot.used

-- What was laid, and then what follows.
abbrev pub laid_with : (ℕ → Term) → Line → Made → (List Bind → List Field → Laid) → Laid
laid_with f line made further =
    laid_behind (binds_from f made.bindings.items) made.standing.items
    (further (room_left line.head line.constructor made.is_open) (drop made.used line.fields.items))

-- A binding was laid: placed, or not.
pub record Lays (f : ℕ → Term) (n : ℕ) (once : Variable → Bool) (late : List Variable) (line : Line) (old new : Made) (binding : Binding) : Type 0 where
  pub is : (further : List Bind → List Field → Laid) → laid_with f line new further
      ≡ laid_with f line old (λ room fields. lay_bind room (bind_from f binding) fields (place_bind once late (bind_from f binding) fields) further)
  pub below : AllByRecursion (IsBindingBelow n) old.bindings.items → IsBindingBelow n binding → AllByRecursion (IsBindingBelow n) new.bindings.items

-- A whole line was laid.
pub record LaysLine (f : ℕ → Term) (n : ℕ) (once : Variable → Bool) (line : Line) (made : Made) : Type 0 where
  pub binds : binds_from f made.bindings.items ≡ (lay once (binds_from f line.run.items) (Past line.head line.constructor ∷ []) line.fields.items).binds
  pub standing : made.standing.items ≡ (lay once (binds_from f line.run.items) (Past line.head line.constructor ∷ []) line.fields.items).standing
  pub below : AllByRecursion (IsBindingBelow n) made.bindings.items

-- What stands behind the room for a head: these fields, and the head.
abbrev pub ending_with : Head → List Field → Ending
ending_with head fields = record { fields = fields; head = head.variable; con = head.constructor; scalars = head.scalars.items; packed = head.packed.items }

-- The end of a line that fills no head.
abbrev pub IsOtherEnd : Node → Type 0
IsOtherEnd (n.Then binding rest) = ⊥
IsOtherEnd (n.Write h k ss ps) = ⊥
IsOtherEnd (n.Point x) = Unit {0}
IsOtherEnd (n.Call f xs) = Unit {0}
IsOtherEnd (n.Give x) = Unit {0}
IsOtherEnd (n.Case x branches) = Unit {0}
IsOtherEnd (n.If x t u) = Unit {0}
IsOtherEnd (n.Tuple tys ss ps) = Unit {0}

-- A node that goes on in other terms.
abbrev pub IsBranching : Node → Type 0
IsBranching (n.Then binding rest) = ⊥
IsBranching (n.Write head constructor scalars packed) = ⊥
IsBranching (n.Point atom) = ⊥
IsBranching (n.Call name arguments) = ⊥
IsBranching (n.Give atom) = ⊥
IsBranching (n.Case subject branches) = Unit {0}
IsBranching (n.If condition then' else') = Unit {0}
IsBranching (n.Tuple types scalars parts) = Unit {0}

-- What stands behind the room for a head, with what its end is.
abbrev pub ending_from : Variable → ConId → List Atom → List Atom → Option (Vec Field) → Option Ending
ending_from h k ss ps None = None
ending_from h k ss ps (Some fields) = Some (record { fields = fields.items; head = h; con = k; scalars = ss; packed = ps })

-- Fields that were found.
abbrev pub AreFound : (ℕ → Term) → ℕ → List Binding → Option (Vec Field) → Type 0
AreFound f n bindings None = Unit {0}
AreFound f n bindings (Some fields) = ArePointing f n bindings fields.items

-- The head and the constructor that a binding keeps room for, where it is one that does.
abbrev pub room_in : Binding → Option (Variable × ConId)
room_in (b.Past h k) = Some (h, k)
room_in (b.One s) = None
room_in (b.Par fork l r) = None
room_in (b.Prim x f y z) = None
room_in (b.Reach y by) = None

-- More bindings before the others.
abbrev pub bindings_first : List Bind → Option Filling → Option Filling
bindings_first bs None = None
bindings_first bs (Some l) = Some (record { run = bs ++ l.run; room = l.room; made = l.made; ending = l.ending })

-- The filling that a line is, with what its end is.
abbrev pub filling_from : (ℕ → Term) → Variable → ConId → List Atom → List Atom → Option Line → Option Filling
filling_from f h k ss ps None = None
filling_from f h k ss ps (Some line) = Some (record {
  run = binds_from f line.run.items;
  room = line.head;
  made = line.constructor;
  ending = record { fields = line.fields.items; head = h; con = k; scalars = ss; packed = ps };
})

-- A line that was found: its run and its fields.
pub record IsLineOf (f : ℕ → Term) (n : ℕ) (line : Line) : Type 0 where
  pub run : AllByRecursion (IsBindingBelow n) line.run.items
  pub fields : ArePointing f n line.pointing.items line.fields.items

-- A line that was found, or none.
abbrev pub IsFound : (ℕ → Term) → ℕ → Option Line → Type 0
IsFound f n None = Unit {0}
IsFound f n (Some line) = IsLineOf f n line
