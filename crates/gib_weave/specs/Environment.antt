-- What a frame knows of its variables: their values, where these stand, and the destination of the running term.
use Rattle.std.specs.Prelude.{◌≡◌, ℕ, ℤ, ◌+◌, ◌<◌, Bool, true, List, [], ◌∷◌, ◌++◌, length, suc, get_or, Option, None, Some, FitsSigned}
use Rattle.std.specs.Int.{w64, cast_unsigned}
use Rattle.gib_types.specs.declared.table.Ty.{Ty}
use Rattle.gib_types.specs.declared.table.Ty.TheVariants.{Whole, Truth, Tree}
use Rattle.gib_types.specs.Table.{fields_at, con_at}
use Rattle.gib_types.specs.Layout.{LaidOut, is_among, head_size}
use Rattle.gib_types.specs.Tree.{Datum, whole, truth}
use Rattle.gib_syntax.specs.Meaning.{value_in, Environment}
use Rattle.gib_mem.specs.Memory.{Store, byte, Holds}
use Rattle.gib_packed.specs.Scalars.{bit}
use Rattle.gib_packed.specs.Head.{address}
use Rattle.gib_packed.specs.Decoding.{Dec}
use Rattle.gib_packed.specs.Reaching.{Turns}
use Rattle.gib_core.specs.Fits.{Absent, AtHead, Dest, Empty, Field, Held, InParts, Loose, Nowhere, Open, Outside, Placed, Scalar, Scope, Sort, Line, has_slot, is_there, tree_type, packed_due}
use Rattle.gib_core.specs.Low.{Over}
use Rattle.gib_machine.specs.State.{Slots, slot, end_at}
use Rattle.gib_weave.specs.EndWords.{HasEnd, IsTold}

-- Where a line of a frame stands: what is known of its variables, their values, the places that they were bound to, the
-- places of their heads, the destination, where its value is to stand, and the place of its open head.
pub record Ctx : Type 0 where
  pub scope : Scope
  pub env : Environment
  pub pl : ℕ → ℕ
  pub hd : ℕ → ℕ
  pub dest : Dest
  pub front : ℕ
  pub head : ℕ
  pub line : Line

-- A word is the scalar of the type.
abbrev pub IsScalar : Ty → ℕ → Datum → Type 0
IsScalar Whole w v = (z : ℤ) × (v ≡ whole z) × FitsSigned w64 z × (w ≡ cast_unsigned w64 z)
IsScalar Truth w v = (b : Bool) × (v ≡ truth b) × (w ≡ bit b)
IsScalar (Tree t) w v = ⊥

-- The value stands at a, with some end.
pub record StandsAt (laid : LaidOut) (s : Store) (t a : ℕ) (v : Datum) : Type 0 where
  pub end : ℕ
  pub dec : Dec laid s a t v end

-- A word is the argument, or the word of a part: the scalar, or the place where the tree stands.
abbrev pub IsArgument : LaidOut → Store → Ty → ℕ → Datum → Type 0
IsArgument laid s Whole w v = IsScalar Whole w v
IsArgument laid s Truth w v = IsScalar Truth w v
IsArgument laid s (Tree t) w v = StandsAt laid s t.0 w v

-- The slot has the place of the value, which stands there.
pub record IsPlaced (laid : LaidOut) (s : Store) (t sl pl : ℕ) (v : Datum) : Type 0 where
  pub same : sl ≡ pl
  pub stands : StandsAt laid s t pl v

-- The slot has the place of the value's head, whose tag is known.
pub record IsAtHead (laid : LaidOut) (s : Store) (t sl hd : ℕ) (v : Datum) : Type 0 where
  pub same : sl ≡ hd
  pub tag : ℕ
  pub known : s hd ≡ byte tag
  pub is_head : tag < 254
  pub stands : StandsAt laid s t hd v

-- The field stands behind z's value, and its address in the head of x.
pub record IsField (laid : LaidOut) (s : Store) (c : Ctx) (t z x k p : ℕ) (v : Datum) (at : ℕ) : Type 0 where
  pub there : is_there (c.scope z) ≡ true
  pub owner_type : ℕ
  pub owner : c.scope x ≡ AtHead owner_type
  pub type_before : ℕ
  pub before : Dec laid s (c.pl z) type_before (value_in c.env z) at
  pub stored : is_among laid.with_offsets k ≡ true → Holds s (c.hd x + p) (address at)
  pub stands : StandsAt laid s t at v

-- What is known of a variable of the sort: its word, its value, its place, the place of its head.
abbrev pub Has : LaidOut → Store → Ctx → Sort → ℕ → Datum → ℕ → ℕ → Type 0
Has laid s c Outside w v at hd = Unit {0}
Has laid s c Absent w v at hd = Unit {0}
Has laid s c (Scalar ty) w v at hd = IsScalar ty w v
Has laid s c Held w v at hd = Unit {0}
Has laid s c (Placed t) w v at hd = IsPlaced laid s t w at v
Has laid s c (Loose t) w v at hd = StandsAt laid s t w v
Has laid s c (AtHead t) w v at hd = IsAtHead laid s t w hd v
Has laid s c (Field t z x k p) w v at hd = IsField laid s c t z x k p v at

-- The last packed field of a tree that a case is on: both end at one place.
pub record Closes (laid : LaidOut) (s : Store) (c : Ctx) (o : Over) : Type 0 where
  pub tx : ℕ
  pub head : c.scope o.tree ≡ AtHead tx
  pub there : is_there (c.scope o.field) ≡ true
  pub ty : ℕ
  pub end : ℕ
  pub tree : Dec laid s (c.hd o.tree) tx (value_in c.env o.tree) end
  pub field : Dec laid s (c.pl o.field) ty (value_in c.env o.field) end

-- It is so for each of the trees.
abbrev pub AllClose : LaidOut → Store → Ctx → List Over → Type 0
AllClose laid s c [] = Unit {0}
AllClose laid s c (o ∷ os) = Closes laid s c o × AllClose laid s c os

-- Each variable's slot is as its sort says.
pub record HasAll (laid : LaidOut) (s : Store) (sl : Slots) (c : Ctx) : Type 0 where
  pub has : (y : ℕ) → Has laid s c (c.scope y) (slot sl y) (value_in c.env y) (c.pl y) (c.hd y)
  pub wide : (y : ℕ) → has_slot (c.scope y) ≡ true → y < length sl.vars
  pub ends : (y : ℕ) → HasEnd laid s (c.scope y) (slot sl y) (end_at sl y) (value_in c.env y) (c.pl y)
  pub even : length sl.ends ≡ length sl.vars
  pub told : (q : ℕ) → c.line.told q ≡ true → IsTold sl c.scope q
  pub closes : AllClose laid s c c.line.overs

-- The fields that stand, of these types, one behind another from a to z, each where it was bound.
pub data Fields (laid : LaidOut) (s : Store) (c : Ctx) : ℕ → List ℕ → List ℕ → ℕ → Type 0 where
  none : {a : ℕ} → Fields laid s c a [] [] a
  field : {a x y z t : ℕ} {xs ts : List ℕ} → is_there (c.scope x) ≡ true → c.pl x ≡ a → Dec laid s a t (value_in c.env x) y → Fields laid s c y xs ts z
      → Fields laid s c a (x ∷ xs) (t ∷ ts) z

-- The open head of a constructor k of type t: its fields xs stand behind it, up to the cursor, and fields of the types dues are
-- still to come.
pub record IsHead (laid : LaidOut) (s : Store) (sl : Slots) (c : Ctx) (t h k : ℕ) (xs dues : List ℕ) (cur : ℕ) : Type 0 where
  pub con : con_at laid.table t k ≡ Some k
  pub slot : slot sl h ≡ c.head
  pub sort : c.scope h ≡ Held
  pub leads : Turns s c.front c.head
  pub types : List ℕ
  pub all : types ++ dues ≡ packed_due (fields_at laid.table k)
  pub fields : Fields laid s c (c.head + head_size laid k) xs types cur

-- The destination, with what comes next at cur.
abbrev pub IsDest : LaidOut → Store → Slots → Ctx → Dest → ℕ → Type 0
IsDest laid s sl c (Nowhere ty) cur = Unit {0}
IsDest laid s sl c (Empty t) cur = c.front ≡ cur
IsDest laid s sl c (Open t h k xs dues) cur = IsHead laid s sl c t h k xs dues cur
IsDest laid s sl c (InParts tys) cur = Unit {0}

-- The frame is as the line says.
pub record Matches (laid : LaidOut) (s : Store) (sl : Slots) (c : Ctx) (cur : ℕ) : Type 0 where
  pub vars : HasAll laid s sl c
  pub dest : IsDest laid s sl c c.dest cur

-- What a call was given for a packed parameter: a value of a type, and where it stands.
pub record Given : Type 0 where
  pub t : ℕ
  pub at : ℕ
  pub v : Datum

-- A frame's parameters, from the j-th on, are what it was given: its lines know each of them as bound there.
abbrev pub AreGiven : Ctx → ℕ → List (Option Given) → Type 0
AreGiven c j [] = Unit {0}
AreGiven c j (None ∷ gs) = AreGiven c (suc j) gs
AreGiven c j (Some g ∷ gs) = (tree_type (c.scope j) ≡ Some g.t) × (c.pl j ≡ g.at) × (value_in c.env j ≡ g.v) × AreGiven c (suc j) gs

-- The ends of a frame that was left, from the j-th parameter on: each is 0, or where the value that was given ends.
abbrev pub Gave : LaidOut → Store → List ℕ → ℕ → List (Option Given) → Type 0
Gave laid s es j [] = Unit {0}
Gave laid s es j (None ∷ gs) = Gave laid s es (suc j) gs
Gave laid s es j (Some g ∷ gs) = (0 < get_or es j 0 → Dec laid s g.at g.t g.v (get_or es j 0)) × Gave laid s es (suc j) gs

-- What a call with these arguments is given for parameters of these types.
abbrev pub givens : List Ty → List ℕ → List Datum → List (Option Given)
givens [] ws vs = []
givens (ty ∷ tys) [] vs = []
givens (ty ∷ tys) (w ∷ ws) [] = []
givens (Whole ∷ tys) (w ∷ ws) (v ∷ vs) = None ∷ givens tys ws vs
givens (Truth ∷ tys) (w ∷ ws) (v ∷ vs) = None ∷ givens tys ws vs
givens (Tree t ∷ tys) (w ∷ ws) (v ∷ vs) = Some (record { t = t.0; at = w; v = v }) ∷ givens tys ws vs
