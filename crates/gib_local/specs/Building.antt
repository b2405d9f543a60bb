-- What the places of a text ask for, and the core that they make.
use Rattle.std.specs.Prelude.{ℕ, pos, ◌+◌, ◌==◌, Bool, true, false, not, ◌&&◌, if◌then◌else◌, List, [], ◌∷◌, map, length, Option, Some, None, Result, Ok, Err}
use Rattle.gib_types.specs.declared.table.Ty.{Ty}
use Rattle.gib_types.specs.declared.table.ConId.{ConId}
use Rattle.gib_types.specs.Table.{Table, fields_at, at_fields, is_scalar}
use Rattle.gib_syntax.specs.declared.tree.Ident.{Ident}
use Rattle.gib_syntax.specs.declared.tree.TypeName.{TypeName}
use Rattle.gib_syntax.specs.declared.tree.TypeName.TheVariants as ty
use Rattle.gib_syntax.specs.declared.tree.Parameter.{Parameter}
use Rattle.gib_syntax.specs.Tree as source
use Rattle.gib_syntax.specs.Results as results
use Rattle.gib_syntax.specs.Declarations.{number_of, constructor_named, type_of_name, table_of_program}
use Rattle.gib_core.specs.declared.atom.Variable.{Variable}
use Rattle.gib_core.specs.declared.atom.Atom.{Atom}
use Rattle.gib_core.specs.declared.atom.Atom.TheVariants as a
use Rattle.gib_core.specs.declared.atom.Kind.{Kind}
use Rattle.gib_core.specs.declared.atom.Kind.TheVariants.{Here, Region, Scalar}
use Rattle.gib_core.specs.declared.atom.Access.{Access}
use Rattle.gib_core.specs.declared.atom.Access.TheVariants as by
use Rattle.gib_core.specs.Tree.{Term, Then, Write, Point, CallTerm, Give, CaseTerm, IfTerm, Bind, Past, One, Both, Prim, Reach, Side, On, Branches, NoBranch, BranchThen, prepend, variables_from, FunctionTerm, CoreTree}
use Rattle.gib_core.specs.Met.{Destination, Nowhere, Empty, Open, InParts, packed_types, stands_too, result_place}
use Rattle.gib_core.specs.Rules.{has_room, is_empty, is_nowhere}
use Rattle.gib_check.specs.InScope.{newest}
-- A location, by what it is: the place of a function's result; the start of the region of a name; behind the head of
-- a variable; behind the value of a variable that stands.
pub use Rattle.gib_local.specs.declared.place.Place.{Place}
pub use Rattle.gib_local.specs.declared.place.Place.TheVariants.{AtResult, AtStart, AtFirst, AtNext}
-- What a name stands for among regions and locations.
pub use Rattle.gib_local.specs.declared.place.Meant.{Meant}
pub use Rattle.gib_local.specs.declared.place.Meant.TheVariants.{IsRegion, IsPlace}
use Rattle.gib_local_parse.specs.Tree.{Line, In, Given, Pointed, Called, Made, Cased, Chosen, Binding, NewRegion, NewPlace, LetIn, ParIn, PrimIn, ReachIn, Bound, Be, Arms, LastArm, NextArm, FunctionText, LocalTree}
use Rattle.gib_local_parse.specs.declared.tree.Mark.{Mark}
use Rattle.gib_local_parse.specs.declared.tree.Operand.{Operand}
use Rattle.gib_local_parse.specs.declared.tree.Operand.TheVariants.{Named, Number, Bit}
use Rattle.gib_local_parse.specs.declared.tree.Location.{Location}
use Rattle.gib_local_parse.specs.declared.tree.Location.TheVariants.{Start, Plus, After}
use Rattle.gib_local_parse.specs.declared.tree.Way.{Way}
use Rattle.gib_local_parse.specs.declared.tree.Way.TheVariants.{ByOffset, BySkip, ByEnd}

-- Whether two locations are one.
abbrev pub same_place : Place → Place → Bool
same_place AtResult AtResult = true
same_place (AtStart r) (AtStart s) = r == s
same_place (AtFirst h) (AtFirst g) = h == g
same_place (AtNext x) (AtNext y) = x == y
same_place p q = false

-- A region's or location's name, with what it stands for.
abbrev pub PlaceName : Type 0
PlaceName = ℕ × Meant

-- A variable's name, with its number in the core.
abbrev pub VariableName : Type 0
VariableName = ℕ × ℕ

-- What a term is met with: the variables in scope and the regions and locations, the newest first; the destination, and
-- the location where it is.
pub record Around : Type 0 where
  pub variables : List VariableName
  pub places : List PlaceName
  pub destination : Destination
  pub at : Place

-- What goes on through the text: the number of the next variable, and the regions that are not used yet.
pub record Passed : Type 0 where
  pub fresh : ℕ
  pub unused : List ℕ

-- What is made, or the first byte of what is not due.
abbrev pub Placed : Type 0 → Type 0
Placed A = Result A ℕ

-- Goes on where all was due.
abbrev pub and_then : {A B : Type 0} → Placed A → (A → Placed B) → Placed B
and_then (Ok x) go = go x
and_then (Err p) go = Err p

-- Goes on where it is due.
abbrev pub if_due : {A : Type 0} → Bool → ℕ → Placed A → Placed A
if_due true p go = go
if_due false p go = Err p

-- What a name of a region or location stands for.
abbrev pub meant : List PlaceName → ℕ → Option Meant
meant ps x = newest ps x

-- The number of a variable; of an unknown one, 0.
abbrev pub variable_at : List VariableName → ℕ → ℕ
variable_at [] x = 0
variable_at (v ∷ vs) x = if v.0 == x then v.1 else variable_at vs x

-- The variable of a name.
abbrev pub variable : Around → Ident → Variable
variable h x = record { 0 = variable_at h.variables (number_of x) }

-- The atom of an operand.
abbrev pub atom : Around → Operand → Atom
atom h (Named x) = a.Variable (variable h x)
atom h (Number p n) = a.Whole (pos n)
atom h (Bit p b) = a.Truth b

-- The constructor of a name; of an unknown one, the first.
abbrev pub con_or : Option ℕ → ConId
con_or None = record { 0 = 0 }
con_or (Some k) = record { 0 = k }

-- The constructor of a name.
abbrev pub con : Table → Ident → ConId
con tb k = con_or (constructor_named tb (number_of k))

-- A name stands for this location.
abbrev pub is_place : Place → Option Meant → Bool
is_place p None = false
is_place p (Some IsRegion) = false
is_place p (Some (IsPlace q)) = same_place p q

-- A name stands for a region.
abbrev pub is_region : Option Meant → Bool
is_region None = false
is_region (Some IsRegion) = true
is_region (Some (IsPlace q)) = false

-- One of these numbers.
abbrev pub is_in : List ℕ → ℕ → Bool
is_in [] x = false
is_in (y ∷ ys) x = if y == x then true else is_in ys x

-- Without a number.
abbrev pub without : ℕ → List ℕ → List ℕ
without x [] = []
without x (y ∷ ys) = if y == x then without x ys else y ∷ without x ys

-- Behind the last of the variables that stand, or else this location.
abbrev pub behind_last : Place → List Variable → Place
behind_last p [] = p
behind_last p (x ∷ xs) = behind_last (AtNext x.0) xs

-- The location of the next field of an open head, where one is left to place.
abbrev pub next_place : Table → Destination → Option Place
next_place tb Nowhere = None
next_place tb Empty = None
next_place tb (InParts ts) = None
next_place tb (Open h k standing) = if has_room tb (Open h k standing) then Some (behind_last (AtFirst h.0) standing) else None

-- A location is there, and it is this one.
abbrev pub is_there : Option Place → Place → Bool
is_there None p = false
is_there (Some q) p = same_place q p

-- How a value is put at a location: where it is that of the next field, it becomes that field; where it is the start of a
-- region that is not used yet, it is put there.
abbrev pub kind_for : Option Place → List ℕ → Place → Option Kind
kind_for next unused (AtStart r) = if is_in unused r then Some Region else None
kind_for next unused p = if is_there next p then Some Here else None

-- How a value is put at what a name stands for.
abbrev pub kind_at : Option Place → List ℕ → Option Meant → Option Kind
kind_at next unused None = None
kind_at next unused (Some IsRegion) = None
kind_at next unused (Some (IsPlace p)) = kind_for next unused p

-- The location that a name stands for; a region is none.
abbrev pub place_meant : Option Meant → Place
place_meant None = AtResult
place_meant (Some IsRegion) = AtResult
place_meant (Some (IsPlace p)) = p

-- The regions that are not used behind a value that is put there.
abbrev pub used_too : Place → List ℕ → List ℕ
used_too (AtStart r) unused = without r unused
used_too p unused = unused

-- Where a type is written.
abbrev pub type_start : TypeName → ℕ
type_start (ty.Whole p) = p.start
type_start (ty.Truth p) = p.start
type_start (ty.Declared x) = x.span.start

-- An `@` names the destination.
abbrev pub aims : {A : Type 0} → Around → Mark → Placed A → Placed A
aims h at go = if_due (not (is_nowhere h.destination)) at.sign.start (if_due (is_place h.at (meant h.places (number_of at.name))) at.name.span.start go)

-- There is no `@`.
abbrev pub no_mark : {A : Type 0} → Option Mark → Placed A → Placed A
no_mark None go = go
no_mark (Some at) go = Err at.sign.start

-- There is an `@`; else the fault is at this place.
abbrev pub with_mark : {A : Type 0} → Option Mark → ℕ → (Mark → Placed A) → Placed A
with_mark None p go = Err p
with_mark (Some at) p go = go at

-- A term, and what goes on behind it.
pub record Termed : Type 0 where
  pub term : Term
  pub passed : Passed

-- Branches, and what goes on behind them.
pub record Branched : Type 0 where
  pub branches : Branches
  pub passed : Passed

-- Bindings (one at most), what the rest of the line is met with, and what goes on behind them.
pub record Stepped : Type 0 where
  pub binds : List Bind
  pub around : Around
  pub passed : Passed

-- A side, the destination behind it, and what goes on behind it.
pub record Sided : Type 0 where
  pub side : Side
  pub destination : Destination
  pub passed : Passed

-- One more variable in scope.
abbrev pub with_variable : Ident → ℕ → List VariableName → List VariableName
with_variable x n vs = (number_of x, n) ∷ vs

-- One more region or location in scope.
abbrev pub with_place : Ident → Meant → List PlaceName → List PlaceName
with_place x m ps = (number_of x, m) ∷ ps

-- Variables in scope, with the numbers from one on.
abbrev pub with_variables : ℕ → List Ident → List VariableName → List VariableName
with_variables n [] vs = vs
with_variables n (x ∷ xs) vs = with_variables (n + 1) xs (with_variable x n vs)

-- So many variables further.
abbrev pub numbered_on : ℕ → Passed → Passed
numbered_on n v = record v { fresh = v.fresh + n }

-- A field's access.
abbrev pub access : Around → Way → Access
access h ByOffset = by.Offset
access h (BySkip z) = by.Skip (variable h z)
access h (ByEnd z) = by.End (variable h z)

-- The constructor of the open head is this one.
abbrev pub is_open_at : ConId → Destination → Bool
is_open_at k Nowhere = false
is_open_at k Empty = false
is_open_at k (InParts ts) = false
is_open_at k (Open h c standing) = c.0 == k.0

-- The variable of the open head; where none is open, 0.
abbrev pub head_of : Destination → Variable
head_of Nowhere = record { 0 = 0 }
head_of Empty = record { 0 = 0 }
head_of (InParts ts) = record { 0 = 0 }
head_of (Open h c standing) = h

-- A constructor has no packed field.
abbrev pub is_flat : Table → ConId → Bool
is_flat tb k = length (packed_types tb k) == 0

-- A head is filled by these arguments, in declared order.
abbrev pub write : Table → Variable → ConId → List Atom → Term
write tb h k xs = Write h k (at_fields true (fields_at tb k.0) xs) (at_fields false (fields_at tb k.0) xs)

-- A constructor's value: without packed fields its head is reserved and filled at once; with them it is that of the
-- open head.
abbrev pub make : Bool → Table → Around → Passed → ConId → Mark → List Atom → Placed Termed
make true tb h v k at xs =
    aims h at (Ok (record { term = Then (Past (record { 0 = v.fresh }) k) (write tb (record { 0 = v.fresh }) k xs); passed = numbered_on 1 v }))
make false tb h v k at xs =
    aims h at (if_due (is_open_at k h.destination) at.name.span.start (Ok (record { term = write tb (head_of h.destination) k xs; passed = v })))

-- A call: its `@` is there exactly where its function's result is packed.
abbrev pub call : Bool → Around → Passed → Ident → List Atom → Option Mark → Placed Termed
call true h v f xs at = no_mark at (Ok (record { term = CallTerm f.name xs; passed = v }))
call false h v f xs at = with_mark at f.span.start (λ m. aims h m (Ok (record { term = CallTerm f.name xs; passed = v })))

-- A location gets one more name.
abbrev pub named_too : Around → Passed → Ident → Place → Stepped
named_too h v l p = record { binds = []; around = record h { places = with_place l (IsPlace p) h.places }; passed = v }

-- A head is open from here on, and the place behind it has a name.
abbrev pub opened : Around → Passed → Ident → ConId → Stepped
opened h v l k = record {
  binds = Past (record { 0 = v.fresh }) k ∷ [];
  around = record h { places = with_place l (IsPlace (AtFirst v.fresh)) h.places; destination = Open (record { 0 = v.fresh }) k [] };
  passed = numbered_on 1 v;
}

-- The head of a constructor with packed fields may be opened at the destination, which this name is.
abbrev pub may_open : Table → Around → Ident → ConId → Bool
may_open tb h d k = is_empty h.destination && (is_place h.at (meant h.places (number_of d)) && not (is_flat tb k))

-- Behind this variable is the place of the next field.
abbrev pub is_last : Table → Destination → Variable → Bool
is_last tb d x = is_there (next_place tb d) (AtNext x.0)

-- A name for a location.
abbrev pub new_place : Table → Around → Passed → Ident → Location → Placed Stepped
new_place tb h v l (Start r) = if_due (is_region (meant h.places (number_of r))) r.span.start (Ok (named_too h v l (AtStart (number_of r))))
new_place tb h v l (Plus d k) = if_due (may_open tb h d (con tb k)) d.span.start (Ok (opened h v l (con tb k)))
new_place tb h v l (After x) = if_due (is_last tb h.destination (variable h x)) x.span.start (Ok (named_too h v l (AtNext (variable h x).0)))

-- What the right side of a `par` is met with: the left side's variable is none of its own, but the place behind it may
-- have a name.
abbrev pub between : Table → Around → Ident → ℕ → Destination → Option (Ident × Ident) → Placed Around
between tb h x n d None = Ok (record h { destination = d })
between tb h x n d (Some (l, y)) =
    let inner : Around = record h { variables = with_variable x n h.variables; destination = d } in
    if_due (is_last tb d (variable inner y)) y.span.start
    (Ok (record h { destination = d; places = with_place l (IsPlace (AtNext (variable inner y).0)) h.places }))

-- What a bound term is met with, at a location.
abbrev pub inside : Around → Place → Around
inside h p = record h { destination = Empty; at = p }

-- What the term of a scalar is met with.
abbrev pub inside_scalar : Around → Around
inside_scalar h = record h { destination = Nowhere }

-- The side of a kind, where the term was made.
abbrev pub sided : Around → Kind → Ident → ℕ → Ty → Termed → Sided
sided h kind x n ty t = record { side = On kind (record { 0 = n }) ty t.term; destination = stands_too kind (record { 0 = n }) h.destination; passed = t.passed }

-- A packed value that is put at a location: one of these two ways, or none is due.
abbrev pub put_at : (Around → Passed → Placed Termed) → Around → Passed → Ident → Ty → Mark → Option Meant → Option Kind → Placed Sided
put_at line h v x t at m None = Err at.name.span.start
put_at line h v x t at m (Some kind) =
    and_then (line (inside h (place_meant m)) (record { fresh = v.fresh + 1; unused = used_too (place_meant m) v.unused })) (λ r. Ok (sided h kind x v.fresh t r))

-- A bound term, by its type.
abbrev pub bind : Bool → Table → (Around → Passed → Placed Termed) → Around → Passed → Ident → TypeName → Ty → Option Mark → Placed Sided
bind true tb line h v x w t at = no_mark at (and_then (line (inside_scalar h) (numbered_on 1 v)) (λ r. Ok (sided h Scalar x v.fresh t r)))
bind false tb line h v x w t at =
    with_mark at (type_start w) (λ m.
    put_at line h v x t m (meant h.places (number_of m.name)) (kind_at (next_place tb h.destination) v.unused (meant h.places (number_of m.name))))

-- Whether the result of the function of a name is a scalar.
abbrev pub gives_scalar : List FunctionText → List ℕ → ℕ → Bool
gives_scalar [] types f = true
gives_scalar (g ∷ gs) types f = if number_of g.name == f then is_scalar (type_of_name types g.result) else gives_scalar gs types f

-- The text round a body: its table, and its functions.
pub record Program : Type 0 where
  pub table : Table
  pub functions : List FunctionText

abbrev mutual
  -- The core term of a line.
  pub build : Program → Line → Around → Passed → Placed Termed
  build p (In s b rest) h v = and_then (build_binding p b h v) (λ r. and_then (build p rest r.around r.passed) (λ t. Ok (record t { term = prepend r.binds t.term })))
  build p (Given s x) h v = Ok (record { term = Give (atom h x); passed = v })
  build p (Pointed s x at) h v = aims h at (Ok (record { term = Point (a.Variable (variable h x)); passed = v }))
  build p (Called f xs at) h v = call (gives_scalar p.functions p.table.types (number_of f)) h v f (map (atom h) xs) at
  build p (Made k at xs) h v = make (is_flat p.table (con p.table k)) p.table h v (con p.table k) at (map (atom h) xs)
  build p (Cased s x arms) h v = and_then (build_arms p arms h v) (λ r. Ok (record { term = CaseTerm (a.Variable (variable h x)) r.branches; passed = r.passed }))
  build p (Chosen s x t u) h v =
      and_then (build p t h v) (λ r. and_then (build p u h r.passed) (λ q. Ok (record { term = IfTerm (atom h x) r.term q.term; passed = q.passed })))

  -- The bindings of a binding.
  pub build_binding : Program → Binding → Around → Passed → Placed Stepped
  build_binding p (NewRegion r) h v =
      Ok (record { binds = []; around = record h { places = with_place r IsRegion h.places }; passed = record v { unused = number_of r ∷ v.unused } })
  build_binding p (NewPlace l q) h v = new_place p.table h v l q
  build_binding p (LetIn (Be x w at t)) h v =
      and_then (build_bound p (Be x w at t) h v)
      (λ s. Ok (record { binds = One s.side ∷ []; around = record h { variables = with_variable x v.fresh h.variables; destination = s.destination }; passed = s.passed }))
  build_binding p (ParIn (Be x w at t) m (Be y z on u)) h v =
      and_then (build_bound p (Be x w at t) h v)
      (λ l. and_then (between p.table h x v.fresh l.destination m)
      (λ g. and_then (build_bound p (Be y z on u) g l.passed)
      (λ r. Ok (record {
        binds = Both false l.side r.side ∷ [];
        around = record h { variables = with_variable y l.passed.fresh (with_variable x v.fresh h.variables); destination = r.destination };
        passed = r.passed;
      }))))
  build_binding p (PrimIn x w y f z) h v =
      Ok (record {
        binds = Prim (record { 0 = v.fresh }) f (atom h y) (atom h z) ∷ [];
        around = record h { variables = with_variable x v.fresh h.variables };
        passed = numbered_on 1 v;
      })
  build_binding p (ReachIn y way) h v = Ok (record { binds = Reach (variable h y) (access h way) ∷ []; around = h; passed = v })

  -- A side.
  pub build_bound : Program → Bound → Around → Passed → Placed Sided
  build_bound p (Be x w at t) h v =
      bind (is_scalar (type_of_name p.table.types w)) p.table (build p t) h v x w (type_of_name p.table.types w) at

  -- The branches of arms.
  pub build_arms : Program → Arms → Around → Passed → Placed Branched
  build_arms p (LastArm k xs t) h v =
      and_then (build p t (record h { variables = with_variables v.fresh xs h.variables }) (numbered_on (length xs) v))
      (λ r. Ok (record { branches = BranchThen (con p.table k) (variables_from v.fresh xs) r.term NoBranch; passed = r.passed }))
  build_arms p (NextArm k xs t arms) h v =
      and_then (build p t (record h { variables = with_variables v.fresh xs h.variables }) (numbered_on (length xs) v))
      (λ r. and_then (build_arms p arms h r.passed)
      (λ q. Ok (record { branches = BranchThen (con p.table k) (variables_from v.fresh xs) r.term q.branches; passed = q.passed })))

-- What the body of a function is met with, its parameters' variables from 0 on.
abbrev pub opening : List Parameter → List PlaceName → Ty → Around
opening qs places t = record { variables = with_variables 0 (map (λ (q : Parameter). q.name) qs) []; places = places; destination = result_place (results.One t); at = AtResult }

-- A body; its result has a place exactly where it is packed.
abbrev pub body : Bool → Program → List Parameter → TypeName → Ty → Option Mark → Line → Placed Termed
body true p qs w t at line = no_mark at (build p line (opening qs [] t) (record { fresh = length qs; unused = [] }))
body false p qs w t at line =
    with_mark at (type_start w) (λ m. build p line (opening qs (with_place m.name (IsPlace AtResult) []) t) (record { fresh = length qs; unused = [] }))

-- The body of a function, by the type of its result.
abbrev pub build_body : Program → List Parameter → TypeName → Option Mark → Line → Placed Termed
build_body p qs w at line = body (is_scalar (type_of_name p.table.types w)) p qs w (type_of_name p.table.types w) at line

-- The types of parameters.
abbrev pub types_of : List ℕ → List Parameter → List Ty
types_of types qs = map (λ (q : Parameter). type_of_name types q.ty) qs

-- Functions, in the order of the text.
abbrev pub build_functions : Program → List FunctionText → Placed (List FunctionTerm)
build_functions p [] = Ok []
build_functions p (f ∷ fs) =
    and_then (build_body p f.parameters f.result f.place f.body)
    (λ r. and_then (build_functions p fs)
    (λ rest. Ok (record { name = f.name.name; parameters = types_of p.table.types f.parameters; result = results.One (type_of_name p.table.types f.result); body = r.term } ∷ rest)))

-- The heads of a text, as a source program: its bodies mean nothing.
abbrev pub head : FunctionText → source.FunctionTree
head f = record { name = f.name; parameters = f.parameters; result = results.One f.result; body = source.Bit (record { start = 0; end = 0 }) false }

-- The declarations of a text.
abbrev pub declared : LocalTree → source.ProgramTree
declared t = record {
  datas = t.datas;
  functions = map head t.functions;
  main = record { parameter = t.main.parameter; result = t.main.result; body = source.Bit (record { start = 0; end = 0 }) false };
}

-- The program round the bodies of a text.
abbrev pub program : LocalTree → Program
program t = record { table = table_of_program (declared t); functions = t.functions }

-- The core of a text, or the first byte of what is not due.
unfoldable pub build_core : LocalTree → Placed CoreTree
build_core t =
    and_then (build_functions (program t) t.functions)
    (λ fs. and_then (build_body (program t) (t.main.parameter ∷ []) t.main.result t.main.place t.main.body)
    (λ m. Ok (record {
      table = (program t).table;
      functions = fs;
      main = record { parameter = type_of_name (program t).table.types t.main.parameter.ty; result = type_of_name (program t).table.types t.main.result; body = m.term };
      offsets = map (con (program t).table) t.offsets;
      marked = true;
    })))
