-- What is made has no negative literal.
use Rattle.std.proofs.Common.{◌≡◌, ℕ, ◌+◌, Bool, true, false, if◌then◌else◌, List, [], ◌∷◌, ◌++◌, map, length, Option, Some, None, Ok, refl}
use Rattle.std.specs.List.{AllByRecursion}
use Rattle.gib_types.specs.declared.table.Ty.{Ty}
use Rattle.gib_types.specs.declared.table.ConId.{ConId}
use Rattle.gib_types.specs.Table.{Table, is_scalar, at_fields, fields_at}
use Rattle.gib_syntax.specs.declared.tree.Ident.{Ident}
use Rattle.gib_syntax.specs.declared.tree.TypeName.{TypeName}
use Rattle.gib_syntax.specs.declared.tree.Parameter.{Parameter}
use Rattle.gib_syntax.specs.Declarations.{number_of, type_of_name}
use Rattle.gib_syntax.specs.Results as results
use Rattle.gib_core.specs.declared.atom.Variable.{Variable}
use Rattle.gib_core.specs.declared.atom.Atom.{Atom}
use Rattle.gib_core.specs.declared.atom.Kind.{Kind}
use Rattle.gib_core.specs.declared.atom.Kind.TheVariants.{Scalar}
use Rattle.gib_core.specs.Tree.{Term, Then, CallTerm, Bind, Past, prepend, FunctionTerm, CoreTree}
use Rattle.gib_core.specs.Met.{Body}
use Rattle.gib_core.specs.Ordered.{IsNatural, AreNaturalAtoms, IsNaturalTerm, IsNaturalBind, IsNaturalSide, AreNaturalBranches, AreNatural}
use Rattle.gib_local_parse.specs.Tree.{Line, In, Given, Pointed, Called, Made, Cased, Chosen, Binding, NewRegion, NewPlace, LetIn, ParIn, PrimIn, ReachIn, Bound, Be, Arms, LastArm, NextArm, FunctionText, LocalTree}
use Rattle.gib_local_parse.specs.declared.tree.Mark.{Mark}
use Rattle.gib_local_parse.specs.declared.tree.Operand.{Operand}
use Rattle.gib_local_parse.specs.declared.tree.Operand.TheVariants.{Named, Number, Bit}
use Rattle.gib_local_parse.specs.declared.tree.Location.{Location}
use Rattle.gib_local_parse.specs.declared.tree.Location.TheVariants.{Start, Plus, After}
use Rattle.gib_local.specs.Building
use Rattle.gib_local.specs.Building.{Placed, Around, Passed, Termed, Branched, Stepped, Sided, Program, and_then, if_due, meant, kind_at, next_place, place_meant, used_too, inside, inside_scalar, sided, put_at, bind, make, write, call, new_place, between, con, atom, is_flat, is_region, is_open_at, is_last, may_open, named_too, opened, head_of, gives_scalar, type_start, numbered_on, with_variables, build, build_binding, build_bound, build_arms, build_body, body, opening, build_functions, build_core, program}
use Rattle.gib_local.proofs.Holding.{Holds, Lines, any, then_holds, due_holds, aims_holds, no_mark_holds, with_mark_holds, holds_of}

atom_natural : (h : Around) (x : Operand) → IsNatural (atom h x)
atom_natural h (Named x) = tt
atom_natural h (Number p n) = refl
atom_natural h (Bit p b) = tt

atoms_natural : (h : Around) (xs : List Operand) → AreNaturalAtoms (map (atom h) xs)
atoms_natural h [] = tt
atoms_natural h (x ∷ xs) = (atom_natural h x, atoms_natural h xs)

if_natural : (b : Bool) (xs ys : List Atom) → AreNaturalAtoms xs → AreNaturalAtoms ys → AreNaturalAtoms (if b then xs else ys)
if_natural true xs ys h g = h
if_natural false xs ys h g = g

fields_natural : (s : Bool) (ts : List Ty) (xs : List Atom) → AreNaturalAtoms xs → AreNaturalAtoms (at_fields s ts xs)
fields_natural s [] xs h = tt
fields_natural s (t ∷ ts) [] h = tt
fields_natural true (t ∷ ts) (x ∷ xs) h = if_natural (is_scalar t) (x ∷ at_fields true ts xs) (at_fields true ts xs) (h.0, fields_natural true ts xs h.1) (fields_natural true ts xs h.1)
fields_natural false (t ∷ ts) (x ∷ xs) h = if_natural (is_scalar t) (at_fields false ts xs) (x ∷ at_fields false ts xs) (fields_natural false ts xs h.1) (h.0, fields_natural false ts xs h.1)

abbrev Natural : Termed → Type 0
Natural r = IsNaturalTerm r.term

abbrev NaturalSide : Sided → Type 0
NaturalSide r = IsNaturalSide r.side

abbrev NaturalStep : Stepped → Type 0
NaturalStep r = AllByRecursion IsNaturalBind r.binds

abbrev NaturalArms : Branched → Type 0
NaturalArms r = AreNaturalBranches r.branches

prepend_natural : (bs : List Bind) (t : Term) → AllByRecursion IsNaturalBind bs → IsNaturalTerm t → IsNaturalTerm (prepend bs t)
prepend_natural [] t h g = g
prepend_natural (b ∷ bs) t h g = (h.0, prepend_natural bs t h.1 g)

write_natural : (tb : Table) (h : Variable) (k : ConId) (xs : List Atom) → AreNaturalAtoms xs → IsNaturalTerm (write tb h k xs)
write_natural tb h k xs n = (fields_natural true (fields_at tb k.0) xs n, fields_natural false (fields_at tb k.0) xs n)

make_natural : (f : Bool) (tb : Table) (h : Around) (v : Passed) (k : ConId) (at : Mark) (xs : List Atom) → AreNaturalAtoms xs → Holds (make f tb h v k at xs) Natural
make_natural true tb h v k at xs n =
    aims_holds Natural h at (Ok (record { term = Then (Past (record { 0 = v.fresh }) k) (write tb (record { 0 = v.fresh }) k xs); passed = numbered_on 1 v })) (tt, write_natural tb (record { 0 = v.fresh }) k xs n)
make_natural false tb h v k at xs n =
    aims_holds Natural h at (if_due (is_open_at k h.destination) at.name.span.start (Ok (record { term = write tb (head_of h.destination) k xs; passed = v })))
    (due_holds Natural (is_open_at k h.destination) at.name.span.start (Ok (record { term = write tb (head_of h.destination) k xs; passed = v })) (write_natural tb (head_of h.destination) k xs n))

call_natural : (f : Bool) (h : Around) (v : Passed) (g : Ident) (xs : List Atom) (at : Option Mark) → AreNaturalAtoms xs → Holds (call f h v g xs at) Natural
call_natural true h v g xs None n = n
call_natural true h v g xs (Some m) n = tt
call_natural false h v g xs None n = tt
call_natural false h v g xs (Some m) n = aims_holds Natural h m (Ok (record { term = CallTerm g.name xs; passed = v })) n

place_natural : (tb : Table) (h : Around) (v : Passed) (l : Ident) (q : Location) → Holds (new_place tb h v l q) NaturalStep
place_natural tb h v l (Start r) = due_holds NaturalStep (is_region (meant h.places (number_of r))) r.span.start (Ok (named_too h v l (Building.AtStart (number_of r)))) tt
place_natural tb h v l (Plus d k) = due_holds NaturalStep (may_open tb h d (con tb k)) d.span.start (Ok (opened h v l (con tb k))) (tt, tt)
place_natural tb h v l (After x) = due_holds NaturalStep (is_last tb h.destination (Building.variable h x)) x.span.start (Ok (named_too h v l (Building.AtNext (Building.variable h x).0))) tt

sided_natural : (h : Around) (kind : Kind) (x : Ident) (n : ℕ) (t : Ty) (line : Placed Termed) → Holds line Natural → Holds (and_then line (λ r. Ok (sided h kind x n t r))) NaturalSide
sided_natural h kind x n t line g = then_holds Natural NaturalSide line (λ r. Ok (sided h kind x n t r)) g (λ r ok. (tt, ok))

put_natural : (line : Around → Passed → Placed Termed) (h : Around) (v : Passed) (x : Ident) (t : Ty) (at : Mark) (m : Option Building.Meant) (k : Option Kind) → Lines (λ v. Natural) line → Holds (put_at line h v x t at m k) NaturalSide
put_natural line h v x t at m None g = tt
put_natural line h v x t at m (Some kind) g =
    let w : Passed = record { fresh = v.fresh + 1; unused = used_too (place_meant m) v.unused } in
    sided_natural h kind x v.fresh t (line (inside h (place_meant m)) w) (g (inside h (place_meant m)) w)

bind_natural : (f : Bool) (tb : Table) (line : Around → Passed → Placed Termed) (h : Around) (v : Passed) (x : Ident) (w : TypeName) (t : Ty) (at : Option Mark) → Lines (λ v. Natural) line → Holds (bind f tb line h v x w t at) NaturalSide
bind_natural true tb line h v x w t at g = no_mark_holds NaturalSide at _ (sided_natural h Scalar x v.fresh t (line (inside_scalar h) (numbered_on 1 v)) (g (inside_scalar h) (numbered_on 1 v)))
bind_natural false tb line h v x w t at g = with_mark_holds NaturalSide at (type_start w) _ (λ m. put_natural line h v x t m (meant h.places (number_of m.name)) (kind_at (next_place tb h.destination) v.unused (meant h.places (number_of m.name))) g)

mutual
  build_natural : (p : Program) (t : Line) → Lines (λ v. Natural) (build p t)
  build_natural p (In s b rest) h v =
      then_holds NaturalStep Natural (build_binding p b h v) (λ r. and_then (build p rest r.around r.passed) (λ t. Ok (record t { term = prepend r.binds t.term }))) (binding_natural p b h v)
      (λ r ok. then_holds Natural Natural (build p rest r.around r.passed) (λ t. Ok (record t { term = prepend r.binds t.term })) (build_natural p rest r.around r.passed) (λ t more. prepend_natural r.binds t.term ok more))
  build_natural p (Given s x) h v = atom_natural h x
  build_natural p (Pointed s x at) h v = aims_holds Natural h at _ tt
  build_natural p (Called f xs at) h v = call_natural (gives_scalar p.functions p.table.types (number_of f)) h v f (map (atom h) xs) at (atoms_natural h xs)
  build_natural p (Made k at xs) h v = make_natural (is_flat p.table (con p.table k)) p.table h v (con p.table k) at (map (atom h) xs) (atoms_natural h xs)
  build_natural p (Cased s x arms) h v = then_holds NaturalArms Natural (build_arms p arms h v) _ (arms_natural p arms h v) (λ r ok. (tt, ok))
  build_natural p (Chosen s x t u) h v =
      then_holds Natural Natural (build p t h v) _ (build_natural p t h v)
      (λ r ok. then_holds Natural Natural (build p u h r.passed) _ (build_natural p u h r.passed) (λ q more. (atom_natural h x, (ok, more))))

  binding_natural : (p : Program) (b : Binding) (h : Around) (v : Passed) → Holds (build_binding p b h v) NaturalStep
  binding_natural p (NewRegion r) h v = tt
  binding_natural p (NewPlace l q) h v = place_natural p.table h v l q
  binding_natural p (LetIn (Be x w at t)) h v = then_holds NaturalSide NaturalStep (build_bound p (Be x w at t) h v) _ (bound_natural p (Be x w at t) h v) (λ s ok. (ok, tt))
  binding_natural p (ParIn (Be x w at t) m (Be y z on u)) h v =
      then_holds NaturalSide NaturalStep (build_bound p (Be x w at t) h v) _ (bound_natural p (Be x w at t) h v)
      (λ l ok. then_holds (λ g. Unit {0}) NaturalStep (between p.table h x v.fresh l.destination m) _ (any (between p.table h x v.fresh l.destination m))
      (λ g any. then_holds NaturalSide NaturalStep (build_bound p (Be y z on u) g l.passed) _ (bound_natural p (Be y z on u) g l.passed)
      (λ r more. ((tt, (ok, more)), tt))))
  binding_natural p (PrimIn x w y f z) h v = ((atom_natural h y, atom_natural h z), tt)
  binding_natural p (ReachIn y way) h v = (tt, tt)

  bound_natural : (p : Program) (b : Bound) (h : Around) (v : Passed) → Holds (build_bound p b h v) NaturalSide
  bound_natural p (Be x w at t) h v = bind_natural (is_scalar (type_of_name p.table.types w)) p.table (build p t) h v x w (type_of_name p.table.types w) at (build_natural p t)

  arms_natural : (p : Program) (arms : Arms) (h : Around) (v : Passed) → Holds (build_arms p arms h v) NaturalArms
  arms_natural p (LastArm k xs t) h v =
      let g : Around = record h { variables = with_variables v.fresh xs h.variables } in
      then_holds Natural NaturalArms (build p t g (numbered_on (length xs) v)) _ (build_natural p t g (numbered_on (length xs) v)) (λ r ok. (tt, (ok, tt)))
  arms_natural p (NextArm k xs t arms) h v =
      let g : Around = record h { variables = with_variables v.fresh xs h.variables } in
      then_holds Natural NaturalArms (build p t g (numbered_on (length xs) v)) _ (build_natural p t g (numbered_on (length xs) v))
      (λ r ok. then_holds NaturalArms NaturalArms (build_arms p arms h r.passed) _ (arms_natural p arms h r.passed) (λ q more. (tt, (ok, more))))

body_natural : (f : Bool) (p : Program) (qs : List Parameter) (w : TypeName) (t : Ty) (at : Option Mark) (line : Line) → Holds (body f p qs w t at line) Natural
body_natural true p qs w t at line = no_mark_holds Natural at _ (build_natural p line (opening qs [] t) (record { fresh = length qs; unused = [] }))
body_natural false p qs w t at line = with_mark_holds Natural at (type_start w) _ (λ m. build_natural p line _ (record { fresh = length qs; unused = [] }))

abbrev body_of : FunctionTerm → Body
body_of f = record { parameters = f.parameters; result = f.result; term = f.body }

abbrev AllNatural : List FunctionTerm → Type 0
AllNatural gs = AllByRecursion (λ (b : Body). IsNaturalTerm b.term) (map body_of gs)

functions_natural : (p : Program) (fs : List FunctionText) → Holds (build_functions p fs) AllNatural
functions_natural p [] = tt
functions_natural p (f ∷ fs) =
    then_holds Natural AllNatural (build_body p f.parameters f.result f.place f.body) _
    (body_natural (is_scalar (type_of_name p.table.types f.result)) p f.parameters f.result (type_of_name p.table.types f.result) f.place f.body)
    (λ r ok. then_holds AllNatural AllNatural (build_functions p fs) _ (functions_natural p fs) (λ rest more. (ok, more)))

all_join : (xs : List Body) (b : Body) → AllByRecursion (λ (b : Body). IsNaturalTerm b.term) xs → IsNaturalTerm b.term → AllByRecursion (λ (b : Body). IsNaturalTerm b.term) (xs ++ b ∷ [])
all_join [] b h g = (g, tt)
all_join (x ∷ xs) b h g = (h.0, all_join xs b h.1 g)

core_natural : (t : LocalTree) → Holds (build_core t) AreNatural
unfolding build_core
core_natural t =
    then_holds AllNatural AreNatural (build_functions (program t) t.functions) _ (functions_natural (program t) t.functions)
    (λ fs ok. then_holds Natural AreNatural (build_body (program t) (t.main.parameter ∷ []) t.main.result t.main.place t.main.body) _
    (body_natural (is_scalar (type_of_name (program t).table.types t.main.result)) (program t) (t.main.parameter ∷ []) t.main.result (type_of_name (program t).table.types t.main.result) t.main.place t.main.body)
    (λ r more. all_join (map body_of fs) (record { parameters = type_of_name (program t).table.types t.main.parameter.ty ∷ []; result = results.One (type_of_name (program t).table.types t.main.result); term = r.term }) ok more))

-- A core that is made of a text has no negative literal.
pub made_natural : (t : LocalTree) (core : CoreTree) → build_core t ≡ Ok core → AreNatural core
made_natural t core e = holds_of AreNatural (build_core t) core e (core_natural t)
