-- What is made is numbered in the order of the text.
use Rattle.std.proofs.Common.{◌≡◌, ℕ, suc, ◌+◌, Bool, true, false, List, [], ◌∷◌, ◌++◌, map, length, Option, Some, None, Ok, refl, sym, ap, ◌∙◌, subst, arith, append_assoc}
use Rattle.std.specs.List.{AllByRecursion}
use Rattle.gib_types.specs.declared.table.Ty.{Ty}
use Rattle.gib_types.specs.Table.{Table, is_scalar, numbers_from}
use Rattle.gib_types.specs.declared.table.ConId.{ConId}
use Rattle.gib_syntax.specs.declared.tree.Ident.{Ident}
use Rattle.gib_syntax.specs.declared.tree.TypeName.{TypeName}
use Rattle.gib_syntax.specs.declared.tree.Parameter.{Parameter}
use Rattle.gib_syntax.specs.Declarations.{number_of, type_of_name}
use Rattle.gib_syntax.specs.Results as results
use Rattle.gib_syntax.specs.Results.{Results}
use Rattle.gib_core.specs.declared.atom.Variable.{Variable}
use Rattle.gib_core.specs.declared.atom.Atom.{Atom}
use Rattle.gib_core.specs.declared.atom.Kind.{Kind}
use Rattle.gib_core.specs.declared.atom.Kind.TheVariants.{Scalar}
use Rattle.gib_core.specs.Tree.{Term, Then, Bind, Past, One, prepend, variables_from, FunctionTerm, CoreTree}
use Rattle.gib_core.specs.Met.{Body}
use Rattle.gib_core.specs.Numbering.{binders, bind_binders, side_binders, branch_binders, IsNumbered, AreNumbered}
use Rattle.gib_core.proofs.Runs.{Runs, runs_append, runs_numbers}
use Rattle.gib_local_parse.specs.Tree.{Line, In, Given, Pointed, Called, Made, Cased, Chosen, Binding, NewRegion, NewPlace, LetIn, ParIn, PrimIn, ReachIn, Bound, Be, Arms, LastArm, NextArm, FunctionText, LocalTree}
use Rattle.gib_local_parse.specs.declared.tree.Mark.{Mark}
use Rattle.gib_local_parse.specs.declared.tree.Location.{Location}
use Rattle.gib_local_parse.specs.declared.tree.Location.TheVariants.{Start, Plus, After}
use Rattle.gib_local.specs.Building
use Rattle.gib_local.specs.Building.{Placed, Around, Passed, Termed, Branched, Stepped, Sided, Program, and_then, if_due, meant, kind_at, next_place, place_meant, used_too, inside, inside_scalar, sided, put_at, bind, make, write, call, new_place, between, con, atom, variable, is_flat, is_region, is_open_at, is_last, may_open, named_too, opened, head_of, gives_scalar, type_start, numbered_on, with_variables, build, build_binding, build_bound, build_arms, build_body, body, opening, build_functions, build_core, program}
use Rattle.gib_local.proofs.Holding.{Holds, Lines, any, then_holds, due_holds, aims_holds, no_mark_holds, with_mark_holds, holds_of}

runs_one : (n : ℕ) → Runs n (n ∷ []) (n + 1)
runs_one n = (refl, refl)

fields_run : (n : ℕ) (xs : List Ident) → Runs n (map (λ (x : Variable). x.0) (variables_from n xs)) (n + length xs)
fields_run n [] = omega arith
fields_run n (x ∷ xs) = (refl, (let e : n + 1 + length xs ≡ n + suc (length xs) = omega arith in subst (λ k. Runs (n + 1) (map (λ (x : Variable). x.0) (variables_from (n + 1) xs)) k) e (fields_run (n + 1) xs)))

-- The numbers of bindings.
abbrev binds_binders : List Bind → List ℕ
binds_binders [] = []
binds_binders (b ∷ bs) = bind_binders b ++ binds_binders bs

prepend_binders : (bs : List Bind) (t : Term) → binders (prepend bs t) ≡ binds_binders bs ++ binders t
prepend_binders [] t = refl
prepend_binders (b ∷ bs) t = ap (λ l. bind_binders b ++ l) (prepend_binders bs t) ∙ sym (append_assoc (bind_binders b) (binds_binders bs) (binders t))

abbrev Termwise : Passed → Termed → Type 0
Termwise v r = Runs v.fresh (binders r.term) r.passed.fresh

abbrev Sidewise : Passed → Sided → Type 0
Sidewise v r = Runs v.fresh (side_binders r.side) r.passed.fresh

abbrev Stepwise : Passed → Stepped → Type 0
Stepwise v r = Runs v.fresh (binds_binders r.binds) r.passed.fresh

abbrev Armwise : Passed → Branched → Type 0
Armwise v r = Runs v.fresh (branch_binders r.branches) r.passed.fresh

make_runs : (f : Bool) (tb : Table) (h : Around) (v : Passed) (k : ConId) (at : Mark) (xs : List Atom) → Holds (make f tb h v k at xs) (Termwise v)
make_runs true tb h v k at xs = aims_holds (Termwise v) h at (Ok (record { term = Then (Past (record { 0 = v.fresh }) k) (write tb (record { 0 = v.fresh }) k xs); passed = numbered_on 1 v })) (runs_one v.fresh)
make_runs false tb h v k at xs =
    aims_holds (Termwise v) h at (if_due (is_open_at k h.destination) at.name.span.start (Ok (record { term = write tb (head_of h.destination) k xs; passed = v })))
    (due_holds (Termwise v) (is_open_at k h.destination) at.name.span.start (Ok (record { term = write tb (head_of h.destination) k xs; passed = v })) refl)

call_runs : (f : Bool) (h : Around) (v : Passed) (g : Ident) (xs : List Atom) (at : Option Mark) → Holds (call f h v g xs at) (Termwise v)
call_runs true h v g xs None = refl
call_runs true h v g xs (Some m) = tt
call_runs false h v g xs None = tt
call_runs false h v g xs (Some m) = aims_holds (Termwise v) h m (Ok (record { term = Rattle.gib_core.specs.Tree.CallTerm g.name xs; passed = v })) refl

place_runs : (tb : Table) (h : Around) (v : Passed) (l : Ident) (q : Location) → Holds (new_place tb h v l q) (Stepwise v)
place_runs tb h v l (Start r) = due_holds (Stepwise v) (is_region (meant h.places (number_of r))) r.span.start (Ok (named_too h v l (Building.AtStart (number_of r)))) refl
place_runs tb h v l (Plus d k) = due_holds (Stepwise v) (may_open tb h d (con tb k)) d.span.start (Ok (opened h v l (con tb k))) (runs_one v.fresh)
place_runs tb h v l (After x) = due_holds (Stepwise v) (is_last tb h.destination (variable h x)) x.span.start (Ok (named_too h v l (Building.AtNext (variable h x).0))) refl

sided_runs : (h : Around) (kind : Kind) (x : Ident) (t : Ty) (v : Passed) (w : Passed) (line : Placed Termed) → w.fresh ≡ v.fresh + 1 → Holds line (Termwise w)
    → Holds (and_then line (λ r. Ok (sided h kind x v.fresh t r))) (Sidewise v)
sided_runs h kind x t v w line e g =
    then_holds (Termwise w) (Sidewise v) line (λ r. Ok (sided h kind x v.fresh t r)) g
    (λ r ok. (refl, subst (λ k. Runs k (binders r.term) r.passed.fresh) e ok))

put_runs : (line : Around → Passed → Placed Termed) (h : Around) (v : Passed) (x : Ident) (t : Ty) (at : Mark) (m : Option Building.Meant) (k : Option Kind) → Lines Termwise line → Holds (put_at line h v x t at m k) (Sidewise v)
put_runs line h v x t at m None g = tt
put_runs line h v x t at m (Some kind) g =
    let w : Passed = record { fresh = v.fresh + 1; unused = used_too (place_meant m) v.unused } in
    sided_runs h kind x t v w (line (inside h (place_meant m)) w) refl (g (inside h (place_meant m)) w)

bind_runs : (f : Bool) (tb : Table) (line : Around → Passed → Placed Termed) (h : Around) (v : Passed) (x : Ident) (w : TypeName) (t : Ty) (at : Option Mark) → Lines Termwise line → Holds (bind f tb line h v x w t at) (Sidewise v)
bind_runs true tb line h v x w t at g = no_mark_holds (Sidewise v) at _ (sided_runs h Scalar x t v (numbered_on 1 v) (line (inside_scalar h) (numbered_on 1 v)) refl (g (inside_scalar h) (numbered_on 1 v)))
bind_runs false tb line h v x w t at g = with_mark_holds (Sidewise v) at (type_start w) _ (λ m. put_runs line h v x t m (meant h.places (number_of m.name)) (kind_at (next_place tb h.destination) v.unused (meant h.places (number_of m.name))) g)

mutual
  build_runs : (p : Program) (t : Line) → Lines Termwise (build p t)
  build_runs p (In s b rest) h v =
      then_holds (Stepwise v) (Termwise v) (build_binding p b h v) (λ r. and_then (build p rest r.around r.passed) (λ t. Ok (record t { term = prepend r.binds t.term }))) (binding_runs p b h v)
      (λ r ok. then_holds (Termwise r.passed) (Termwise v) (build p rest r.around r.passed) (λ t. Ok (record t { term = prepend r.binds t.term })) (build_runs p rest r.around r.passed)
      (λ t more. subst (λ l. Runs v.fresh l t.passed.fresh) (sym (prepend_binders r.binds t.term)) (runs_append v.fresh r.passed.fresh t.passed.fresh (binds_binders r.binds) (binders t.term) ok more)))
  build_runs p (Given s x) h v = refl
  build_runs p (Pointed s x at) h v = aims_holds (Termwise v) h at _ refl
  build_runs p (Called f xs at) h v = call_runs (gives_scalar p.functions p.table.types (number_of f)) h v f (map (atom h) xs) at
  build_runs p (Made k at xs) h v = make_runs (is_flat p.table (con p.table k)) p.table h v (con p.table k) at (map (atom h) xs)
  build_runs p (Cased s x arms) h v = then_holds (Armwise v) (Termwise v) (build_arms p arms h v) _ (arms_run p arms h v) (λ r ok. ok)
  build_runs p (Chosen s x t u) h v =
      then_holds (Termwise v) (Termwise v) (build p t h v) _ (build_runs p t h v)
      (λ r ok. then_holds (Termwise r.passed) (Termwise v) (build p u h r.passed) _ (build_runs p u h r.passed)
      (λ q more. runs_append v.fresh r.passed.fresh q.passed.fresh (binders r.term) (binders q.term) ok more))

  binding_runs : (p : Program) (b : Binding) (h : Around) (v : Passed) → Holds (build_binding p b h v) (Stepwise v)
  binding_runs p (NewRegion r) h v = refl
  binding_runs p (NewPlace l q) h v = place_runs p.table h v l q
  binding_runs p (LetIn (Be x w at t)) h v =
      then_holds (Sidewise v) (Stepwise v) (build_bound p (Be x w at t) h v) _ (bound_runs p (Be x w at t) h v)
      (λ s ok. runs_append v.fresh s.passed.fresh s.passed.fresh (side_binders s.side) [] ok refl)
  binding_runs p (ParIn (Be x w at t) m (Be y z on u)) h v =
      then_holds (Sidewise v) (Stepwise v) (build_bound p (Be x w at t) h v) _ (bound_runs p (Be x w at t) h v)
      (λ l ok. then_holds (λ g. Unit {0}) (Stepwise v) (between p.table h x v.fresh l.destination m) _ (any (between p.table h x v.fresh l.destination m))
      (λ g any. then_holds (Sidewise l.passed) (Stepwise v) (build_bound p (Be y z on u) g l.passed) _ (bound_runs p (Be y z on u) g l.passed)
      (λ r more. runs_append v.fresh r.passed.fresh r.passed.fresh (side_binders l.side ++ side_binders r.side) [] (runs_append v.fresh l.passed.fresh r.passed.fresh (side_binders l.side) (side_binders r.side) ok more) refl)))
  binding_runs p (PrimIn x w y f z) h v = runs_one v.fresh
  binding_runs p (ReachIn y way) h v = refl

  bound_runs : (p : Program) (b : Bound) (h : Around) (v : Passed) → Holds (build_bound p b h v) (Sidewise v)
  bound_runs p (Be x w at t) h v = bind_runs (is_scalar (type_of_name p.table.types w)) p.table (build p t) h v x w (type_of_name p.table.types w) at (build_runs p t)

  arms_run : (p : Program) (arms : Arms) (h : Around) (v : Passed) → Holds (build_arms p arms h v) (Armwise v)
  arms_run p (LastArm k xs t) h v =
      let g : Around = record h { variables = with_variables v.fresh xs h.variables } in
      let w : Passed = numbered_on (length xs) v in
      let fields : List ℕ = map (λ (x : Variable). x.0) (variables_from v.fresh xs) in
      then_holds (Termwise w) (Armwise v) (build p t g w) _ (build_runs p t g w)
      (λ r ok. runs_append v.fresh w.fresh r.passed.fresh fields (binders r.term ++ []) (fields_run v.fresh xs) (runs_append w.fresh r.passed.fresh r.passed.fresh (binders r.term) [] ok refl))
  arms_run p (NextArm k xs t arms) h v =
      let g : Around = record h { variables = with_variables v.fresh xs h.variables } in
      let w : Passed = numbered_on (length xs) v in
      let fields : List ℕ = map (λ (x : Variable). x.0) (variables_from v.fresh xs) in
      then_holds (Termwise w) (Armwise v) (build p t g w) _ (build_runs p t g w)
      (λ r ok. then_holds (Armwise r.passed) (Armwise v) (build_arms p arms h r.passed) _ (arms_run p arms h r.passed)
      (λ q more. runs_append v.fresh w.fresh q.passed.fresh fields (binders r.term ++ branch_binders q.branches) (fields_run v.fresh xs)
      (runs_append w.fresh r.passed.fresh q.passed.fresh (binders r.term) (branch_binders q.branches) ok more)))

-- A body behind its parameters.

body_runs : (f : Bool) (p : Program) (qs : List Parameter) (w : TypeName) (t : Ty) (at : Option Mark) (line : Line)
    → Holds (body f p qs w t at line) (λ r. Runs (length qs) (binders r.term) r.passed.fresh)
body_runs true p qs w t at line = no_mark_holds (λ r. Runs (length qs) (binders r.term) r.passed.fresh) at _ (build_runs p line (opening qs [] t) (record { fresh = length qs; unused = [] }))
body_runs false p qs w t at line =
    with_mark_holds (λ r. Runs (length qs) (binders r.term) r.passed.fresh) at (type_start w) _ (λ m. build_runs p line _ (record { fresh = length qs; unused = [] }))

length_map : {A B : Type 0} (f : A → B) (xs : List A) → length (map f xs) ≡ length xs
length_map f [] = refl
length_map f (x ∷ xs) = ap suc (length_map f xs)

numbered : (types : List ℕ) (qs : List Parameter) (result : Results Ty) (t : Term) (m : ℕ) → Runs (length qs) (binders t) m
    → IsNumbered (record { parameters = Building.types_of types qs; result = result; term = t })
numbered types qs result t m h = runs_numbers (length qs) m (binders t) h ∙ ap (λ k. numbers_from k (length (binders t))) (sym (length_map (λ (q : Parameter). type_of_name types q.ty) qs))

-- The body of a function.
abbrev body_of : FunctionTerm → Body
body_of f = record { parameters = f.parameters; result = f.result; term = f.body }

functions_numbered : (p : Program) (fs : List FunctionText) → Holds (build_functions p fs) (λ gs. AllByRecursion IsNumbered (map body_of gs))
functions_numbered p [] = tt
functions_numbered p (f ∷ fs) =
    then_holds (λ r. Runs (length f.parameters) (binders r.term) r.passed.fresh) (λ gs. AllByRecursion IsNumbered (map body_of gs)) (build_body p f.parameters f.result f.place f.body) _
    (body_runs (is_scalar (type_of_name p.table.types f.result)) p f.parameters f.result (type_of_name p.table.types f.result) f.place f.body)
    (λ r ok. then_holds (λ gs. AllByRecursion IsNumbered (map body_of gs)) (λ gs. AllByRecursion IsNumbered (map body_of gs)) (build_functions p fs) _ (functions_numbered p fs)
    (λ rest more. (numbered p.table.types f.parameters (results.One (type_of_name p.table.types f.result)) r.term r.passed.fresh ok, more)))

all_join : (xs : List Body) (b : Body) → AllByRecursion IsNumbered xs → IsNumbered b → AllByRecursion IsNumbered (xs ++ b ∷ [])
all_join [] b h g = (g, tt)
all_join (x ∷ xs) b h g = (h.0, all_join xs b h.1 g)

core_numbered : (t : LocalTree) → Holds (build_core t) AreNumbered
unfolding build_core
core_numbered t =
    then_holds (λ gs. AllByRecursion IsNumbered (map body_of gs)) (AreNumbered) (build_functions (program t) t.functions) _ (functions_numbered (program t) t.functions)
    (λ fs ok. then_holds (λ r. Runs 1 (binders r.term) r.passed.fresh) (AreNumbered) (build_body (program t) (t.main.parameter ∷ []) t.main.result t.main.place t.main.body) _
    (body_runs (is_scalar (type_of_name (program t).table.types t.main.result)) (program t) (t.main.parameter ∷ []) t.main.result (type_of_name (program t).table.types t.main.result) t.main.place t.main.body)
    (λ r more. all_join (map body_of fs) (record { parameters = type_of_name (program t).table.types t.main.parameter.ty ∷ []; result = results.One (type_of_name (program t).table.types t.main.result); term = r.term }) ok
    (runs_numbers 1 r.passed.fresh (binders r.term) more)))

-- A core that is made of a text is numbered in the order of the text.
pub made_numbered : (t : LocalTree) (core : CoreTree) → build_core t ≡ Ok core → AreNumbered core
made_numbered t core e = holds_of (AreNumbered) (build_core t) core e (core_numbered t)
