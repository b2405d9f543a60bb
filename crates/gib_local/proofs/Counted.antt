-- Each text makes as many terms as are counted.
use Rattle.std.proofs.Common.{◌≡◌, ℕ, suc, ◌+◌, Bool, true, false, List, [], ◌∷◌, map, length, length-append, Option, Some, None, Ok, refl, ap, arith}
use Rattle.gib_types.specs.declared.table.Ty.{Ty}
use Rattle.gib_types.specs.declared.table.ConId.{ConId}
use Rattle.gib_types.specs.Table.{Table, is_scalar}
use Rattle.gib_syntax.specs.declared.tree.Ident.{Ident}
use Rattle.gib_syntax.specs.declared.tree.TypeName.{TypeName}
use Rattle.gib_syntax.specs.Declarations.{number_of, type_of_name}
use Rattle.gib_core.specs.declared.atom.Atom.{Atom}
use Rattle.gib_core.specs.declared.atom.Kind.{Kind}
use Rattle.gib_core.specs.declared.atom.Kind.TheVariants.{Scalar}
use Rattle.gib_core.specs.Tree.{Term, Then, CallTerm, Bind, Past, prepend}
use Rattle.gib_core.specs.Met.{Setting, met, met_bind, met_side, met_branches, behind, in_side, in_arm, in_branch, left_of, right_of}
use Rattle.gib_core.proofs.Along.{behind_all}
use Rattle.gib_local_parse.specs.Tree.{Line, In, Given, Pointed, Called, Made, Cased, Chosen, Binding, NewRegion, NewPlace, LetIn, ParIn, PrimIn, ReachIn, Bound, Be, Arms, LastArm, NextArm}
use Rattle.gib_local_parse.specs.declared.tree.Mark.{Mark}
use Rattle.gib_local_parse.specs.declared.tree.Location.{Location}
use Rattle.gib_local_parse.specs.declared.tree.Location.TheVariants.{Start, Plus, After}
use Rattle.gib_local.specs.Building
use Rattle.gib_local.specs.Building.{Placed, Around, Passed, Termed, Branched, Stepped, Sided, Program, and_then, if_due, meant, kind_at, next_place, place_meant, used_too, inside, inside_scalar, sided, put_at, bind, make, write, call, new_place, between, con, atom, is_flat, is_region, is_open_at, is_last, may_open, named_too, opened, head_of, gives_scalar, type_start, numbered_on, with_variables, build, build_binding, build_bound, build_arms}
use Rattle.gib_local.specs.Counting.{terms, binding_terms, bound_terms, arms_terms, location_terms, made_terms}
use Rattle.gib_local.proofs.Holding.{Holds, any, holds_of, then_holds, due_holds, aims_holds, no_mark_holds, with_mark_holds}

-- Lines of bindings.
abbrev met_binds : Table → Setting → List Bind → ℕ
met_binds tb s [] = 0
met_binds tb s (b ∷ bs) = length (met_bind tb s b) + met_binds tb (behind s b) bs

prepend_count : (tb : Table) (s : Setting) (bs : List Bind) (t : Term) → length (met tb s (prepend bs t)) ≡ met_binds tb s bs + length (met tb (behind_all s bs) t)
prepend_count tb s [] t = omega arith
prepend_count tb s (b ∷ bs) t =
    let e = prepend_count tb (behind s b) bs t in
    let f = length-append (met_bind tb s b) (met tb (behind s b) (prepend bs t)) in
    omega (arith, e, f)

module _ (p : Program) where
  abbrev Counts : ℕ → Termed → Type 0
  Counts n r = (s : Setting) → length (met p.table s r.term) ≡ n

  abbrev SideCounts : ℕ → Sided → Type 0
  SideCounts n r = (s : Setting) → length (met_side p.table s r.side) ≡ n

  abbrev StepCounts : ℕ → Stepped → Type 0
  StepCounts n r = (s : Setting) → met_binds p.table s r.binds ≡ n

  abbrev ArmCounts : ℕ → Branched → Type 0
  ArmCounts n r = (s : Setting) → length (met_branches p.table s r.branches) ≡ n

  make_counts : (f : Bool) (h : Around) (v : Passed) (k : ConId) (at : Mark) (xs : List Atom) → Holds (make f p.table h v k at xs) (Counts (made_terms f))
  make_counts true h v k at xs =
      aims_holds (Counts 2) h at (Ok (record { term = Then (Past (record { 0 = v.fresh }) k) (write p.table (record { 0 = v.fresh }) k xs); passed = numbered_on 1 v })) (λ s. refl)
  make_counts false h v k at xs =
      aims_holds (Counts 1) h at (if_due (is_open_at k h.destination) at.name.span.start (Ok (record { term = write p.table (head_of h.destination) k xs; passed = v })))
      (due_holds (Counts 1) (is_open_at k h.destination) at.name.span.start (Ok (record { term = write p.table (head_of h.destination) k xs; passed = v })) (λ s. refl))

  call_counts : (f : Bool) (h : Around) (v : Passed) (g : Ident) (xs : List Atom) (at : Option Mark) → Holds (call f h v g xs at) (Counts 1)
  call_counts true h v g xs None = λ s. refl
  call_counts true h v g xs (Some m) = tt
  call_counts false h v g xs None = tt
  call_counts false h v g xs (Some m) = aims_holds (Counts 1) h m (Ok (record { term = CallTerm g.name xs; passed = v })) (λ s. refl)

  place_counts : (h : Around) (v : Passed) (l : Ident) (q : Location) → Holds (new_place p.table h v l q) (StepCounts (location_terms q))
  place_counts h v l (Start r) = due_holds (StepCounts 0) (is_region (meant h.places (number_of r))) r.span.start (Ok (named_too h v l (Building.AtStart (number_of r)))) (λ s. refl)
  place_counts h v l (Plus d k) = due_holds (StepCounts 1) (may_open p.table h d (con p.table k)) d.span.start (Ok (opened h v l (con p.table k))) (λ s. refl)
  place_counts h v l (After x) = due_holds (StepCounts 0) (is_last p.table h.destination (Building.variable h x)) x.span.start (Ok (named_too h v l (Building.AtNext (Building.variable h x).0))) (λ s. refl)

  abbrev Lines : ℕ → (Around → Passed → Placed Termed) → Type 0
  Lines n line = (h : Around) (v : Passed) → Holds (line h v) (Counts n)

  sided_counts : (n : ℕ) (h : Around) (kind : Kind) (x : Ident) (m : ℕ) (t : Ty) (line : Placed Termed) → Holds line (Counts n) → Holds (and_then line (λ r. Ok (sided h kind x m t r))) (SideCounts (suc n))
  sided_counts n h kind x m t line g = then_holds (Counts n) (SideCounts (suc n)) line (λ r. Ok (sided h kind x m t r)) g (λ r ok s. ap suc (ok (in_side p.table s kind t)))

  put_counts : (n : ℕ) (line : Around → Passed → Placed Termed) (h : Around) (v : Passed) (x : Ident) (t : Ty) (at : Mark) (m : Option Building.Meant) (k : Option Kind) → Lines n line → Holds (put_at line h v x t at m k) (SideCounts (suc n))
  put_counts n line h v x t at m None g = tt
  put_counts n line h v x t at m (Some kind) g =
      let w : Passed = record { fresh = v.fresh + 1; unused = used_too (place_meant m) v.unused } in
      sided_counts n h kind x v.fresh t (line (inside h (place_meant m)) w) (g (inside h (place_meant m)) w)

  bind_counts : (n : ℕ) (f : Bool) (line : Around → Passed → Placed Termed) (h : Around) (v : Passed) (x : Ident) (w : TypeName) (t : Ty) (at : Option Mark) → Lines n line → Holds (bind f p.table line h v x w t at) (SideCounts (suc n))
  bind_counts n true line h v x w t at g = no_mark_holds (SideCounts (suc n)) at _ (sided_counts n h Scalar x v.fresh t (line (inside_scalar h) (numbered_on 1 v)) (g (inside_scalar h) (numbered_on 1 v)))
  bind_counts n false line h v x w t at g =
      with_mark_holds (SideCounts (suc n)) at (type_start w) _ (λ m. put_counts n line h v x t m (meant h.places (number_of m.name)) (kind_at (next_place p.table h.destination) v.unused (meant h.places (number_of m.name))) g)

  mutual
    pub build_counts : (t : Line) → Lines (terms p t) (build p t)
    build_counts (In s b rest) h v =
        let n = binding_terms p b in
        let m = terms p rest in
        then_holds (StepCounts n) (Counts (n + m)) (build_binding p b h v) (λ r. and_then (build p rest r.around r.passed) (λ t. Ok (record t { term = prepend r.binds t.term }))) (binding_counts b h v)
        (λ r ok. then_holds (Counts m) (Counts (n + m)) (build p rest r.around r.passed) (λ t. Ok (record t { term = prepend r.binds t.term })) (build_counts rest r.around r.passed)
        (λ t more s. (let e = prepend_count p.table s r.binds t.term in let f = ok s in let g = more (behind_all s r.binds) in omega (arith, e, f, g))))
    build_counts (Given s x) h v = λ s. refl
    build_counts (Pointed s x at) h v = aims_holds (Counts 1) h at _ (λ s. refl)
    build_counts (Called f xs at) h v = call_counts (gives_scalar p.functions p.table.types (number_of f)) h v f (map (atom h) xs) at
    build_counts (Made k at xs) h v = make_counts (is_flat p.table (con p.table k)) h v (con p.table k) at (map (atom h) xs)
    build_counts (Cased c x arms) h v = then_holds (ArmCounts (arms_terms p arms)) (Counts (suc (arms_terms p arms))) (build_arms p arms h v) _ (arms_count arms h v) (λ r ok s. ap suc (ok s))
    build_counts (Chosen c x t u) h v =
        let n = terms p t in
        let m = terms p u in
        then_holds (Counts n) (Counts (suc (n + m))) (build p t h v) _ (build_counts t h v)
        (λ r ok. then_holds (Counts m) (Counts (suc (n + m))) (build p u h r.passed) _ (build_counts u h r.passed)
        (λ q more s. (let e = length-append (met p.table (in_branch s) r.term) (met p.table (in_branch s) q.term) in let f = ok (in_branch s) in let g = more (in_branch s) in omega (arith, e, f, g))))

    binding_counts : (b : Binding) (h : Around) (v : Passed) → Holds (build_binding p b h v) (StepCounts (binding_terms p b))
    binding_counts (NewRegion r) h v = λ s. refl
    binding_counts (NewPlace l q) h v = place_counts h v l q
    binding_counts (LetIn (Be x w at t)) h v =
        let n = bound_terms p (Be x w at t) in
        then_holds (SideCounts n) (StepCounts n) (build_bound p (Be x w at t) h v) _ (bound_counts (Be x w at t) h v) (λ r ok s. (let e = ok s in omega (arith, e)))
    binding_counts (ParIn (Be x w at t) m (Be y z on u)) h v =
        let a = bound_terms p (Be x w at t) in
        let b = bound_terms p (Be y z on u) in
        then_holds (SideCounts a) (StepCounts (suc (a + b))) (build_bound p (Be x w at t) h v) _ (bound_counts (Be x w at t) h v)
        (λ l ok. then_holds (λ g. Unit {0}) (StepCounts (suc (a + b))) (between p.table h x v.fresh l.destination m) _ (any (between p.table h x v.fresh l.destination m))
        (λ g any. then_holds (SideCounts b) (StepCounts (suc (a + b))) (build_bound p (Be y z on u) g l.passed) _ (bound_counts (Be y z on u) g l.passed)
        (λ r more s.
        (let e = length-append (met_side p.table (left_of s r.side) l.side) (met_side p.table (right_of s l.side) r.side) in
        let f = ok (left_of s r.side) in
        let k = more (right_of s l.side) in
        omega (arith, e, f, k)))))
    binding_counts (PrimIn x w y f z) h v = λ s. refl
    binding_counts (ReachIn y way) h v = λ s. refl

    bound_counts : (b : Bound) (h : Around) (v : Passed) → Holds (build_bound p b h v) (SideCounts (bound_terms p b))
    bound_counts (Be x w at t) h v = bind_counts (terms p t) (is_scalar (type_of_name p.table.types w)) (build p t) h v x w (type_of_name p.table.types w) at (build_counts t)

    arms_count : (arms : Arms) (h : Around) (v : Passed) → Holds (build_arms p arms h v) (ArmCounts (arms_terms p arms))
    arms_count (LastArm k xs t) h v =
        let g : Around = record h { variables = with_variables v.fresh xs h.variables } in
        then_holds (Counts (terms p t)) (ArmCounts (terms p t)) (build p t g (numbered_on (length xs) v)) _ (build_counts t g (numbered_on (length xs) v))
        (λ r ok s.
        (let q = in_arm p.table s (con p.table k) (Rattle.gib_core.specs.Tree.variables_from v.fresh xs) in
        let e = length-append (met p.table q r.term) [] in
        let f = ok q in
        omega (arith, e, f)))
    arms_count (NextArm k xs t arms) h v =
        let g : Around = record h { variables = with_variables v.fresh xs h.variables } in
        let n = terms p t in
        let m = arms_terms p arms in
        then_holds (Counts n) (ArmCounts (n + m)) (build p t g (numbered_on (length xs) v)) _ (build_counts t g (numbered_on (length xs) v))
        (λ r ok. then_holds (ArmCounts m) (ArmCounts (n + m)) (build_arms p arms h r.passed) _ (arms_count arms h r.passed)
        (λ o more s.
        (let q = in_arm p.table s (con p.table k) (Rattle.gib_core.specs.Tree.variables_from v.fresh xs) in
        let e = length-append (met p.table q r.term) (met_branches p.table s o.branches) in
        let f = ok q in
        let k = more s in
        omega (arith, e, f, k))))

pub line_counts : (p : Program) (t : Line) (h : Around) (v : Passed) (r : Termed) (s : Setting) → build p t h v ≡ Ok r → length (met p.table s r.term) ≡ terms p t
line_counts p t h v r s e = holds_of (Counts p (terms p t)) (build p t h v) r e (build_counts p t h v) s
