-- Sides, choices and branches of the builder, in the words of the rules.
use Rattle.std.proofs.Common.{◌≡◌, ℕ, ◌+◌, ◌-◌, ◌<◌, true, false, List, [], ◌∷◌, ◌++◌, length, drop, Option, Some, None, Ok, refl, sym, ap, ap₂, ◌∙◌, subst, arith, append_assoc}
use Rattle.std.specs.Prelude.{Result}
use Rattle.std.specs.Global.{Vec}
use Rattle.gib_types.specs.Table.{Table}
use Rattle.gib_types.specs.declared.table.ConId.{ConId}
use Rattle.gib_types.specs.declared.table.Ty.{Ty}
use Rattle.gib_syntax.specs.declared.tree.Ident.{Ident}
use Rattle.gib_syntax.specs.declared.tree.TypeName.{TypeName}
use Rattle.gib_core.specs.declared.atom.Atom.{Atom}
use Rattle.gib_core.specs.declared.atom.Atom.TheVariants as a
use Rattle.gib_core.specs.declared.atom.Kind.{Kind}
use Rattle.gib_core.specs.declared.atom.Kind.TheVariants.{Scalar}
use Rattle.gib_core.specs.declared.atom.Variable.{Variable}
use Rattle.gib_core.specs.declared.node.Binding.TheVariants as b
use Rattle.gib_core.specs.declared.node.BoundTerm.{BoundTerm}
use Rattle.gib_core.specs.declared.node.BoundSide.TheVariants as side_of
use Rattle.gib_core.specs.declared.node.Branch.{Branch}
use Rattle.gib_core.specs.declared.node.Node.TheVariants as n
use Rattle.gib_core.specs.declared.node.TermId.{TermId}
use Rattle.gib_core.specs.Arena.{Grows, term_of, side_from, branches_from}
use Rattle.gib_core.specs.Tree.{Term, CaseTerm, IfTerm, One, Both, Side, On, NoBranch, BranchThen, variables_from}
use Rattle.gib_core.specs.Met.{stands_too}
use Rattle.gib_core.proofs.Fronting.{grows_more, grows_none}
use Rattle.gib_core.specs.ArenaLaws.{side_same}
use Rattle.gib_local.proofs.Forking.{alone}
use Rattle.gib_local.specs.declared.builder.Builder.{Builder}
use Rattle.gib_local.specs.declared.destination.Goal.{Goal}
use Rattle.gib_loccheck.specs.declared.destination.Destination.TheVariants as d
use Rattle.gib_local.specs.declared.build_fault.BuildFault.{BuildFault}
use Rattle.gib_local.specs.declared.scopes.Depth.{Depth}
use Rattle.gib_local_parse.specs.Tree.{Line, Cased, Chosen, LetIn, ParIn, Bound, Be, Arms, LastArm}
use Rattle.gib_local_parse.specs.declared.tree.Mark.{Mark}
use Rattle.gib_local_parse.specs.declared.tree.Operand.{Operand}
use Rattle.gib_local.specs.Building.{Place, Around, Passed, Placed, Program, Termed, Stepped, Sided, Branched, VariableName, and_then, no_mark, with_variable, with_variables, numbered_on, used_too, inside, inside_scalar, sided, bind, between, atom, build, build_binding, build_bound, build_arms, con, variable}
use Rattle.gib_local.specs.Builds.{destination_of, around_of, passed_of, nowhere, Fails, Stays, PutsNode, BindsAll, Puts, Fronts, Opens, Binds, BuildsSide, NamesBetween, Forks, side_due}
use Rattle.gib_local.proofs.Adding.{given, fails_then, fails_for, stays_on, stays_put, node_put, unmarked_go, unmarked_fail}
use Rattle.gib_local.proofs.Joining.{front_one, front_same, left_same, put_of, bind_packed}

-- What goes on behind parts.
abbrev one_of : Ident → ℕ → Around → Sided → Placed Stepped
one_of x n h s = Ok (record { binds = One s.side ∷ []; around = record h { variables = with_variable x n h.variables; destination = s.destination }; passed = s.passed })

abbrev both_of : Ident → Ident → ℕ → ℕ → Around → Side → Sided → Placed Stepped
both_of x y m n h l r = Ok (record { binds = Both false l r.side ∷ []; around = record h { variables = with_variable y n (with_variable x m h.variables); destination = r.destination }; passed = r.passed })

abbrev right_of : Program → Ident → Bound → Ident → ℕ → Around → Sided → Around → Placed Stepped
right_of p x right y m h l g = and_then (build_bound p right g l.passed) (both_of x y m l.passed.fresh h l.side)

abbrev left_of : Program → Ident → Option (Ident × Ident) → Bound → Ident → ℕ → Around → Sided → Placed Stepped
left_of p x o right y m h l = and_then (between p.table h x m l.destination o) (right_of p x right y m h l)

abbrev else_of : Atom → Term → Termed → Placed Termed
else_of c t q = Ok (record { term = IfTerm c t q.term; passed = q.passed })

abbrev then_of : Program → Line → Around → Atom → Termed → Placed Termed
then_of p u h c s = and_then (build p u h s.passed) (else_of c s.term)

abbrev case_of : Atom → Branched → Placed Termed
case_of x s = Ok (record { term = CaseTerm x s.branches; passed = s.passed })

-- a side

pub side_for : (b0 b1 : Builder) (g0 g1 : Goal) (result : Result BoundTerm BuildFault) (r s : Placed Sided) → r ≡ s → BuildsSide b0 b1 g0 g1 result s → BuildsSide b0 b1 g0 g1 result r
side_for b0 b1 g0 g1 result r s q h = subst (λ x. BuildsSide b0 b1 g0 g1 result x) (sym q) h

-- What the term of a scalar side is met with.
scalar_inside : (p : Program) (b0 b1 : Builder) (g : Goal) (u : Line) → b1 ≡ record b0 { fresh = b0.fresh + 1 }
    → build p u (inside_scalar (around_of b0 g)) (numbered_on 1 (passed_of b0)) ≡ build p u (around_of b1 (record { destination = d.Nowhere; at = g.at })) (passed_of b1)
scalar_inside p b0 b1 g u e = (λ i. build p u (around_of (sym e i) (record { destination = d.Nowhere; at = g.at })) (passed_of (sym e i)))

pub scalar_made : (p : Program) (b0 b1 b2 : Builder) (g : Goal) (x : Ident) (w : TypeName) (ty : Ty) (at : Option Mark) (u : Line) (v : Variable) (t : TermId) → no_mark at (Ok (tt {0})) ≡ Ok (tt {0}) → v.0 ≡ b0.fresh → b1 ≡ record b0 { fresh = b0.fresh + 1 }
    → Puts b1 b2 t (build p u (around_of b1 (record { destination = d.Nowhere; at = g.at })) (passed_of b1))
    → Binds b0 b2 g g (record { kind = Scalar; variable = v; ty = ty; term = t }) (bind true p.table (build p u) (around_of b0 g) (passed_of b0) x w ty at)
scalar_made p b0 b1 b2 g x w ty at u v t m ev e h =
    let go = λ (r : Termed). given (sided (around_of b0 g) Scalar x b0.fresh ty r) in record {
      is =
          unmarked_go at (and_then (build p u (inside_scalar (around_of b0 g)) (numbered_on 1 (passed_of b0))) go) m
          ∙ ap (λ r. and_then r go) (scalar_inside p b0 b1 g u e ∙ h.is)
          ∙ (λ i. Ok (record { side = On Scalar (record { 0 = sym ev i }) ty (term_of b2.terms t.0); destination = destination_of g.destination; passed = passed_of b2 }));
      stays = record {
        grows = subst (λ (k : Builder). Grows k.terms b2.terms) e h.stays.grows;
        variables = h.stays.variables ∙ ap (λ (k : Builder). k.variables) e;
        places = h.stays.places ∙ ap (λ (k : Builder). k.places) e;
      };
      inside = h.inside;
      variable = ev;
      at = refl;
    }

pub scalar_mark : (p : Program) (e : BuildFault) (h : Around) (v : Passed) (x : Ident) (w : TypeName) (ty : Ty) (at : Option Mark) (u : Line) → Fails e (no_mark at (Ok (tt {0}))) → Fails e (bind true p.table (build p u) h v x w ty at)
scalar_mark p e h v x w ty at u q = unmarked_fail at e (and_then (build p u (inside_scalar h) (numbered_on 1 v)) (λ r. Ok (sided h Scalar x v.fresh ty r))) q

pub scalar_fails : (p : Program) (e : BuildFault) (b0 b1 : Builder) (g : Goal) (x : Ident) (w : TypeName) (ty : Ty) (at : Option Mark) (u : Line) → no_mark at (Ok (tt {0})) ≡ Ok (tt {0}) → b1 ≡ record b0 { fresh = b0.fresh + 1 }
    → Fails e (build p u (around_of b1 (record { destination = d.Nowhere; at = g.at })) (passed_of b1)) → Fails e (bind true p.table (build p u) (around_of b0 g) (passed_of b0) x w ty at)
scalar_fails p e b0 b1 g x w ty at u m q h =
    let go = λ (r : Termed). given (sided (around_of b0 g) Scalar x b0.fresh ty r) in
    fails_for e (bind true p.table (build p u) (around_of b0 g) (passed_of b0) x w ty at) (and_then (build p u (inside_scalar (around_of b0 g)) (numbered_on 1 (passed_of b0))) go)
    (unmarked_go at (and_then (build p u (inside_scalar (around_of b0 g)) (numbered_on 1 (passed_of b0))) go) m)
    (fails_then e (build p u (inside_scalar (around_of b0 g)) (numbered_on 1 (passed_of b0))) go (fails_for e _ _ (scalar_inside p b0 b1 g u q) h))

-- What the term of a packed side is met with.
packed_inside : (p : Program) (b0 b1 b2 : Builder) (g : Goal) (q : Place) (u : Line) → b1 ≡ record b0 { fresh = b0.fresh + 1 } → b2 ≡ record b1 { unused = used_too q b1.unused }
    → build p u (inside (around_of b0 g) q) (record { fresh = b0.fresh + 1; unused = used_too q b0.unused }) ≡ build p u (around_of b2 (record { destination = d.Empty; at = q })) (passed_of b2)
packed_inside p b0 b1 b2 g q u e1 e2 =
    let o = sym (e2 ∙ ap (λ (k : Builder). record k { unused = used_too q k.unused }) e1) in
    (λ i. build p u (around_of (o i) (record { destination = d.Empty; at = q })) (passed_of (o i)))

pub packed_made : (p : Program) (b0 b1 b2 b3 : Builder) (g0 g1 : Goal) (x : Ident) (w : TypeName) (ty : Ty) (at : Option Mark) (u : Line) (kind : Kind) (q : Place) (v : Variable) (t : TermId)
    → side_due p.table (around_of b0 g0) (passed_of b0) w at ≡ Ok (kind, q) → v.0 ≡ b0.fresh → b1 ≡ record b0 { fresh = b0.fresh + 1 } → b2 ≡ record b1 { unused = used_too q b1.unused }
    → Puts b2 b3 t (build p u (around_of b2 (record { destination = d.Empty; at = q })) (passed_of b2)) → destination_of g1.destination ≡ stands_too kind v (destination_of g0.destination) → g1.at ≡ g0.at
    → Binds b0 b3 g0 g1 (record { kind = kind; variable = v; ty = ty; term = t }) (bind false p.table (build p u) (around_of b0 g0) (passed_of b0) x w ty at)
packed_made p b0 b1 b2 b3 g0 g1 x w ty at u kind q v t due ev e1 e2 h ed ea =
    let whole : b2 ≡ record b0 { fresh = b0.fresh + 1; unused = used_too q b0.unused } = e2 ∙ ap (λ (k : Builder). record k { unused = used_too q k.unused }) e1 in
    let go = λ (r : Termed). given (sided (around_of b0 g0) kind x b0.fresh ty r) in
    let same : record { 0 = b0.fresh } ≡ v = (λ i. record { 0 = sym ev i }) in record {
      is =
          bind_packed p.table (build p u) (around_of b0 g0) (passed_of b0) x w ty at
          ∙ ap (λ r. and_then r (put_of (build p u) (around_of b0 g0) (passed_of b0) x ty)) due
          ∙ ap (λ r. and_then r go) (packed_inside p b0 b1 b2 g0 q u e1 e2 ∙ h.is)
          ∙ (λ i. Ok (record { side = On kind (same i) ty (term_of b3.terms t.0); destination = stands_too kind (same i) (destination_of g0.destination); passed = passed_of b3 }))
          ∙ (λ i. Ok (record { side = On kind v ty (term_of b3.terms t.0); destination = sym ed i; passed = passed_of b3 }));
      stays = record {
        grows = subst (λ (k : Builder). Grows k.terms b3.terms) whole h.stays.grows;
        variables = h.stays.variables ∙ ap (λ (k : Builder). k.variables) whole;
        places = h.stays.places ∙ ap (λ (k : Builder). k.places) whole;
      };
      inside = h.inside;
      variable = ev;
      at = ea;
    }

pub packed_due : (p : Program) (e : BuildFault) (h : Around) (v : Passed) (x : Ident) (w : TypeName) (ty : Ty) (at : Option Mark) (u : Line) → Fails e (side_due p.table h v w at) → Fails e (bind false p.table (build p u) h v x w ty at)
packed_due p e h v x w ty at u q =
    fails_for e (bind false p.table (build p u) h v x w ty at) (and_then (side_due p.table h v w at) (put_of (build p u) h v x ty)) (bind_packed p.table (build p u) h v x w ty at)
    (fails_then e (side_due p.table h v w at) (put_of (build p u) h v x ty) q)

pub packed_fails : (p : Program) (e : BuildFault) (b0 b1 b2 : Builder) (g : Goal) (x : Ident) (w : TypeName) (ty : Ty) (at : Option Mark) (u : Line) (kind : Kind) (q : Place)
    → side_due p.table (around_of b0 g) (passed_of b0) w at ≡ Ok (kind, q) → b1 ≡ record b0 { fresh = b0.fresh + 1 } → b2 ≡ record b1 { unused = used_too q b1.unused }
    → Fails e (build p u (around_of b2 (record { destination = d.Empty; at = q })) (passed_of b2)) → Fails e (bind false p.table (build p u) (around_of b0 g) (passed_of b0) x w ty at)
packed_fails p e b0 b1 b2 g x w ty at u kind q due e1 e2 h =
    let go = λ (r : Termed). given (sided (around_of b0 g) kind x b0.fresh ty r) in
    fails_for e (bind false p.table (build p u) (around_of b0 g) (passed_of b0) x w ty at) (and_then (build p u (inside (around_of b0 g) q) (record { fresh = b0.fresh + 1; unused = used_too q b0.unused })) go)
    (bind_packed p.table (build p u) (around_of b0 g) (passed_of b0) x w ty at
    ∙ ap (λ r. and_then r (put_of (build p u) (around_of b0 g) (passed_of b0) x ty)) due)
    (fails_then e (build p u (inside (around_of b0 g) q) (record { fresh = b0.fresh + 1; unused = used_too q b0.unused })) go (fails_for e _ _ (packed_inside p b0 b1 b2 g q u e1 e2) h))

-- a bound term

pub one_made : (p : Program) (b0 b1 b2 : Builder) (g0 g1 : Goal) (x : Ident) (w : TypeName) (at : Option Mark) (u : Line) (s : BoundTerm) → Binds b0 b1 g0 g1 s (build_bound p (Be x w at u) (around_of b0 g0) (passed_of b0))
    → b2 ≡ record b1 { variables = with_variable x s.variable.0 b1.variables } → Opens b0 b2 g1 (Some (b.One (side_of.One s))) (build_binding p (LetIn (Be x w at u)) (around_of b0 g0) (passed_of b0))
one_made p b0 b1 b2 g0 g1 x w at u s h e =
    let o = sym e in
    let vs : with_variable x b0.fresh b0.variables ≡ with_variable x s.variable.0 b1.variables = ap₂ (λ k l. with_variable x k l) (sym h.variable) (sym h.stays.variables) in
    let ps = sym h.stays.places in
    let l = sym h.at in record {
      is =
          ap (λ r. and_then r (one_of x b0.fresh (around_of b0 g0))) h.is
          ∙ (λ i. Ok (record { binds = One (side_from (term_of b1.terms) (side_of.One s)) ∷ []; around = record { variables = vs i; places = ps i; destination = destination_of g1.destination; at = l i }; passed = passed_of b1 }))
          ∙ (λ i. Ok (record { binds = One (side_from (term_of (o i).terms) (side_of.One s)) ∷ []; around = around_of (o i) g1; passed = passed_of (o i) }));
      grows = subst (λ (k : Builder). Grows b0.terms k.terms) o h.stays.grows;
      below = subst (λ (k : Builder). s.term.0 < length k.terms) o h.inside;
      variables = front_one (x.name.0, s.variable.0) b0.variables b2.variables (ap (λ (k : Builder). k.variables) e ∙ ap (λ m. with_variable x s.variable.0 m) h.stays.variables);
      places = front_same b0.places b2.places (ap (λ (k : Builder). k.places) e ∙ h.stays.places);
    }

pub one_fails : (p : Program) (e : BuildFault) (h : Around) (v : Passed) (x : Ident) (w : TypeName) (at : Option Mark) (u : Line) → Fails e (build_bound p (Be x w at u) h v) → Fails e (build_binding p (LetIn (Be x w at u)) h v)
one_fails p e h v x w at u q = fails_then e (build_bound p (Be x w at u) h v) (one_of x v.fresh h) q

-- two sides

-- Between them, wherever the destination was before the left one.
between_same : (tb : Table) (b0 b1 : Builder) (g0 g1 : Goal) (x : Ident) (m n : ℕ) (o : Option (Ident × Ident)) → Stays b0 b1 → g1.at ≡ g0.at → n ≡ m
    → between tb (around_of b0 g0) x m (destination_of g1.destination) o ≡ between tb (around_of b1 g1) x n (destination_of g1.destination) o
between_same tb b0 b1 g0 g1 x m n o s a e =
    other o (destination_of g0.destination)
    ∙ (λ i. between tb (record { variables = sym s.variables i; places = sym s.places i; destination = destination_of g1.destination; at = sym a i }) x (sym e i) (destination_of g1.destination) o) where
      other : (k : Option (Ident × Ident)) (q : Rattle.gib_core.specs.Met.Destination)
          → between tb (record { variables = b0.variables; places = b0.places; destination = q; at = g0.at }) x m (destination_of g1.destination) k
          ≡ between tb (record { variables = b0.variables; places = b0.places; destination = destination_of g1.destination; at = g0.at }) x m (destination_of g1.destination) k
      other None q = refl
      other (Some r) q = refl

-- The left side stands, and the place between has its name.
pub record Halfway (p : Program) (b0 b1 b2 : Builder) (g0 g1 : Goal) (x : Ident) (w : TypeName) (at : Option Mark) (t : Line) (o : Option (Ident × Ident)) (s : BoundTerm) : Type 0 where
  pub left : Binds b0 b1 g0 g1 s (build_bound p (Be x w at t) (around_of b0 g0) (passed_of b0))
  pub names : NamesBetween b1 b2 g1 (between p.table (around_of b1 g1) x s.variable.0 (around_of b1 g1).destination o)

-- With the left side, and then with the place between.
after_left : (p : Program) (b0 b1 b2 : Builder) (g0 g1 : Goal) (x : Ident) (w : TypeName) (at : Option Mark) (t : Line) (o : Option (Ident × Ident)) (s : BoundTerm) (y : Ident) (z : TypeName) (on : Option Mark) (u : Line) → Halfway p b0 b1 b2 g0 g1 x w at t o s
    → build_binding p (ParIn (Be x w at t) o (Be y z on u)) (around_of b0 g0) (passed_of b0)
    ≡ and_then (build_bound p (Be y z on u) (around_of b2 g1) (passed_of b2)) (both_of x y b0.fresh b1.fresh (around_of b0 g0) (side_from (term_of b1.terms) (side_of.One s)))
after_left p b0 b1 b2 g0 g1 x w at t o s y z on u h =
    let l : Sided = record { side = side_from (term_of b1.terms) (side_of.One s); destination = destination_of g1.destination; passed = passed_of b1 } in
    ap (λ k. and_then k (left_of p x o (Be y z on u) y b0.fresh (around_of b0 g0))) h.left.is
    ∙ ap (λ k. and_then k (right_of p x (Be y z on u) y b0.fresh (around_of b0 g0) l)) (between_same p.table b0 b1 g0 g1 x b0.fresh s.variable.0 o h.left.stays h.left.at h.left.variable ∙ h.names.is)
    ∙ ap (λ v. and_then (build_bound p (Be y z on u) (around_of b2 g1) v) (both_of x y b0.fresh b1.fresh (around_of b0 g0) (side_from (term_of b1.terms) (side_of.One s)))) (sym (ap passed_of h.names.same))

pub both_made : (p : Program) (b0 b1 b2 b3 b4 b5 b6 : Builder) (g0 g1 g2 : Goal) (x : Ident) (w : TypeName) (at : Option Mark) (t : Line) (o : Option (Ident × Ident)) (l r : BoundTerm) (y : Ident) (z : TypeName) (on : Option Mark) (u : Line) (depth : Depth)
    → Halfway p b0 b1 b2 g0 g1 x w at t o l → Binds b2 b3 g1 g2 r (build_bound p (Be y z on u) (around_of b2 g1) (passed_of b2)) → depth.variables ≡ length b1.variables → depth.places ≡ length b1.places
    → b4 ≡ record b3 { variables = drop (length b3.variables - depth.variables) b3.variables; places = drop (length b3.places - depth.places) b3.places }
    → b5 ≡ record b4 { variables = with_variable x l.variable.0 b4.variables } → b6 ≡ record b5 { variables = with_variable y r.variable.0 b5.variables }
    → Opens b0 b6 g2 (Some (b.Par false (side_of.One l) (side_of.One r))) (build_binding p (ParIn (Be x w at t) o (Be y z on u)) (around_of b0 g0) (passed_of b0))
both_made p b0 b1 b2 b3 b4 b5 b6 g0 g1 g2 x w at t o l r y z on u depth h k dv dp e4 e5 e6 =
    let last : b6 ≡ record b4 { variables = with_variable y r.variable.0 (with_variable x l.variable.0 b4.variables) } = e6 ∙ ap (λ (m : Builder). record m { variables = with_variable y r.variable.0 m.variables }) e5 in
    let terms : b6.terms ≡ b3.terms = ap (λ (m : Builder). m.terms) last ∙ ap (λ (m : Builder). m.terms) e4 in
    let passed : passed_of b6 ≡ passed_of b3 = ap passed_of last ∙ ap passed_of e4 in
    let vs : b4.variables ≡ b0.variables = left_same b0.variables b2.variables b3.variables b4.variables depth.variables (dv ∙ ap (λ m. length m) h.left.stays.variables) (front_same b0.variables b2.variables (ap (λ (m : Builder). m.variables) h.names.same ∙ h.left.stays.variables)) k.stays.variables (ap (λ (m : Builder). m.variables) e4) in
    let ps : b4.places ≡ b1.places = left_same b1.places b2.places b3.places b4.places depth.places dp h.names.places k.stays.places (ap (λ (m : Builder). m.places) e4) in
    let places : b6.places ≡ b0.places = ap (λ (m : Builder). m.places) last ∙ ps ∙ h.left.stays.places in
    let fresh : r.variable.0 ≡ b1.fresh = k.variable ∙ ap (λ (m : Builder). m.fresh) h.names.same in
    let variables : b6.variables ≡ with_variable y b1.fresh (with_variable x b0.fresh b0.variables) =
    ap (λ (m : Builder). m.variables) last ∙ (λ i. with_variable y (fresh i) (with_variable x (h.left.variable i) (vs i))) in
    let up : Grows b1.terms b3.terms = subst (λ (m : Builder). Grows m.terms b3.terms) h.names.same k.stays.grows in
    let left : side_from (term_of b6.terms) (side_of.One l) ≡ side_from (term_of b1.terms) (side_of.One l) = ap (λ xs. side_from (term_of xs) (side_of.One l)) terms ∙ side_same (term_of b3.terms) (term_of b1.terms) (length b1.terms) (side_of.One l) h.left.inside up.same in
    let right : side_from (term_of b6.terms) (side_of.One r) ≡ side_from (term_of b3.terms) (side_of.One r) = ap (λ xs. side_from (term_of xs) (side_of.One r)) terms in
    let there : g2.at ≡ g0.at = k.at ∙ h.left.at in record {
      is =
          after_left p b0 b1 b2 g0 g1 x w at t o l y z on u h
          ∙ ap (λ m. and_then m (both_of x y b0.fresh b1.fresh (around_of b0 g0) (side_from (term_of b1.terms) (side_of.One l)))) k.is
          ∙ (λ i. Ok (record {
            binds = Both false (sym left i) (sym right i) ∷ [];
            around = record { variables = sym variables i; places = sym places i; destination = destination_of g2.destination; at = sym there i };
            passed = sym passed i;
          }));
      grows = grows_more b0.terms b1.terms b6.terms h.left.stays.grows (subst (λ xs. Grows b1.terms xs) (sym terms) up);
      below = (
        (let m = h.left.inside in let q = up.longer in let c : length b6.terms ≡ length b3.terms = ap (λ xs. length xs) terms in omega (arith, m, q, c)),
        (let m = k.inside in let c : length b6.terms ≡ length b3.terms = ap (λ xs. length xs) terms in omega (arith, m, c)),
      );
      variables = record { more = (y.name.0, b1.fresh) ∷ (x.name.0, b0.fresh) ∷ []; is = variables };
      places = front_same b0.places b6.places places;
    }

pub both_left : (p : Program) (e : BuildFault) (h : Around) (v : Passed) (x : Ident) (w : TypeName) (at : Option Mark) (t : Line) (o : Option (Ident × Ident)) (y : Ident) (z : TypeName) (on : Option Mark) (u : Line) → Fails e (build_bound p (Be x w at t) h v) → Fails e (build_binding p (ParIn (Be x w at t) o (Be y z on u)) h v)
both_left p e h v x w at t o y z on u q = fails_then e (build_bound p (Be x w at t) h v) (left_of p x o (Be y z on u) y v.fresh h) q

pub both_between : (p : Program) (e : BuildFault) (b0 b1 : Builder) (g0 g1 : Goal) (x : Ident) (w : TypeName) (at : Option Mark) (t : Line) (o : Option (Ident × Ident)) (s : BoundTerm) (y : Ident) (z : TypeName) (on : Option Mark) (u : Line) → Binds b0 b1 g0 g1 s (build_bound p (Be x w at t) (around_of b0 g0) (passed_of b0))
    → Fails e (between p.table (around_of b1 g1) x s.variable.0 (around_of b1 g1).destination o) → Fails e (build_binding p (ParIn (Be x w at t) o (Be y z on u)) (around_of b0 g0) (passed_of b0))
both_between p e b0 b1 g0 g1 x w at t o s y z on u h q =
    let l : Sided = record { side = side_from (term_of b1.terms) (side_of.One s); destination = destination_of g1.destination; passed = passed_of b1 } in
    let go = right_of p x (Be y z on u) y b0.fresh (around_of b0 g0) l in
    fails_for e (build_binding p (ParIn (Be x w at t) o (Be y z on u)) (around_of b0 g0) (passed_of b0)) (and_then (between p.table (around_of b1 g1) x s.variable.0 (destination_of g1.destination) o) go)
    (ap (λ k. and_then k (left_of p x o (Be y z on u) y b0.fresh (around_of b0 g0))) h.is ∙ ap (λ k. and_then k go) (between_same p.table b0 b1 g0 g1 x b0.fresh s.variable.0 o h.stays h.at h.variable))
    (fails_then e (between p.table (around_of b1 g1) x s.variable.0 (destination_of g1.destination) o) go q)

pub both_right : (p : Program) (e : BuildFault) (b0 b1 b2 : Builder) (g0 g1 : Goal) (x : Ident) (w : TypeName) (at : Option Mark) (t : Line) (o : Option (Ident × Ident)) (s : BoundTerm) (y : Ident) (z : TypeName) (on : Option Mark) (u : Line) → Halfway p b0 b1 b2 g0 g1 x w at t o s
    → Fails e (build_bound p (Be y z on u) (around_of b2 g1) (passed_of b2)) → Fails e (build_binding p (ParIn (Be x w at t) o (Be y z on u)) (around_of b0 g0) (passed_of b0))
both_right p e b0 b1 b2 g0 g1 x w at t o s y z on u h q =
    fails_for e (build_binding p (ParIn (Be x w at t) o (Be y z on u)) (around_of b0 g0) (passed_of b0)) (and_then (build_bound p (Be y z on u) (around_of b2 g1) (passed_of b2)) (both_of x y b0.fresh b1.fresh (around_of b0 g0) (side_from (term_of b1.terms) (side_of.One s)))) (after_left p b0 b1 b2 g0 g1 x w at t o s y z on u h) (fails_then e (build_bound p (Be y z on u) (around_of b2 g1) (passed_of b2)) (both_of x y b0.fresh b1.fresh (around_of b0 g0) (side_from (term_of b1.terms) (side_of.One s))) q)

-- a choice

pub if_made : (p : Program) (b0 b1 b2 b3 : Builder) (g0 g1 : Goal) (x : Operand) (c : Atom) (t u : Line) (i j id : TermId) → c ≡ atom (around_of b0 g0) x → destination_of g1.destination ≡ destination_of g0.destination → g1.at ≡ g0.at
    → Puts b0 b1 i (build p t (around_of b0 g1) (passed_of b0)) → Puts b1 b2 j (build p u (around_of b1 g0) (passed_of b1)) → PutsNode b2 b3 id (n.If c i j) → Puts b0 b3 id (build p (Chosen nowhere x t u) (around_of b0 g0) (passed_of b0))
if_made p b0 b1 b2 b3 g0 g1 x c t u i j id ec ed ea h k w =
    let m = node_put b2 b3 id (n.If c i j) w in
    let first : build p t (around_of b0 g0) (passed_of b0) ≡ build p t (around_of b0 g1) (passed_of b0) = (λ q. build p t (record { variables = b0.variables; places = b0.places; destination = sym ed q; at = sym ea q }) (passed_of b0)) in
    let second : build p u (around_of b0 g0) (passed_of b1) ≡ build p u (around_of b1 g0) (passed_of b1) =
    (λ q. build p u (record { variables = sym h.stays.variables q; places = sym h.stays.places q; destination = destination_of g0.destination; at = g0.at }) (passed_of b1)) in
    let term : term_of b3.terms id.0 ≡ IfTerm (atom (around_of b0 g0) x) (term_of b1.terms i.0) (term_of b2.terms j.0) = m.term ∙ (λ q. IfTerm (ec q) (k.stays.grows.same i.0 h.inside q) (term_of b2.terms j.0)) in
    let passed : passed_of b3 ≡ passed_of b2 = ap passed_of w.is in record {
      is =
          ap (λ r. and_then r (then_of p u (around_of b0 g0) (atom (around_of b0 g0) x))) (first ∙ h.is)
          ∙ ap (λ r. and_then r (else_of (atom (around_of b0 g0) x) (term_of b1.terms i.0))) (second ∙ k.is)
          ∙ (λ q. Ok (record { term = sym term q; passed = sym passed q }));
      stays = stays_on b0 b1 b3 h.stays (stays_on b1 b2 b3 k.stays (stays_put b2 b3 id _ m));
      inside = m.inside;
    }

pub if_first : (p : Program) (e : BuildFault) (b0 : Builder) (g0 g1 : Goal) (x : Operand) (t u : Line) → destination_of g1.destination ≡ destination_of g0.destination → g1.at ≡ g0.at
    → Fails e (build p t (around_of b0 g1) (passed_of b0)) → Fails e (build p (Chosen nowhere x t u) (around_of b0 g0) (passed_of b0))
if_first p e b0 g0 g1 x t u ed ea h =
    fails_then e (build p t (around_of b0 g0) (passed_of b0)) (then_of p u (around_of b0 g0) (atom (around_of b0 g0) x))
    (fails_for e (build p t (around_of b0 g0) (passed_of b0)) (build p t (around_of b0 g1) (passed_of b0)) (λ q. build p t (record { variables = b0.variables; places = b0.places; destination = sym ed q; at = sym ea q }) (passed_of b0)) h)

pub if_second : (p : Program) (e : BuildFault) (b0 b1 : Builder) (g0 g1 : Goal) (x : Operand) (t u : Line) (i : TermId) → destination_of g1.destination ≡ destination_of g0.destination → g1.at ≡ g0.at
    → Puts b0 b1 i (build p t (around_of b0 g1) (passed_of b0)) → Fails e (build p u (around_of b1 g0) (passed_of b1)) → Fails e (build p (Chosen nowhere x t u) (around_of b0 g0) (passed_of b0))
if_second p e b0 b1 g0 g1 x t u i ed ea h k =
    let first : build p t (around_of b0 g0) (passed_of b0) ≡ build p t (around_of b0 g1) (passed_of b0) = (λ q. build p t (record { variables = b0.variables; places = b0.places; destination = sym ed q; at = sym ea q }) (passed_of b0)) in
    let second : build p u (around_of b0 g0) (passed_of b1) ≡ build p u (around_of b1 g0) (passed_of b1) =
    (λ q. build p u (record { variables = sym h.stays.variables q; places = sym h.stays.places q; destination = destination_of g0.destination; at = g0.at }) (passed_of b1)) in
    let go = else_of (atom (around_of b0 g0) x) (term_of b1.terms i.0) in
    fails_for e (build p (Chosen nowhere x t u) (around_of b0 g0) (passed_of b0)) (and_then (build p u (around_of b1 g0) (passed_of b1)) go)
    (ap (λ r. and_then r (then_of p u (around_of b0 g0) (atom (around_of b0 g0) x))) (first ∙ h.is) ∙ ap (λ r. and_then r go) second)
    (fails_then e (build p u (around_of b1 g0) (passed_of b1)) go k)

-- a branch

-- What the term of an arm is met with.
arm_inside : (p : Program) (b0 b1 : Builder) (g0 g1 : Goal) (xs : List Ident) (vs : List Variable) (u : Line) → BindsAll b0 b1 xs vs → destination_of g1.destination ≡ destination_of g0.destination → g1.at ≡ g0.at
    → build p u (record (around_of b0 g0) { variables = with_variables b0.fresh xs b0.variables }) (numbered_on (length xs) (passed_of b0)) ≡ build p u (around_of b1 g1) (passed_of b1)
arm_inside p b0 b1 g0 g1 xs vs u h ed ea =
    (λ q. build p u (record { variables = with_variables b0.fresh xs b0.variables; places = b0.places; destination = sym ed q; at = sym ea q }) (numbered_on (length xs) (passed_of b0)))
    ∙ (λ q. build p u (around_of (sym h.is q) g1) (passed_of (sym h.is q)))

-- New variables stand before those that were there.
with_front : (n : ℕ) (xs : List Ident) (vs : List VariableName) → Fronts vs (with_variables n xs vs)
with_front n [] vs = record { more = []; is = refl }
with_front n (x ∷ xs) vs =
    let h = with_front (n + 1) xs (with_variable x n vs) in
    record { more = h.more ++ (x.name.0, n) ∷ []; is = h.is ∙ sym (append_assoc h.more ((x.name.0, n) ∷ []) vs) }

pub branch_made : (p : Program) (b0 b1 b2 b3 : Builder) (g0 g1 : Goal) (k : Ident) (c : ConId) (xs : List Ident) (vs : Vec Variable) (u : Line) (t : TermId) (depth : Depth) → depth.variables ≡ length b0.variables → depth.places ≡ length b0.places
    → c ≡ con p.table k → BindsAll b0 b1 xs vs.items → destination_of g1.destination ≡ destination_of g0.destination → g1.at ≡ g0.at → Puts b1 b2 t (build p u (around_of b1 g1) (passed_of b1))
    → b3 ≡ record b2 { variables = drop (length b2.variables - depth.variables) b2.variables; places = drop (length b2.places - depth.places) b2.places }
    → Forks b0 b3 (record { constructor = c; variables = vs; term = t } ∷ []) (build_arms p (LastArm k xs u) (around_of b0 g0) (passed_of b0))
branch_made p b0 b1 b2 b3 g0 g1 k c xs vs u t depth dv dp ec h ed ea w l =
    let terms : b3.terms ≡ b2.terms = ap (λ (m : Builder). m.terms) l in
    let passed : passed_of b3 ≡ passed_of b2 = ap passed_of l in
    let front : Fronts b0.variables b1.variables = subst (λ ys. Fronts b0.variables ys) (sym (ap (λ (m : Builder). m.variables) h.is)) (with_front b0.fresh xs b0.variables) in record {
      is =
          ap (λ r. and_then r (alone (con p.table k) (variables_from b0.fresh xs))) (arm_inside p b0 b1 g0 g1 xs vs.items u h ed ea ∙ w.is)
          ∙ (λ q. Ok (record { branches = BranchThen (sym ec q) (sym h.variables q) (term_of (sym terms q) t.0) NoBranch; passed = sym passed q }));
      stays = record {
        grows = grows_more b0.terms b1.terms b3.terms (subst (λ (m : Builder). Grows b0.terms m.terms) (sym h.is) (grows_none b0.terms)) (subst (λ xs'. Grows b1.terms xs') (sym terms) w.stays.grows);
        variables = left_same b0.variables b1.variables b2.variables b3.variables depth.variables dv front w.stays.variables (ap (λ (m : Builder). m.variables) l);
        places = left_same b0.places b1.places b2.places b3.places depth.places dp (front_same b0.places b1.places (ap (λ (m : Builder). m.places) h.is)) w.stays.places (ap (λ (m : Builder). m.places) l);
      };
      inside = ((let m = w.inside in let q : length b3.terms ≡ length b2.terms = ap (λ ys. length ys) terms in omega (arith, m, q)), tt);
    }

pub branch_fails : (p : Program) (e : BuildFault) (b0 b1 : Builder) (g0 g1 : Goal) (k : Ident) (xs : List Ident) (vs : List Variable) (u : Line) → BindsAll b0 b1 xs vs → destination_of g1.destination ≡ destination_of g0.destination → g1.at ≡ g0.at
    → Fails e (build p u (around_of b1 g1) (passed_of b1)) → Fails e (build_arms p (LastArm k xs u) (around_of b0 g0) (passed_of b0))
branch_fails p e b0 b1 g0 g1 k xs vs u h ed ea q = fails_then e (build p u (record (around_of b0 g0) { variables = with_variables b0.fresh xs b0.variables }) (numbered_on (length xs) (passed_of b0))) (alone (con p.table k) (variables_from b0.fresh xs)) (fails_for e (build p u (record (around_of b0 g0) { variables = with_variables b0.fresh xs b0.variables }) (numbered_on (length xs) (passed_of b0))) (build p u (around_of b1 g1) (passed_of b1)) (arm_inside p b0 b1 g0 g1 xs vs u h ed ea) q)

-- a case

pub case_made : (p : Program) (b0 b1 b2 : Builder) (g : Goal) (x : Ident) (v : Variable) (arms : Arms) (bs : Vec Branch) (id : TermId) → v ≡ variable (around_of b0 g) x → Forks b0 b1 bs.items (build_arms p arms (around_of b0 g) (passed_of b0)) → PutsNode b1 b2 id (n.Case (a.Variable v) bs)
    → Puts b0 b2 id (build p (Cased nowhere x arms) (around_of b0 g) (passed_of b0))
case_made p b0 b1 b2 g x v arms bs id ev h w =
    let m = node_put b1 b2 id (n.Case (a.Variable v) bs) w in
    let term : term_of b2.terms id.0 ≡ CaseTerm (a.Variable (variable (around_of b0 g) x)) (branches_from (term_of b1.terms) bs.items) = m.term ∙ ap (λ y. CaseTerm (a.Variable y) (branches_from (term_of b1.terms) bs.items)) ev in
    let passed : passed_of b2 ≡ passed_of b1 = ap passed_of w.is in record {
      is =
          ap (λ r. and_then r (case_of (a.Variable (variable (around_of b0 g) x)))) h.is
          ∙ (λ q. Ok (record { term = sym term q; passed = sym passed q }));
      stays = stays_on b0 b1 b2 h.stays (stays_put b1 b2 id _ m);
      inside = m.inside;
    }

pub case_fails : (p : Program) (e : BuildFault) (h : Around) (v : Passed) (x : Ident) (arms : Arms) → Fails e (build_arms p arms h v) → Fails e (build p (Cased nowhere x arms) h v)
case_fails p e h v x arms q = fails_then e (build_arms p arms h v) (case_of (a.Variable (variable h x))) q
