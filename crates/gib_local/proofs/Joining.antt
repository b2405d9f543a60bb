-- Steps of the builder joined, in the words of the rules.
use Rattle.std.proofs.Common.{◌≡◌, ℕ, zero, suc, ◌+◌, ◌-◌, true, false, List, [], ◌∷◌, ◌++◌, length, length-append, drop, Option, Some, None, Ok, Err, refl, sym, ap, ◌∙◌, subst, arith}
use Rattle.gib_types.specs.Table.{Table}
use Rattle.gib_types.specs.declared.table.ConId.{ConId}
use Rattle.gib_types.specs.declared.table.Ty.{Ty}
use Rattle.gib_syntax.specs.declared.tree.Ident.{Ident}
use Rattle.gib_types.specs.declared.operator.Operator.{Operator}
use Rattle.gib_syntax.specs.declared.tree.TypeName.{TypeName}
use Rattle.gib_syntax.specs.Declarations.{number_of}
use Rattle.gib_core.specs.declared.atom.Access.{Access}
use Rattle.gib_core.specs.declared.atom.Atom.{Atom}
use Rattle.gib_core.specs.declared.atom.Kind.{Kind}
use Rattle.gib_core.specs.declared.atom.Variable.{Variable}
use Rattle.gib_core.specs.declared.node.Binding.{Binding as CoreBinding}
use Rattle.gib_core.specs.declared.node.Binding.TheVariants as b
use Rattle.gib_core.specs.declared.node.Node.{Node}
use Rattle.gib_core.specs.declared.node.TermId.{TermId}
use Rattle.gib_core.specs.Arena.{Grows, term_of}
use Rattle.gib_core.specs.Tree.{Bind, Past, Prim, Reach, prepend}
use Rattle.gib_core.specs.Met.{Destination, Open}
use Rattle.gib_core.proofs.Fronting.{grows_more, grows_none}
use Rattle.gib_core.specs.ArenaLaws.{bind_same}
use Rattle.gib_local.specs.declared.builder.Builder.{Builder}
use Rattle.gib_local.specs.declared.destination.Goal.{Goal}
use Rattle.gib_local.specs.declared.build_fault.BuildFault.{BuildFault}
use Rattle.gib_local.specs.declared.scopes.Depth.{Depth}
use Rattle.gib_local_parse.specs.Tree.{Line, In, Binding, NewRegion, PrimIn, ReachIn}
use Rattle.gib_local_parse.specs.declared.tree.Mark.{Mark}
use Rattle.gib_local_parse.specs.declared.tree.Operand.{Operand}
use Rattle.gib_local_parse.specs.declared.tree.Way.{Way}
use Rattle.gib_local.specs.Building.{Place, IsPlace, IsRegion, AtFirst, AtNext, is_last, variable_at, Around, Passed, Placed, Program, Termed, Stepped, Sided, and_then, kind_at, next_place, meant, place_meant, atom, access, with_place, with_variable, named_too, opened, used_too, inside, sided, put_at, bind, between, build, build_binding}
use Rattle.gib_local.specs.Builds.{destination_of, around_of, passed_of, nowhere, Fails, PutsTerm, Puts, Fronts, binds_of, IsStepBelow, Opens, Steps, NamesBetween, kind_due, side_due}
use Rattle.gib_local.proofs.Adding.{given, is_due, not_due, fails_then, fails_for}

-- scopes

pub front_none : {A : Type 0} (xs : List A) → Fronts xs xs
front_none xs = record { more = []; is = refl }

pub front_one : {A : Type 0} (x : A) (xs ys : List A) → ys ≡ x ∷ xs → Fronts xs ys
front_one x xs ys e = record { more = x ∷ []; is = e }

pub front_same : {A : Type 0} (xs ys : List A) → ys ≡ xs → Fronts xs ys
front_same xs ys e = record { more = []; is = e }

drop_front : {A : Type 0} (more xs : List A) (n : ℕ) → n ≡ length more → drop n (more ++ xs) ≡ xs
drop_front [] xs zero e = refl
drop_front [] xs (suc n) e = absurd (omega (arith, e))
drop_front (x ∷ more) xs zero e = absurd (omega (arith, e))
drop_front (x ∷ more) xs (suc n) e = drop_front more xs n (omega (arith, e))

-- What came into scope is out again.
pub left_same : {A : Type 0} (old mid now new : List A) (n : ℕ) → n ≡ length old → Fronts old mid → now ≡ mid → new ≡ drop (length now - n) now → new ≡ old
left_same old mid now new n e h s l =
    let same : now ≡ h.more ++ old = s ∙ h.is in
    let count : length now ≡ length h.more + length old = ap (λ k. length k) same ∙ length-append h.more old in
    l ∙ ap (λ k. drop (length now - n) k) same ∙ drop_front h.more old (length now - n) (omega (arith, count, e))

-- bindings over more terms

binds_grow : (xs ys : List Node) (o : Option CoreBinding) → Grows xs ys → IsStepBelow (length xs) o → binds_of ys o ≡ binds_of xs o
binds_grow xs ys None g lt = refl
binds_grow xs ys (Some c) g lt = ap (λ x. x ∷ []) (bind_same (term_of ys) (term_of xs) (length xs) c lt g.same)

-- steps that only name

pub region_step : (p : Program) (b0 b1 : Builder) (goal : Goal) (r : Ident) (u : List ℕ) → b1 ≡ record b0 { places = with_place r IsRegion b0.places } → u ≡ number_of r ∷ b1.unused
    → Opens b0 (record b1 { unused = u }) goal None (build_binding p (NewRegion r) (around_of b0 goal) (passed_of b0))
region_step p b0 b1 goal r u e q =
    let o = sym e in
    let w = sym (q ∙ ap (λ (x : Builder). number_of r ∷ x.unused) e) in record {
      is = (λ i. Ok (record { binds = []; around = around_of (o i) goal; passed = record { fresh = (o i).fresh; unused = w i } }));
      grows = subst (λ (x : Builder). Grows b0.terms x.terms) o (grows_none b0.terms);
      below = tt;
      variables = front_same b0.variables b1.variables (ap (λ (x : Builder). x.variables) e);
      places = front_one (number_of r, IsRegion) b0.places b1.places (ap (λ (x : Builder). x.places) e);
    }

pub named_step : (b0 b1 : Builder) (goal : Goal) (l : Ident) (q : Place) (r : Placed Stepped) → b1 ≡ record b0 { places = with_place l (IsPlace q) b0.places } → r ≡ Ok (named_too (around_of b0 goal) (passed_of b0) l q) → Opens b0 b1 goal None r
named_step b0 b1 goal l q r e h =
    let o = sym e in record {
      is = h ∙ (λ i. Ok (record { binds = []; around = around_of (o i) goal; passed = passed_of (o i) }));
      grows = subst (λ (x : Builder). Grows b0.terms x.terms) o (grows_none b0.terms);
      below = tt;
      variables = front_same b0.variables b1.variables (ap (λ (x : Builder). x.variables) e);
      places = front_one (number_of l, IsPlace q) b0.places b1.places (ap (λ (x : Builder). x.places) e);
    }

pub opened_step : (b0 b1 b2 : Builder) (g0 g1 : Goal) (l : Ident) (k : ConId) (head : Variable) (r : Placed Stepped) → head.0 ≡ b0.fresh → b1 ≡ record b0 { fresh = b0.fresh + 1 } → b2 ≡ record b1 { places = with_place l (IsPlace (AtFirst head.0)) b1.places }
    → destination_of g1.destination ≡ Open head k [] → g1.at ≡ g0.at → r ≡ Ok (opened (around_of b0 g0) (passed_of b0) l k) → Opens b0 b2 g1 (Some (b.Past head k)) r
opened_step b0 b1 b2 g0 g1 l k head r x e1 e2 ed ea h =
    let whole : b2 ≡ record b0 { fresh = b0.fresh + 1; places = with_place l (IsPlace (AtFirst head.0)) b0.places } = e2 ∙ ap (λ (y : Builder). record y { places = with_place l (IsPlace (AtFirst head.0)) y.places }) e1 in
    let o = sym whole in
    let n = sym x in
    let dest = sym ed in
    let at = sym ea in record {
      is =
          h
          ∙ (λ i. Ok (record {
            binds = Past (record { 0 = n i }) k ∷ [];
            around = record { variables = b0.variables; places = with_place l (IsPlace (AtFirst (n i))) b0.places; destination = Open (record { 0 = n i }) k []; at = g0.at };
            passed = record { fresh = b0.fresh + 1; unused = b0.unused };
          }))
          ∙ (λ i. Ok (record {
            binds = Past head k ∷ [];
            around = record { variables = (o i).variables; places = (o i).places; destination = dest i; at = at i };
            passed = passed_of (o i);
          }));
      grows = subst (λ (y : Builder). Grows b0.terms y.terms) o (grows_none b0.terms);
      below = tt;
      variables = front_same b0.variables b2.variables (ap (λ (y : Builder). y.variables) whole);
      places = front_one (number_of l, IsPlace (AtFirst head.0)) b0.places b2.places (ap (λ (y : Builder). y.places) whole);
    }

pub operation_step : (p : Program) (b0 b2 : Builder) (goal : Goal) (x : Ident) (w : TypeName) (y : Operand) (op : Operator) (z : Operand) (l r : Atom) (v : Variable) → l ≡ atom (around_of b0 goal) y → r ≡ atom (around_of b0 goal) z → v.0 ≡ b0.fresh
    → b2 ≡ record b0 { variables = with_variable x b0.fresh b0.variables; fresh = b0.fresh + 1 } → Opens b0 b2 goal (Some (b.Prim v op l r)) (build_binding p (PrimIn x w y op z) (around_of b0 goal) (passed_of b0))
operation_step p b0 b2 goal x w y op z l r v el er ev e =
    let whole : b2 ≡ record b0 { fresh = b0.fresh + 1; variables = with_variable x v.0 b0.variables } = e ∙ (λ i. record b0 { fresh = b0.fresh + 1; variables = with_variable x (sym ev i) b0.variables }) in
    let o = sym whole in
    let n = sym ev in
    let left = sym el in
    let right = sym er in record {
      is =
          (λ i. Ok (record {
            binds = Prim (record { 0 = n i }) op (left i) (right i) ∷ [];
            around = record { variables = with_variable x (n i) b0.variables; places = b0.places; destination = destination_of goal.destination; at = goal.at };
            passed = record { fresh = b0.fresh + 1; unused = b0.unused };
          }))
          ∙ (λ i. Ok (record { binds = Prim v op l r ∷ []; around = around_of (o i) goal; passed = passed_of (o i) }));
      grows = subst (λ (k : Builder). Grows b0.terms k.terms) o (grows_none b0.terms);
      below = tt;
      variables = front_one (number_of x, v.0) b0.variables b2.variables (ap (λ (k : Builder). k.variables) whole);
      places = front_same b0.places b2.places (ap (λ (k : Builder). k.places) whole);
    }

pub reach_step : (p : Program) (bd : Builder) (goal : Goal) (y : Ident) (way : Way) (v : Variable) (by : Access) → v ≡ Rattle.gib_local.specs.Building.variable (around_of bd goal) y → by ≡ access (around_of bd goal) way
    → Opens bd bd goal (Some (b.Reach v by)) (build_binding p (ReachIn y way) (around_of bd goal) (passed_of bd))
reach_step p bd goal y way v by ev eb = record {
  is = (λ i. Ok (record { binds = Reach (sym ev i) (sym eb i) ∷ []; around = around_of bd goal; passed = passed_of bd }));
  grows = grows_none bd.terms;
  below = tt;
  variables = front_none bd.variables;
  places = front_none bd.places;
}

pub between_none : (bd : Builder) (goal : Goal) → NamesBetween bd bd goal (Ok (around_of bd goal))
between_none bd goal = record { is = refl; same = refl; places = front_none bd.places }

pub between_named : (b0 b1 : Builder) (goal : Goal) (l : Ident) (q : Place) (r : Placed Around) → b1 ≡ record b0 { places = with_place l (IsPlace q) b0.places } → r ≡ Ok (record (around_of b0 goal) { places = with_place l (IsPlace q) b0.places }) → NamesBetween b0 b1 goal r
between_named b0 b1 goal l q r e h = record {
  is = h ∙ ap (λ (x : Builder). Ok (around_of x goal)) (sym e);
  same = e ∙ (λ i. record b0 { places = (sym e i).places });
  places = front_one (number_of l, IsPlace q) b0.places b1.places (ap (λ (x : Builder). x.places) e);
}

-- What goes on behind what is due of a packed side.
abbrev pub put_of : (Around → Passed → Placed Termed) → Around → Passed → Ident → Ty → Kind × Place → Placed Sided
put_of go h v x t r = and_then (go (inside h r.1) (record { fresh = v.fresh + 1; unused = used_too r.1 v.unused })) (λ s. given (sided h r.0 x v.fresh t s))

-- How a packed side is put, in one step.
pub bind_packed : (tb : Table) (go : Around → Passed → Placed Termed) (h : Around) (v : Passed) (x : Ident) (w : TypeName) (t : Ty) (at : Option Mark)
    → bind false tb go h v x w t at ≡ and_then (side_due tb h v w at) (put_of go h v x t)
bind_packed tb go h v x w t None = refl
bind_packed tb go h v x w t (Some m) = one (meant h.places (number_of m.name)) (kind_at (next_place tb h.destination) v.unused (meant h.places (number_of m.name))) where
  one : (q : Option Rattle.gib_local.specs.Building.Meant) (k : Option Kind) → put_at go h v x t m q k ≡ and_then (kind_due m.name.span.start k (place_meant q)) (put_of go h v x t)
  one q None = refl
  one q (Some k) = refl

-- lines

-- What goes on behind the binding of a line, and behind its last term.
abbrev last_of : List Bind → Termed → Placed Termed
last_of bs k = Ok (record k { term = prepend bs k.term })

abbrev rest_of : Program → Line → Stepped → Placed Termed
rest_of p u r = and_then (build p u r.around r.passed) (last_of r.binds)

pub within_made : (p : Program) (b0 b1 b2 b3 b4 : Builder) (g0 g1 : Goal) (o : Option CoreBinding) (last id : TermId) (depth : Depth) (c : Binding) (u : Line) → depth.variables ≡ length b0.variables → depth.places ≡ length b0.places
    → Opens b0 b1 g1 o (build_binding p c (around_of b0 g0) (passed_of b0)) → Puts b1 b2 last (build p u (around_of b1 g1) (passed_of b1))
    → b3 ≡ record b2 { variables = drop (length b2.variables - depth.variables) b2.variables; places = drop (length b2.places - depth.places) b2.places }
    → PutsTerm b3 b4 id (prepend (binds_of b3.terms o) (term_of b3.terms last.0)) → Puts b0 b4 id (build p (In nowhere c u) (around_of b0 g0) (passed_of b0))
within_made p b0 b1 b2 b3 b4 g0 g1 o last id depth c u dv dp s t l w =
    let same : b3.terms ≡ b2.terms = ap (λ (x : Builder). x.terms) l in
    let term : term_of b4.terms id.0 ≡ prepend (binds_of b1.terms o) (term_of b2.terms last.0) =
    w.term ∙ ap (λ (xs : List Node). prepend (binds_of xs o) (term_of xs last.0)) same ∙ ap (λ bs. prepend bs (term_of b2.terms last.0)) (binds_grow b1.terms b2.terms o t.stays.grows s.below) in
    let passed : passed_of b4 ≡ passed_of b2 = ap passed_of w.is ∙ ap passed_of l in record {
      is =
          ap (λ x. and_then x (rest_of p u)) s.is
          ∙ ap (λ x. and_then x (last_of (binds_of b1.terms o))) t.is
          ∙ (λ i. Ok (record { term = sym term i; passed = sym passed i }));
      stays = record {
        grows = grows_more b0.terms b1.terms b4.terms s.grows (grows_more b1.terms b2.terms b4.terms t.stays.grows (subst (λ xs. Grows xs b4.terms) same w.grows));
        variables = ap (λ (x : Builder). x.variables) w.is ∙ left_same b0.variables b1.variables b2.variables b3.variables depth.variables dv s.variables t.stays.variables (ap (λ (x : Builder). x.variables) l);
        places = ap (λ (x : Builder). x.places) w.is ∙ left_same b0.places b1.places b2.places b3.places depth.places dp s.places t.stays.places (ap (λ (x : Builder). x.places) l);
      };
      inside = w.inside;
    }

pub within_step : (p : Program) (e : BuildFault) (h : Around) (v : Passed) (c : Binding) (u : Line) → Fails e (build_binding p c h v) → Fails e (build p (In nowhere c u) h v)
within_step p e h v c u q = fails_then e (build_binding p c h v) (rest_of p u) q

pub within_rest : (p : Program) (e : BuildFault) (b0 b1 : Builder) (g0 g1 : Goal) (o : Option CoreBinding) (c : Binding) (u : Line) → Opens b0 b1 g1 o (build_binding p c (around_of b0 g0) (passed_of b0)) → Fails e (build p u (around_of b1 g1) (passed_of b1))
    → Fails e (build p (In nowhere c u) (around_of b0 g0) (passed_of b0))
within_rest p e b0 b1 g0 g1 o c u s q =
    fails_for e (build p (In nowhere c u) (around_of b0 g0) (passed_of b0)) (and_then (build p u (around_of b1 g1) (passed_of b1)) (last_of (binds_of b1.terms o)))
    (ap (λ x. and_then x (rest_of p u)) s.is)
    (fails_then e (build p u (around_of b1 g1) (passed_of b1)) (last_of (binds_of b1.terms o)) q)

-- between two sides, where a name is given

pub between_due : (tb : Table) (h : Around) (x : Ident) (n : ℕ) (q : Destination) (o : Option (Ident × Ident)) (named : Ident × Ident) (v : Variable) → o ≡ Some named → v ≡ record { 0 = variable_at (with_variable x n h.variables) (number_of named.1) } → is_last tb q v ≡ true
    → between tb h x n q o ≡ Ok (record h { destination = q; places = with_place named.0 (IsPlace (AtNext v.0)) h.places })
between_due tb h x n q o named v e ev due =
    ap (λ k. between tb h x n q k) e
    ∙ is_due (is_last tb q (record { 0 = variable_at (with_variable x n h.variables) (number_of named.1) })) named.1.span.start
    (given (record h { destination = q; places = with_place named.0 (IsPlace (AtNext (variable_at (with_variable x n h.variables) (number_of named.1)))) h.places })) (ap (λ (k : Variable). is_last tb q k) (sym ev) ∙ due)
    ∙ ap (λ (k : Variable). given (record h { destination = q; places = with_place named.0 (IsPlace (AtNext k.0)) h.places })) (sym ev)

pub between_undue : (tb : Table) (h : Around) (x : Ident) (n : ℕ) (q : Destination) (o : Option (Ident × Ident)) (named : Ident × Ident) (v : Variable) → o ≡ Some named → v ≡ record { 0 = variable_at (with_variable x n h.variables) (number_of named.1) } → is_last tb q v ≡ false
    → between tb h x n q o ≡ Err named.1.span.start
between_undue tb h x n q o named v e ev due =
    ap (λ k. between tb h x n q k) e
    ∙ not_due (is_last tb q (record { 0 = variable_at (with_variable x n h.variables) (number_of named.1) })) named.1.span.start
    (given (record h { destination = q; places = with_place named.0 (IsPlace (AtNext (variable_at (with_variable x n h.variables) (number_of named.1)))) h.places })) (ap (λ (k : Variable). is_last tb q k) (sym ev) ∙ due)
