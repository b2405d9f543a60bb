-- What the steps of the walk make of what their parts made.
use Rattle.std.proofs.Common.{◌≡◌, ℕ, ◌+◌, ◌<◌, List, [], ◌∷◌, ◌++◌, length, sym, ap, ◌∙◌, subst, append_assoc, take}
use Rattle.std.proofs.lemmas.List.{map-append}
use Rattle.std.proofs.Math.Seq.{take-append_seam}
use Rattle.gib_types.specs.declared.table.Ty.{Ty}
use Rattle.gib_types.specs.declared.operator.Operator.{Operator}
use Rattle.gib_syntax.specs.declared.tree.Ident.{Ident}
use Rattle.gib_types.specs.Operators.{operator_type}
use Rattle.gib_core.specs.declared.atom.Variable.{Variable}
use Rattle.gib_core.specs.declared.atom.Atom.{Atom}
use Rattle.gib_core.specs.declared.atom.Atom.TheVariants as a
use Rattle.gib_core.specs.declared.node.TermId.{TermId}
use Rattle.gib_core.specs.declared.node.BoundTerm.{BoundTerm}
use Rattle.gib_core.specs.declared.node.Node.{Node}
use Rattle.gib_core.specs.declared.node.Node.TheVariants as n
use Rattle.gib_core.specs.declared.node.Binding.{Binding}
use Rattle.gib_core.specs.declared.node.Binding.TheVariants as b
use Rattle.gib_core.specs.declared.node.BoundSide.TheVariants as sides
use Rattle.gib_core.specs.Tree.{Then, IfTerm, Bind, One, Both, On, Prim, prepend, var}
use Rattle.gib_core.specs.Arena.{Grows, Makes, IsBindingBelow, bind_from, binds_from, side_from, term_of}
use Rattle.gib_core.specs.Inferring.{Lined, Atomed, Several, ToLine, ToAtom, boxed, kind_of, operation_atom, let_line, par_line, if_line, slot}
use Rattle.gib_infer.specs.declared.work.Work.{Work}
use Rattle.gib_infer.specs.Made.{scope_of, AreBindingsBelow, Keeps, MakesLine, MakesAtom, MakesAtoms, MakesSide, Binds, pending, pending_atom}
use Rattle.gib_infer.proofs.Finding.{scope_of-push}
use Rattle.gib_core.proofs.Fronting.{below_more, binds_same, grows_more, grows_none}
use Rattle.gib_core.proofs.Lining.{below_push}

abbrev pub next_of : Work → Work
next_of w = record w { fresh = w.fresh + 1 }

pub keeps_more : (a b c : Work) → Keeps a b → Keeps b c → Keeps a c
keeps_more a b c p q = record { grows = grows_more a.terms b.terms c.terms p.grows q.grows; scope = q.scope ∙ p.scope }

-- One more binding stands behind others.
pub record Pushed (old new : List Node) (before after : List Binding) (x : Bind) : Type 0 where
  pub below : AreBindingsBelow (length new) after
  pub binds : binds_from (term_of new) after ≡ binds_from (term_of old) before ++ x ∷ []

pub pushed : (old new : List Node) (before after : List Binding) (x : Binding) (is : Bind) → Grows old new → AreBindingsBelow (length old) before → IsBindingBelow (length new) x → after ≡ before ++ x ∷ [] → bind_from (term_of new) x ≡ is → Pushed old new before after is
pushed old new before after x is g below belowx ea e = record {
  below = rw ea (below_push (length new) before x (below_more (length old) (length new) before g.longer below) belowx);
  binds = ap (binds_from (term_of new)) ea ∙ map-append (bind_from (term_of new)) before (x ∷ []) ∙ (λ i. binds_same old new before g below i ++ e i ∷ []);
}

-- A line that is bound.
pub boxed_made : (old mid new : Work) (before after : List Binding) (x : Variable) (at : TermId) (of : Ty) (line : ToLine) → x.0 ≡ old.fresh → mid ≡ next_of old → AreBindingsBelow (length old.terms) before → MakesLine mid new at of (line (scope_of mid.scope.items) mid.fresh) → after ≡ before ++ b.One (sides.One (record { kind = kind_of of; variable = x; ty = of; term = at })) ∷ [] → MakesAtom old new before after (a.Variable x) of (boxed line (scope_of old.scope.items) old.fresh)
boxed_made old mid new before after x at of line ex em below h ea =
    let sc = scope_of old.scope.items in
    let h' : MakesLine (next_of old) new at of (line sc (old.fresh + 1)) = subst (λ (m : Work). MakesLine m new at of (line (scope_of m.scope.items) m.fresh)) em h in
    let l = line sc (old.fresh + 1) in
    let bound : BoundTerm = record { kind = kind_of of; variable = x; ty = of; term = at } in
    let p = pushed old.terms new.terms before after (b.One (sides.One bound)) (One (On (kind_of l.ty) (record { 0 = old.fresh }) l.ty l.term)) h'.keeps.grows below h'.inside ea (λ i. One (On (kind_of (h'.ty i)) (record { 0 = ex i }) (h'.ty i) (h'.term i))) in
    record {
      keeps = record { grows = h'.keeps.grows; scope = h'.keeps.scope };
      inside = p.below;
      binds = p.binds;
      atom = (λ i. a.Variable (record { 0 = ex i }));
      ty = h'.ty;
      fresh = h'.fresh;
    }

-- An operation on two operands.
pub operation_made : (w0 w1 w2 w3 : Work) (b0 b1 b2 b3 : List Binding) (f : Operator) (left right : Atom) (t1 t2 of : Ty) (x : Variable) (p q : ToAtom) → MakesAtom w0 w1 b0 b1 left t1 (p (scope_of w0.scope.items) w0.fresh) → MakesAtom w1 w2 b1 b2 right t2 (q (scope_of w1.scope.items) w1.fresh) → x.0 ≡ w2.fresh → w3 ≡ next_of w2 → b3 ≡ b2 ++ b.Prim x f left right ∷ [] → of ≡ operator_type f → MakesAtom w0 w3 b0 b3 (a.Variable x) of (operation_atom f p q (scope_of w0.scope.items) w0.fresh)
operation_made w0 w1 w2 w3 b0 b1 b2 b3 f left right t1 t2 of x p q h1 h2 ex e3 eb et =
    let sc = scope_of w0.scope.items in
    let l = p sc w0.fresh in
    let r = q sc l.fresh in
    let same : q (scope_of w1.scope.items) w1.fresh ≡ r = (λ i. q (scope_of (h1.keeps.scope i)) (h1.fresh i)) in
    let h : MakesAtom w1 w2 b1 b2 right t2 r = subst (λ (z : Atomed). MakesAtom w1 w2 b1 b2 right t2 z) same h2 in
    let made : MakesAtom w0 (next_of w2) b0 b3 (a.Variable x) of (operation_atom f p q sc w0.fresh) =
    let k = pushed w2.terms w2.terms b2 b3 (b.Prim x f left right) (Prim (record { 0 = r.fresh }) f l.atom r.atom) (grows_none w2.terms) h.inside tt eb (λ i. Prim (record { 0 = (ex ∙ h.fresh) i }) f (h1.atom i) (h.atom i)) in
    record {
      keeps = keeps_more w0 w1 (next_of w2) h1.keeps (record { grows = h.keeps.grows; scope = h.keeps.scope });
      inside = k.below;
      binds =
          k.binds
          ∙ (λ i. (h.binds ∙ ap (λ z. z ++ r.binds) h1.binds) i ++ Prim (record { 0 = r.fresh }) f l.atom r.atom ∷ [])
          ∙ append_assoc (binds_from (term_of w0.terms) b0 ++ l.binds) r.binds (Prim (record { 0 = r.fresh }) f l.atom r.atom ∷ [])
          ∙ append_assoc (binds_from (term_of w0.terms) b0) l.binds (r.binds ++ Prim (record { 0 = r.fresh }) f l.atom r.atom ∷ []);
      atom = (λ i. a.Variable (record { 0 = (ex ∙ h.fresh) i }));
      ty = et;
      fresh = ap (λ n. n + 1) h.fresh;
    } in
    subst (λ (w : Work). MakesAtom w0 w b0 b3 (a.Variable x) of (operation_atom f p q sc w0.fresh)) (sym e3) made

-- The end of a line whose bindings are those of several atoms.
pub line_after : (w0 w1 w2 : Work) (before out : List Binding) (xs : List Atom) (r : Several) (id : TermId) (of : Ty) (g : Several → Lined) → before ≡ [] → MakesAtoms w0 w1 before out xs r → MakesLine w1 w2 id of (g (pending w1 out xs)) → MakesLine w0 w2 id of (g r)
line_after w0 w1 w2 before out xs r id of g eb h m =
    let same : pending w1 out xs ≡ r = (λ i. record { fresh = h.fresh i; binds = (h.binds ∙ ap (λ z. binds_from (term_of w0.terms) z ++ r.binds) eb) i; atoms = h.atoms i }) in
    let m' : MakesLine w1 w2 id of (g r) = subst (λ (z : Several). MakesLine w1 w2 id of (g z)) same m in
    record { keeps = keeps_more w0 w1 w2 h.keeps m'.keeps; inside = m'.inside; term = m'.term; ty = m'.ty; fresh = m'.fresh }

-- The end of a line whose bindings are those of one atom.
pub line_after_atom : (w0 w1 w2 : Work) (before out : List Binding) (x : Atom) (t : Ty) (r : Atomed) (id : TermId) (of : Ty) (g : Atomed → Lined) → before ≡ [] → MakesAtom w0 w1 before out x t r → MakesLine w1 w2 id of (g (pending_atom w1 out x t)) → MakesLine w0 w2 id of (g r)
line_after_atom w0 w1 w2 before out x t r id of g eb h m =
    let same : pending_atom w1 out x t ≡ r = (λ i. record { fresh = h.fresh i; binds = (h.binds ∙ ap (λ z. binds_from (term_of w0.terms) z ++ r.binds) eb) i; atom = h.atom i; ty = h.ty i }) in
    let m' : MakesLine w1 w2 id of (g r) = subst (λ (z : Atomed). MakesLine w1 w2 id of (g z)) same m in
    record { keeps = keeps_more w0 w1 w2 h.keeps m'.keeps; inside = m'.inside; term = m'.term; ty = m'.ty; fresh = m'.fresh }

-- An atom behind several others.
pub atom_after : (w0 w1 w2 : Work) (b0 b1 b2 : List Binding) (xs : List Atom) (r : Several) (x : Atom) (of : Ty) (g : List Atom → ℕ → Atomed) → MakesAtoms w0 w1 b0 b1 xs r → MakesAtom w1 w2 b1 b2 x of (g xs w1.fresh) → MakesAtom w0 w2 b0 b2 x of (record (g r.atoms r.fresh) { binds = r.binds ++ (g r.atoms r.fresh).binds })
atom_after w0 w1 w2 b0 b1 b2 xs r x of g h m =
    let same : g xs w1.fresh ≡ g r.atoms r.fresh = (λ i. g (h.atoms i) (h.fresh i)) in
    let m' : MakesAtom w1 w2 b1 b2 x of (g r.atoms r.fresh) = subst (λ (z : Atomed). MakesAtom w1 w2 b1 b2 x of z) same m in
    record {
      keeps = keeps_more w0 w1 w2 h.keeps m'.keeps;
      inside = m'.inside;
      binds = m'.binds ∙ ap (λ z. z ++ (g r.atoms r.fresh).binds) h.binds ∙ append_assoc (binds_from (term_of w0.terms) b0) r.binds (g r.atoms r.fresh).binds;
      atom = m'.atom;
      ty = m'.ty;
      fresh = m'.fresh;
    }

-- A `let`.
pub let_made : (w0 w1 w2 w3 w4 : Work) (before bs : List Binding) (x : Ident) (m : ℕ) (at : Atom) (t1 of : Ty) (p : ToAtom) (q : ToLine) (rest term : TermId) → before ≡ [] → MakesAtom w0 w1 before bs at t1 (p (scope_of w0.scope.items) w0.fresh) → m ≡ length w1.scope.items → Binds w1 w2 x at t1 → MakesLine w2 w3 rest of (q (scope_of w2.scope.items) w2.fresh) → w4.scope.items ≡ take m w3.scope.items → w4.fresh ≡ w3.fresh → Grows w3.terms w4.terms → term.0 < length w4.terms → term_of w4.terms term.0 ≡ prepend (binds_from (term_of w3.terms) bs) (term_of w3.terms rest.0) → MakesLine w0 w4 term of (let_line x p q (scope_of w0.scope.items) w0.fresh)
let_made w0 w1 w2 w3 w4 before bs x m at t1 of p q rest term eb h1 em hb h3 es4 ef4 g4 lt e4 =
    let sc = scope_of w0.scope.items in
    let l = p sc w0.fresh in
    let inner : scope_of w2.scope.items ≡ slot x l.atom l.ty ∷ sc =
    ap scope_of hb.scope ∙ scope_of-push w1.scope.items (slot x at t1) ∙ (λ i. slot x (h1.atom i) (h1.ty i) ∷ scope_of (h1.keeps.scope i)) in
    let r = q (slot x l.atom l.ty ∷ sc) l.fresh in
    let same : q (scope_of w2.scope.items) w2.fresh ≡ r = (λ i. q (inner i) ((hb.fresh ∙ h1.fresh) i)) in
    let h : MakesLine w2 w3 rest of r = subst (λ (z : Lined). MakesLine w2 w3 rest of z) same h3 in
    let g13 : Grows w1.terms w3.terms = subst (λ (z : List Node). Grows z w3.terms) hb.terms h.keeps.grows in
    let back : w4.scope.items ≡ w0.scope.items =
    es4 ∙ (λ i. take (em i) ((h.keeps.scope ∙ hb.scope) i)) ∙ take-append_seam w1.scope.items (slot x at t1 ∷ []) ∙ h1.keeps.scope in
    let front : binds_from (term_of w3.terms) bs ≡ l.binds =
    binds_same w1.terms w3.terms bs g13 h1.inside ∙ h1.binds ∙ ap (λ z. binds_from (term_of w0.terms) z ++ l.binds) eb in
    record {
      keeps = record { grows = grows_more w0.terms w3.terms w4.terms (grows_more w0.terms w1.terms w3.terms h1.keeps.grows g13) g4; scope = back };
      inside = lt;
      term = e4 ∙ (λ i. prepend (front i) (h.term i));
      ty = h.ty;
      fresh = ef4 ∙ h.fresh;
    }

-- A side with its variable.
pub side_made : (old mid new : Work) (x : Variable) (at : TermId) (of : Ty) (line : ToLine) → x.0 ≡ old.fresh → mid ≡ next_of old → MakesLine mid new at of (line (scope_of mid.scope.items) mid.fresh) → MakesSide old new (record { kind = kind_of of; variable = x; ty = of; term = at }) (line (scope_of old.scope.items) (old.fresh + 1))
side_made old mid new x at of line ex em h =
    let sc = scope_of old.scope.items in
    let h' : MakesLine (next_of old) new at of (line sc (old.fresh + 1)) = subst (λ (m : Work). MakesLine m new at of (line (scope_of m.scope.items) m.fresh)) em h in
    record {
      keeps = record { grows = h'.keeps.grows; scope = h'.keeps.scope };
      inside = h'.inside;
      side = (λ i. On (kind_of (h'.ty i)) (record { 0 = ex i }) (h'.ty i) (h'.term i));
      variable = (λ i. record { 0 = ex i });
      ty = h'.ty;
      fresh = h'.fresh;
    }

side_same : (old new : List Node) (s : BoundTerm) → Grows old new → s.term.0 < length old → side_from (term_of new) (sides.One s) ≡ side_from (term_of old) (sides.One s)
side_same old new s g lt = (λ i. On s.kind s.variable s.ty (g.same s.term.0 lt i))

-- A `let par`.
pub par_made : (w0 w1 w2 w3 w4 w5 w6 : Work) (x y : Ident) (m : ℕ) (l r : BoundTerm) (of : Ty) (p q body : ToLine) (rest term : TermId) → MakesSide w0 w1 l (p (scope_of w0.scope.items) (w0.fresh + 1)) → MakesSide w1 w2 r (q (scope_of w1.scope.items) (w1.fresh + 1)) → m ≡ length w2.scope.items → Binds w2 w3 x (a.Variable l.variable) l.ty → Binds w3 w4 y (a.Variable r.variable) r.ty → MakesLine w4 w5 rest of (body (scope_of w4.scope.items) w4.fresh) → w6.scope.items ≡ take m w5.scope.items → w6.fresh ≡ w5.fresh → Makes w5.terms w6.terms term.0 (n.Then (b.Par Rattle.std.specs.Prelude.false (sides.One l) (sides.One r)) rest) → MakesLine w0 w6 term of (par_line x p y q body (scope_of w0.scope.items) w0.fresh)
par_made w0 w1 w2 w3 w4 w5 w6 x y m l r of p q body rest term h1 h2 em hx hy h5 es6 ef6 made =
    let sc = scope_of w0.scope.items in
    let u = p sc (w0.fresh + 1) in
    let v = q sc (u.fresh + 1) in
    let same2 : q (scope_of w1.scope.items) (w1.fresh + 1) ≡ v = (λ i. q (scope_of (h1.keeps.scope i)) (h1.fresh i + 1)) in
    let k2 : MakesSide w1 w2 r v = subst (λ (z : Lined). MakesSide w1 w2 r z) same2 h2 in
    let k12 = keeps_more w0 w1 w2 h1.keeps k2.keeps in
    let left_slot : slot x (a.Variable l.variable) l.ty ≡ slot x (var w0.fresh) u.ty = (λ i. slot x (a.Variable (h1.variable i)) (h1.ty i)) in
    let right_slot : slot y (a.Variable r.variable) r.ty ≡ slot y (var u.fresh) v.ty = (λ i. slot y (a.Variable ((k2.variable ∙ ap (λ (k : ℕ). let z : Variable = record { 0 = k } in z) h1.fresh) i)) (k2.ty i)) in
    let inner : scope_of w4.scope.items ≡ slot y (var u.fresh) v.ty ∷ slot x (var w0.fresh) u.ty ∷ sc =
    ap scope_of hy.scope ∙ scope_of-push w3.scope.items (slot y (a.Variable r.variable) r.ty)
    ∙ (λ i. right_slot i ∷ (ap scope_of hx.scope ∙ scope_of-push w2.scope.items (slot x (a.Variable l.variable) l.ty)) i)
    ∙ (λ i. slot y (var u.fresh) v.ty ∷ left_slot i ∷ scope_of (k12.scope i)) in
    let t = body (slot y (var u.fresh) v.ty ∷ slot x (var w0.fresh) u.ty ∷ sc) v.fresh in
    let same5 : body (scope_of w4.scope.items) w4.fresh ≡ t = (λ i. body (inner i) ((hy.fresh ∙ hx.fresh ∙ k2.fresh) i)) in
    let k5 : MakesLine w4 w5 rest of t = subst (λ (z : Lined). MakesLine w4 w5 rest of z) same5 h5 in
    let g25 : Grows w2.terms w5.terms = subst (λ (z : List Node). Grows z w5.terms) (hy.terms ∙ hx.terms) k5.keeps.grows in
    let g15 = grows_more w1.terms w2.terms w5.terms k2.keeps.grows g25 in
    let outer : w4.scope.items ≡ w2.scope.items ++ (slot x (a.Variable l.variable) l.ty ∷ slot y (a.Variable r.variable) r.ty ∷ []) =
    hy.scope ∙ ap (λ z. z ++ slot y (a.Variable r.variable) r.ty ∷ []) hx.scope ∙ append_assoc w2.scope.items (slot x (a.Variable l.variable) l.ty ∷ []) (slot y (a.Variable r.variable) r.ty ∷ []) in
    let back : w6.scope.items ≡ w0.scope.items =
    es6 ∙ (λ i. take (em i) ((k5.keeps.scope ∙ outer) i)) ∙ take-append_seam w2.scope.items (slot x (a.Variable l.variable) l.ty ∷ slot y (a.Variable r.variable) r.ty ∷ []) ∙ k12.scope in
    record {
      keeps = record { grows = grows_more w0.terms w5.terms w6.terms (grows_more w0.terms w2.terms w5.terms k12.grows g25) made.grows; scope = back };
      inside = made.inside;
      term = made.term ∙ (λ i. Then (Both Rattle.std.specs.Prelude.false ((side_same w1.terms w5.terms l g15 h1.inside ∙ h1.side) i) ((side_same w2.terms w5.terms r g25 k2.inside ∙ k2.side ∙ (λ j. On (kind_of v.ty) (record { 0 = h1.fresh j }) v.ty v.term)) i)) (k5.term i));
      ty = k5.ty;
      fresh = ef6 ∙ k5.fresh;
    }

-- An `if`.
pub if_made : (w0 w1 w2 w3 w4 : Work) (before out : List Binding) (x : Atom) (t1 t2 of : Ty) (c : ToAtom) (p q : ToLine) (s t term : TermId) → before ≡ [] → MakesAtom w0 w1 before out x t1 (c (scope_of w0.scope.items) w0.fresh) → MakesLine w1 w2 s of (p (scope_of w1.scope.items) w1.fresh) → MakesLine w2 w3 t t2 (q (scope_of w2.scope.items) w2.fresh) → w4.scope.items ≡ w3.scope.items → w4.fresh ≡ w3.fresh → Grows w3.terms w4.terms → term.0 < length w4.terms → term_of w4.terms term.0 ≡ prepend (binds_from (term_of w3.terms) out) (IfTerm x (term_of w3.terms s.0) (term_of w3.terms t.0)) → MakesLine w0 w4 term of (if_line c p q (scope_of w0.scope.items) w0.fresh)
if_made w0 w1 w2 w3 w4 before out x t1 t2 of c p q s t term eb h1 h2 h3 es4 ef4 g4 lt e4 =
    let sc = scope_of w0.scope.items in
    let u = c sc w0.fresh in
    let l = p sc u.fresh in
    let r = q sc l.fresh in
    let k2 : MakesLine w1 w2 s of l = subst (λ (z : Lined). MakesLine w1 w2 s of z) (λ i. p (scope_of (h1.keeps.scope i)) (h1.fresh i)) h2 in
    let k3 : MakesLine w2 w3 t t2 r = subst (λ (z : Lined). MakesLine w2 w3 t t2 z) (λ i. q (scope_of ((k2.keeps.scope ∙ h1.keeps.scope) i)) (k2.fresh i)) h3 in
    let g13 = grows_more w1.terms w2.terms w3.terms k2.keeps.grows k3.keeps.grows in
    let front : binds_from (term_of w3.terms) out ≡ u.binds =
    binds_same w1.terms w3.terms out g13 h1.inside ∙ h1.binds ∙ ap (λ z. binds_from (term_of w0.terms) z ++ u.binds) eb in
    record {
      keeps = record { grows = grows_more w0.terms w3.terms w4.terms (grows_more w0.terms w1.terms w3.terms h1.keeps.grows g13) g4; scope = es4 ∙ k3.keeps.scope ∙ k2.keeps.scope ∙ h1.keeps.scope };
      inside = lt;
      term = e4 ∙ (λ i. prepend (front i) (IfTerm (h1.atom i) ((k3.keeps.grows.same s.0 k2.inside ∙ k2.term) i) (k3.term i)));
      ty = k2.ty;
      fresh = ef4 ∙ k3.fresh;
    }
