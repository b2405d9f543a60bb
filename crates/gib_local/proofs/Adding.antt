-- What the steps of the builder leave, in the words of the rules.
use Rattle.std.proofs.Common.{◌≡◌, ℕ, ◌+◌, ◌-◌, ◌<◌, Bool, true, false, not, List, length, Option, Some, None, Ok, Err, refl, sym, ap, ap₂, ◌∙◌, subst}
use Rattle.std.specs.Prelude.{Result}
use Rattle.std.specs.Global.{Vec}
use Rattle.gib_types.specs.Table.{Table, fields_at, at_fields}
use Rattle.gib_types.specs.declared.table.ConId.{ConId}
use Rattle.gib_types.specs.declared.table.Ty.{Ty}
use Rattle.gib_syntax.specs.declared.tree.Ident.{Ident}
use Rattle.gib_syntax.specs.Declarations.{number_of}
use Rattle.gib_core.specs.declared.atom.Atom.{Atom}
use Rattle.gib_core.specs.declared.atom.Atom.TheVariants as a
use Rattle.gib_core.specs.declared.atom.Variable.{Variable}
use Rattle.gib_core.specs.declared.node.Binding.{Binding as CoreBinding}
use Rattle.gib_core.specs.declared.node.Binding.TheVariants as b
use Rattle.gib_core.specs.declared.node.Node.{Node}
use Rattle.gib_core.specs.declared.node.Node.TheVariants as n
use Rattle.gib_core.specs.declared.node.TermId.{TermId}
use Rattle.gib_core.specs.Arena.{Grows, term_of, layer}
use Rattle.gib_core.specs.Tree.{Term, Then, Write, Point, CallTerm, Give, Past, prepend}
use Rattle.gib_core.proofs.Fronting.{grows_more, grows_none}
use Rattle.gib_local.specs.declared.builder.Builder.{Builder}
use Rattle.gib_local.specs.declared.destination.Goal.{Goal}
use Rattle.gib_local.specs.declared.build_fault.BuildFault.{BuildFault}
use Rattle.gib_local.specs.declared.build_fault.BuildFault.TheVariants as f
use Rattle.gib_local_parse.specs.declared.tree.Mark.{Mark}
use Rattle.gib_local.specs.Building.{Place, Around, Passed, Placed, Termed, Stepped, and_then, if_due, aims, no_mark, is_place, meant, call, make, write}
use Rattle.gib_core.specs.Rules.{is_nowhere}
use Rattle.gib_local.specs.Builds.{destination_of, around_of, passed_of, Fails, Stays, PutsNode, PutsTerm, Puts, Builds, binds_of, Steps, call_due, reserved, filled_due}

-- What is made.
abbrev pub given : {A : Type 0} → A → Placed A
given x = Ok x

-- refusals

pub fails_then : {A B : Type 0} (e : BuildFault) (r : Placed A) (go : A → Placed B) → Fails e r → Fails e (and_then r go)
fails_then f.Memory r go h = tt
fails_then (f.Place p) r go h = ap (λ x. and_then x go) h

pub fails_for : {A : Type 0} (e : BuildFault) (r s : Placed A) → r ≡ s → Fails e s → Fails e r
fails_for e r s q h = subst (λ x. Fails e x) (sym q) h

pub not_due : {A : Type 0} (d : Bool) (p : ℕ) (go : Placed A) → d ≡ false → if_due d p go ≡ Err p
not_due d p go h = ap (λ x. if_due x p go) h

pub is_due : {A : Type 0} (d : Bool) (p : ℕ) (go : Placed A) → d ≡ true → if_due d p go ≡ go
is_due d p go h = ap (λ x. if_due x p go) h

-- What is answered for one is answered for another that is the same.
pub builds_for : (old new : Builder) (result : Result TermId BuildFault) (r s : Placed Termed) → r ≡ s → Builds old new result s → Builds old new result r
builds_for old new result r s q h = subst (λ x. Builds old new result x) (sym q) h

pub steps_for : (old new : Builder) (goal : Goal) (result : Result (Option CoreBinding) BuildFault) (r s : Placed Stepped) → r ≡ s → Steps old new goal result s → Steps old new goal result r
steps_for old new goal result r s q h = subst (λ x. Steps old new goal result x) (sym q) h

-- a mark that is in order

abbrev done : Placed (Unit {0})
done = Ok (tt {0})

two_go : {A : Type 0} (d e : Bool) (p q : ℕ) (go : Placed A) → if_due d p (if_due e q done) ≡ done → if_due d p (if_due e q go) ≡ go
two_go true true p q go h = refl
two_go true false p q go h = absurd cc
two_go false e p q go h = absurd cc

two_fail : {A : Type 0} (d e : Bool) (p q x : ℕ) (go : Placed A) → if_due d p (if_due e q done) ≡ Err x → if_due d p (if_due e q go) ≡ Err x
two_fail true true p q x go h = absurd cc
two_fail true false p q x go h = ap (λ k. Err k) (let l : q ≡ x = cc in l)
two_fail false e p q x go h = ap (λ k. Err k) (let l : p ≡ x = cc in l)

pub aims_go : {A : Type 0} (h : Around) (at : Mark) (go : Placed A) → aims h at done ≡ done → aims h at go ≡ go
aims_go h at go e = two_go (not (is_nowhere h.destination)) (is_place h.at (meant h.places (number_of at.name))) at.sign.start at.name.span.start go e

pub aims_fail : {A : Type 0} (h : Around) (at : Mark) (e : BuildFault) (go : Placed A) → Fails e (aims h at done) → Fails e (aims h at go)
aims_fail h at f.Memory go e = tt
aims_fail h at (f.Place p) go e = two_fail (not (is_nowhere h.destination)) (is_place h.at (meant h.places (number_of at.name))) at.sign.start at.name.span.start p go e

pub unmarked_go : {A : Type 0} (at : Option Mark) (go : Placed A) → no_mark at done ≡ done → no_mark at go ≡ go
unmarked_go None go e = refl
unmarked_go (Some at) go e = absurd cc

pub unmarked_fail : {A : Type 0} (at : Option Mark) (e : BuildFault) (go : Placed A) → Fails e (no_mark at done) → Fails e (no_mark at go)
unmarked_fail at f.Memory go e = tt
unmarked_fail None (f.Place p) go e = absurd cc
unmarked_fail (Some at) (f.Place p) go e = ap (λ k. Err k) (let l : at.sign.start ≡ p = cc in l)

pub call_go : (s : Bool) (h : Around) (v : Passed) (x : Ident) (xs : List Atom) (at : Option Mark) → call_due s h x at ≡ done → call s h v x xs at ≡ Ok (record { term = CallTerm x.name xs; passed = v })
call_go true h v x xs at e = unmarked_go at (Ok (record { term = CallTerm x.name xs; passed = v })) e
call_go false h v x xs None e = absurd cc
call_go false h v x xs (Some at) e = aims_go h at (Ok (record { term = CallTerm x.name xs; passed = v })) e

pub call_fail : (s : Bool) (h : Around) (v : Passed) (x : Ident) (xs : List Atom) (at : Option Mark) (e : BuildFault) → Fails e (call_due s h x at) → Fails e (call s h v x xs at)
call_fail s h v x xs at f.Memory e = tt
call_fail true h v x xs at (f.Place p) e = unmarked_fail at (f.Place p) (Ok (record { term = CallTerm x.name xs; passed = v })) e
call_fail false h v x xs None (f.Place p) e = ap (λ k. Err k) (let l : x.span.start ≡ p = cc in l)
call_fail false h v x xs (Some at) (f.Place p) e = aims_fail h at (f.Place p) (Ok (record { term = CallTerm x.name xs; passed = v })) e

-- A constructor's value, once its `@` names the destination.
pub make_flat : (flat : Bool) (tb : Table) (h : Around) (v : Passed) (k : ConId) (at : Mark) (xs : List Atom) → flat ≡ true → aims h at done ≡ done → make flat tb h v k at xs ≡ reserved tb v k xs
make_flat flat tb h v k at xs q e = ap (λ x. make x tb h v k at xs) q ∙ aims_go h at (reserved tb v k xs) e

pub make_open : (flat : Bool) (tb : Table) (h : Around) (v : Passed) (k : ConId) (at : Mark) (xs : List Atom) → flat ≡ false → aims h at done ≡ done → make flat tb h v k at xs ≡ filled_due tb h v k at xs
make_open flat tb h v k at xs q e = ap (λ x. make x tb h v k at xs) q ∙ aims_go h at (filled_due tb h v k at xs) e

pub make_fail : (flat : Bool) (tb : Table) (h : Around) (v : Passed) (k : ConId) (at : Mark) (xs : List Atom) (e : BuildFault) → Fails e (aims h at done) → Fails e (make flat tb h v k at xs)
make_fail true tb h v k at xs e h' = aims_fail h at e (reserved tb v k xs) h'
make_fail false tb h v k at xs e h' = aims_fail h at e (filled_due tb h v k at xs) h'

-- terms

pub node_put : (old new : Builder) (id : TermId) (node : Node) → PutsNode old new id node → PutsTerm old new id (layer (term_of old.terms) (Some node))
node_put old new id node h = record { is = h.is; grows = h.makes.grows; inside = h.makes.inside; term = h.makes.term }

-- A term was put where the rules make it of what goes on.
pub term_put : (old new : Builder) (id : TermId) (t u : Term) (r : Placed Termed) → PutsTerm old new id t → t ≡ u → r ≡ Ok (record { term = u; passed = passed_of old }) → Puts old new id r
term_put old new id t u r h e q = record {
  is = q ∙ (λ i. Ok (record { term = sym (h.term ∙ e) i; passed = sym (ap passed_of h.is) i }));
  stays = record { grows = h.grows; variables = ap (λ (x : Builder). x.variables) h.is; places = ap (λ (x : Builder). x.places) h.is };
  inside = h.inside;
}

pub give_put : (old new : Builder) (id : TermId) (x y : Atom) → PutsNode old new id (n.Give x) → x ≡ y → Puts old new id (Ok (record { term = Give y; passed = passed_of old }))
give_put old new id x y h e = term_put old new id (Give x) (Give y) (Ok (record { term = Give y; passed = passed_of old })) (node_put old new id (n.Give x) h) (ap Give e) refl

pub point_put : (old new : Builder) (goal : Goal) (at : Mark) (id : TermId) (x y : Variable) → PutsNode old new id (n.Point (a.Variable x)) → x ≡ y → aims (around_of old goal) at done ≡ done → Puts old new id (aims (around_of old goal) at (Ok (record { term = Point (a.Variable y); passed = passed_of old })))
point_put old new goal at id x y h e q =
    term_put old new id (Point (a.Variable x)) (Point (a.Variable y)) (aims (around_of old goal) at (Ok (record { term = Point (a.Variable y); passed = passed_of old }))) (node_put old new id (n.Point (a.Variable x)) h) (ap (λ z. Point (a.Variable z)) e)
    (aims_go (around_of old goal) at (Ok (record { term = Point (a.Variable y); passed = passed_of old })) q)

pub call_put : (old new : Builder) (goal : Goal) (s : Bool) (x : Ident) (xs : Vec Atom) (ys : List Atom) (at : Option Mark) (id : TermId) → PutsNode old new id (n.Call x.name xs) → xs.items ≡ ys → call_due s (around_of old goal) x at ≡ done → Puts old new id (call s (around_of old goal) (passed_of old) x ys at)
call_put old new goal s x xs ys at id h e q =
    term_put old new id (CallTerm x.name xs.items) (CallTerm x.name ys) (call s (around_of old goal) (passed_of old) x ys at) (node_put old new id (n.Call x.name xs) h) (ap (CallTerm x.name) e) (call_go s (around_of old goal) (passed_of old) x ys at q)

pub write_put : (old new : Builder) (id : TermId) (tb : Table) (types : List Ty) (head : Variable) (k : ConId) (xs : List Atom) (ss ps : Vec Atom) → types ≡ fields_at tb k.0 → ss.items ≡ at_fields true types xs → ps.items ≡ at_fields false types xs
    → PutsNode old new id (n.Write head k ss ps) → PutsTerm old new id (write tb head k xs)
write_put old new id tb types head k xs ss ps t s p h =
    subst (λ u. PutsTerm old new id u) (ap₂ (λ l m. Write head k l m) (s ∙ ap (λ ts. at_fields true ts xs) t) (p ∙ ap (λ ts. at_fields false ts xs) t)) (node_put old new id (n.Write head k ss ps) h)

pub stays_on : (b0 b1 b2 : Builder) → Stays b0 b1 → Stays b1 b2 → Stays b0 b2
stays_on b0 b1 b2 h g = record { grows = grows_more b0.terms b1.terms b2.terms h.grows g.grows; variables = g.variables ∙ h.variables; places = g.places ∙ h.places }

pub stays_put : (old new : Builder) (id : TermId) (t : Term) → PutsTerm old new id t → Stays old new
stays_put old new id t h = record { grows = h.grows; variables = ap (λ (x : Builder). x.variables) h.is; places = ap (λ (x : Builder). x.places) h.is }

-- A new variable changes nothing else.
stays_fresh : (old new : Builder) (m : ℕ) → new ≡ record old { fresh = m } → Stays old new
stays_fresh old new m e = record {
  grows = subst (λ (x : Builder). Grows old.terms x.terms) (sym e) (grows_none old.terms);
  variables = ap (λ (x : Builder). x.variables) e;
  places = ap (λ (x : Builder). x.places) e;
}

pub reserved_put : (b0 b1 b2 b3 : Builder) (id filled : TermId) (tb : Table) (head : Variable) (k : ConId) (xs : List Atom) → head.0 ≡ b0.fresh → b1 ≡ record b0 { fresh = b0.fresh + 1 } → PutsTerm b1 b2 filled (write tb head k xs)
    → PutsNode b2 b3 id (n.Then (b.Past head k) filled) → Puts b0 b3 id (reserved tb (passed_of b0) k xs)
reserved_put b0 b1 b2 b3 id filled tb head k xs x e w h =
    let p = node_put b2 b3 id (n.Then (b.Past head k) filled) h in
    let same : head ≡ record { 0 = b0.fresh } = (λ i. record { 0 = x i }) in record {
      is = (λ i. Ok (record { term = sym (p.term ∙ ap (Then (Past head k)) w.term ∙ ap (λ (y : Variable). Then (Past y k) (write tb y k xs)) same) i; passed = sym (ap passed_of h.is ∙ ap passed_of w.is ∙ ap passed_of e) i }));
      stays = stays_on b0 b1 b3 (stays_fresh b0 b1 (b0.fresh + 1) e) (stays_on b1 b2 b3 (stays_put b1 b2 filled (write tb head k xs) w) (stays_put b2 b3 id _ p));
      inside = p.inside;
    }

pub filled_put : (old new : Builder) (goal : Goal) (id : TermId) (tb : Table) (k : ConId) (at : Mark) (head : Variable) (xs : List Atom) → head ≡ Rattle.gib_local.specs.Building.head_of (destination_of goal.destination)
    → Rattle.gib_local.specs.Building.is_open_at k (destination_of goal.destination) ≡ true → PutsTerm old new id (write tb head k xs) → Puts old new id (filled_due tb (around_of old goal) (passed_of old) k at xs)
filled_put old new goal id tb k at head xs e o h =
    term_put old new id (write tb head k xs) (write tb (Rattle.gib_local.specs.Building.head_of (destination_of goal.destination)) k xs) (filled_due tb (around_of old goal) (passed_of old) k at xs) h (ap (λ y. write tb y k xs) e)
    (is_due (Rattle.gib_local.specs.Building.is_open_at k (destination_of goal.destination)) at.name.span.start _ o)

-- The bindings of a step, before a term.
pub before_put : (old new : Builder) (o : CoreBinding) (rest id : TermId) → PutsNode old new id (n.Then o rest) → PutsTerm old new id (prepend (binds_of old.terms (Some o)) (term_of old.terms rest.0))
before_put old new o rest id h = node_put old new id (n.Then o rest) h

pub none_before : (old : Builder) (rest : TermId) → rest.0 < length old.terms → PutsTerm old old rest (prepend (binds_of old.terms None) (term_of old.terms rest.0))
none_before old rest lt = record { is = refl; grows = grows_none old.terms; inside = lt; term = refl }
