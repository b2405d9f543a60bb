-- What the loops over fields keep, and a call that is bound.
use Rattle.std.proofs.Common.{◌≡◌, ◌+◌, ◌-◌, ◌<◌, ◌≤◌, List, [], ◌∷◌, ◌++◌, length, refl, sym, ap, ◌∙◌, subst, arith, append_assoc, take, drop, get_or}
use Rattle.gib_base.specs.declared.name.Name.{Name}
use Rattle.gib_types.specs.declared.table.Ty.{Ty}
use Rattle.gib_core.specs.declared.atom.Kind.TheVariants.{Here, Scalar}
use Rattle.gib_core.specs.declared.atom.Variable.{Variable}
use Rattle.gib_core.specs.declared.atom.Atom.{Atom}
use Rattle.gib_core.specs.declared.atom.Atom.TheVariants as a
use Rattle.gib_core.specs.declared.node.TermId.{TermId}
use Rattle.gib_core.specs.declared.node.BoundTerm.{BoundTerm}
use Rattle.gib_core.specs.declared.node.Binding.{Binding}
use Rattle.gib_core.specs.declared.node.Binding.TheVariants as b
use Rattle.gib_core.specs.declared.node.BoundSide.TheVariants as sides
use Rattle.gib_core.specs.Tree.{Point, CallTerm, Bind, One, On}
use Rattle.gib_core.specs.Arena.{Grows, binds_from, term_of}
use Rattle.gib_core.specs.Tree.{variables_from}
use Rattle.gib_core.specs.Inferring.{call_atom, first_type, further_types, pointed_fields, as_atoms}
use Rattle.gib_infer.specs.declared.work.Work.{Work}
use Rattle.gib_infer.specs.Made.{AreBindingsBelow, Keeps, MakesAtom, PointsSoFar, plain_atoms}
use Rattle.gib_infer.proofs.Making.{next_of, pushed, keeps_more}
use Rattle.gib_check.proofs.RowLists.{rest-is}

-- A scalar call that is bound.
pub call_bound : (old mid new : Work) (before after : List Binding) (x : Variable) (f : Name) (xs : List Atom) (of : Ty) (at : TermId) → x.0 ≡ old.fresh → mid ≡ next_of old → Grows mid.terms new.terms → at.0 < length new.terms → term_of new.terms at.0 ≡ CallTerm f xs → new.scope.items ≡ mid.scope.items → new.fresh ≡ mid.fresh → AreBindingsBelow (length old.terms) before → after ≡ before ++ b.One (sides.One (record { kind = Scalar; variable = x; ty = of; term = at })) ∷ [] → MakesAtom old new before after (a.Variable x) of (call_atom of f (plain_atoms old xs))
call_bound old mid new before after x f xs of at ex em g lt et es ef below ea =
    let grows : Grows old.terms new.terms = subst (λ (w : Work). Grows w.terms new.terms) em g in
    let bound : BoundTerm = record { kind = Scalar; variable = x; ty = of; term = at } in
    let p = pushed old.terms new.terms before after (b.One (sides.One bound)) (One (On Scalar (record { 0 = old.fresh }) of (CallTerm f xs))) grows below lt ea (λ i. One (On Scalar (record { 0 = ex i }) of (et i))) in
    record {
      keeps = record { grows = grows; scope = es ∙ ap (λ (w : Work). w.scope.items) em };
      inside = p.below;
      binds = p.binds;
      atom = (λ i. a.Variable (record { 0 = ex i }));
      ty = refl;
      fresh = ef ∙ ap (λ (w : Work). w.fresh) em;
    }

-- One more field points to its atom.
pub points_next : (old now mid newer : Work) (before out more : List Binding) (types types_left types_after : List Ty) (atoms left : List Atom) (d : Atom) (xs ys : List Atom) (x : Variable) (ty : Ty) (at : TermId) → 1 ≤ length left → x.0 ≡ now.fresh → mid ≡ next_of now → Grows mid.terms newer.terms → at.0 < length newer.terms → term_of newer.terms at.0 ≡ Point (get_or left 0 d) → newer.scope.items ≡ mid.scope.items → newer.fresh ≡ mid.fresh → more ≡ out ++ b.One (sides.One (record { kind = Here; variable = x; ty = ty; term = at })) ∷ [] → ys ≡ xs ++ a.Variable x ∷ [] → ty ≡ first_type types_left → types_after ≡ further_types types_left → PointsSoFar old now before out types types_left atoms left xs → PointsSoFar old newer before more types types_after atoms (take (length left - 1) (drop 1 left)) ys
points_next old now mid newer before out more types types_left types_after atoms [] d xs ys x ty at le ex em g lt et es ef eo ey e1 e2 h = absurd (omega (arith, le))
points_next old now mid newer before out more types types_left types_after atoms (p ∷ left) d xs ys x ty at le ex em g lt et es ef eo ey e1 e2 h =
    let grows : Grows now.terms newer.terms = subst (λ (w : Work). Grows w.terms newer.terms) em g in
    let next : newer.fresh ≡ now.fresh + 1 = ef ∙ ap (λ (w : Work). w.fresh) em in
    let bound : BoundTerm = record { kind = Here; variable = x; ty = ty; term = at } in
    let one : Bind = One (On Here (record { 0 = now.fresh }) (first_type types_left) (Point p)) in
    let k = pushed now.terms newer.terms out more (b.One (sides.One bound)) one grows h.inside lt eo (λ i. One (On Here (record { 0 = ex i }) (e1 i) (et i))) in
    let kept : Keeps now newer = record { grows = grows; scope = es ∙ ap (λ (w : Work). w.scope.items) em } in
    let rest = pointed_fields (now.fresh + 1) (further_types types_left) left in
    let others = as_atoms (variables_from (now.fresh + 1) left) in
    let made : PointsSoFar old newer before more types types_after atoms left ys = record {
      keeps = keeps_more old now newer h.keeps kept;
      inside = k.below;
      binds =
          (λ i. k.binds i ++ pointed_fields (next i) (e2 i) left)
          ∙ append_assoc (binds_from (term_of now.terms) out) (one ∷ []) rest
          ∙ h.binds;
      fields =
          (λ i. (ey ∙ (λ j. xs ++ a.Variable (record { 0 = ex j }) ∷ [])) i ++ as_atoms (variables_from (next i) left))
          ∙ append_assoc xs (a.Variable (record { 0 = now.fresh }) ∷ []) others
          ∙ h.fields;
      fresh = (let q = h.fresh in omega (arith, q, next));
    } in
    subst (λ z. PointsSoFar old newer before more types types_after atoms z ys) (sym (rest-is p left)) made
