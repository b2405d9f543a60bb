-- A line: its end, and its bindings from the last to the first, each behind the fields that are reached before it.
use Rattle.std.proofs.Common.{◌≡◌, ℕ, zero, suc, ◌+◌, ◌<◌, ◌≤◌, Bool, ◌||◌, List, [], ◌∷◌, ◌++◌, map, length, drop, get_or, refl, sym, ap, ◌∙◌, subst, arith}
use Rattle.std.specs.List.{AllByRecursion}
use Rattle.std.proofs.Math.Seq.{drop-length}
use Rattle.std.proofs.lemmas.List.{drop_more}
use Rattle.gib_core.specs.declared.node.Binding.{Binding}
use Rattle.gib_core.specs.declared.node.Node.{Node}
use Rattle.gib_core.specs.declared.node.Node.TheVariants as n
use Rattle.gib_core.specs.declared.node.TermId.{TermId}
use Rattle.gib_core.specs.Tree.{Term, Then, Write, Point, CallTerm, Give, CaseTerm, IfTerm, Tuple, Bind, prepend}
use Rattle.gib_core.specs.Arena.{IsBindingBelow, IsEnd, IsLine, Makes, PartsBelow, term_of, bind_from, binds_from}
use Rattle.gib_core.specs.Reaching.{Later, uses, bind_uses, offsets_in, bind_offsets, reach, reach_bind, ends_now, not_now}
use Rattle.gib_access.specs.declared.work.Work.{Work}
use Rattle.gib_access.specs.declared.planning.Planned.{Planned}
use Rattle.gib_access.specs.Used.{Marks}
use Rattle.gib_access.specs.Planned.{ArePlanned, later_of, left_from, ends_at}
use Rattle.gib_access.specs.Made.{Way, Walked, ReachesTerm, ReachesBinding, Fronts}
use Rattle.gib_core.proofs.Fronting.{grows_more}
use Rattle.gib_access.proofs.Plans.{at_binding, at_end, all_left, binds_long}
use Rattle.gib_access.proofs.Walking.{walked_then}

-- The end of a line, with those fields in front that it is the first to use.
end_reached : (w : Way) (fs : List Later) (t : Term) → IsEnd t → reach w.mode w.table w.ended fs t ≡ prepend (ends_now (uses t) fs) (reach w.mode w.table w.ended [] t)
end_reached w fs (Then b u) e = absurd e
end_reached w fs (Write h k ss ps) e = refl
end_reached w fs (Point x) e = refl
end_reached w fs (CallTerm f xs) e = refl
end_reached w fs (Give x) e = refl
end_reached w fs (CaseTerm x bs) e = refl
end_reached w fs (IfTerm x t u) e = refl
end_reached w fs (Tuple tys ss ps) e = refl

-- The bindings of the line before a place are left; the fields that are reached from there on are in it.
pub record LineSoFar (w : Way) (terms : List Node) (bs : List Binding) (last : ℕ) (ps : List Planned) (i : ℕ) (old now : Work) (made : TermId) : Type 0 where
  pub within : i ≤ length bs
  pub reached : ReachesTerm w (left_from i ps) old now made (prepend (binds_from (term_of terms) (drop i bs)) (term_of terms last))

binds_at : (f : ℕ → Term) (bs : List Binding) (i : ℕ) (d : Binding) → get_or (binds_from f bs) i (bind_from f d) ≡ bind_from f (get_or bs i d)
binds_at f [] i d = refl
binds_at f (b ∷ bs) zero d = refl
binds_at f (b ∷ bs) (suc i) d = binds_at f bs i d

-- What was put in front of what was made.
fronted : (w : Way) (fs : List Later) (old now new : Work) (was made : TermId) (t : Term) (binds : List Bind) (front : Term) → ReachesTerm w [] old now was t → Fronts now.terms new.terms made was binds → new.stamps ≡ now.stamps → new.offsets ≡ now.offsets
    → reach w.mode w.table w.ended fs t ≡ prepend binds front → reach w.mode w.table w.ended [] t ≡ front → ReachesTerm w fs old new made t
fronted w fs old now new was made t binds front h f es eo ef e0 = record {
  walked = record {
    grows = grows_more old.terms now.terms new.terms h.walked.grows f.grows;
    marks = subst (λ z. Marks old.stamps z (uses t)) (sym es) h.walked.marks;
    offsets = eo ∙ h.walked.offsets;
  };
  inside = f.inside;
  is = f.is ∙ ap (prepend binds) (h.is ∙ e0) ∙ sym ef;
}

pub line_first : (w : Way) (terms : List Node) (bs : List Binding) (last i : ℕ) (ps : List Planned) (old now new : Work) (was made : TermId)
    → IsEnd (term_of terms last) → ArePlanned (binds_from (term_of terms) bs) (term_of terms last) ps → i ≡ length bs → ReachesTerm w [] old now was (term_of terms last)
    → Fronts now.terms new.terms made was (ends_at i ps) → new.stamps ≡ now.stamps → new.offsets ≡ now.offsets → LineSoFar w terms bs last ps i old new made
line_first w terms bs last i ps old now new was made en planned e h f es eo =
    let g = term_of terms in
    let t = g last in
    let at : ends_now (uses t) (left_from i ps) ≡ ends_at i ps = subst (λ k. ends_now (uses t) (left_from k ps) ≡ ends_at k ps) (binds_long g bs ∙ sym e) (at_end (binds_from g bs) t ps planned) in
    record {
      within = omega (arith, e);
      reached = subst (λ z. ReachesTerm w (left_from i ps) old new made (prepend (binds_from g z) t)) (sym (ap (λ k. drop k bs) e ∙ drop-length bs))
          (fronted w (left_from i ps) old now new was made t (ends_at i ps) (reach w.mode w.table w.ended [] t) h f es eo (end_reached w (left_from i ps) t en ∙ ap (λ z. prepend z (reach w.mode w.table w.ended [] t)) at) refl);
    }

below_at : (n : ℕ) (bs : List Binding) (i : ℕ) (d : Binding) → i < length bs → AllByRecursion (IsBindingBelow n) bs → IsBindingBelow n (get_or bs i d)
below_at n [] i d lt h = absurd (omega (arith, lt))
below_at n (x ∷ bs) zero d lt h = h.0
below_at n (x ∷ bs) (suc i) d lt h = below_at n bs i d (omega (arith, lt)) h.1

-- The terms of the next binding stand below the line's number.
pub line_below : (id : ℕ) (bs : List Binding) (i j : ℕ) (x d : Binding) → AllByRecursion (IsBindingBelow id) bs → j ≤ length bs → j ≡ i + 1 → x ≡ get_or bs i d → IsBindingBelow id x
line_below id bs i j x d below le ej ex = subst (IsBindingBelow id) (sym ex) (below_at id bs i d (omega (arith, ej, le)) below)

-- The parts of the new term stand there.
pub parts_below : (w : Way) (terms : List Node) (bs : List Binding) (last : ℕ) (ps : List Planned) (j : ℕ) (old now mid : Work) (was : TermId) (made : Binding) (x : Bind)
    → LineSoFar w terms bs last ps j old now was → ReachesBinding w now mid made x → PartsBelow (n.Then made was) (length mid.terms)
parts_below w terms bs last ps j old now mid was made x so p = (p.inside, (let lt = so.reached.inside in let le = p.walked.grows.longer in omega (arith, lt, le)))

-- The next binding, before the others, with the fields in front that it is the first to use.
pub line_next : (w : Way) (terms : List Node) (bs : List Binding) (last : ℕ) (ps : List Planned) (i j : ℕ) (old now mid next new : Work) (was put front : TermId) (made x d : Binding)
    → ArePlanned (binds_from (term_of terms) bs) (term_of terms last) ps
    → LineSoFar w terms bs last ps j old now was → j ≡ i + 1 → x ≡ get_or bs i d → ReachesBinding w now mid made (bind_from (term_of terms) x)
    → Makes mid.terms next.terms put.0 (n.Then made was) → next.stamps ≡ mid.stamps → next.offsets ≡ mid.offsets
    → Fronts next.terms new.terms front put (ends_at i ps) → new.stamps ≡ next.stamps → new.offsets ≡ next.offsets
    → LineSoFar w terms bs last ps i old new front
line_next w terms bs last ps i j old now mid next new was put front made x d planned so ej ex p m es eo f fs fo =
    let g = term_of terms in
    let t = g last in
    let bd = bind_from g x in
    let rest = prepend (binds_from g (drop (i + 1) bs)) t in
    let le = so.within in
    let lt : i < length bs = omega (arith, ej, le) in
    let there = at_binding (binds_from g bs) t i (bind_from g d) ps (let q = binds_long g bs in omega (arith, lt, q)) planned in
    let same : get_or (binds_from g bs) i (bind_from g d) ≡ bd = binds_at g bs i d ∙ ap (bind_from g) (sym ex) in
    let now_is : ends_now (bind_uses bd) (left_from i ps) ≡ ends_at i ps = subst (λ (b : Bind). ends_now (bind_uses b) (left_from i ps) ≡ ends_at i ps) same there.0 in
    let behind_is : not_now (bind_uses bd) (left_from i ps) ≡ left_from j ps = subst (λ (b : Bind). not_now (bind_uses b) (left_from i ps) ≡ left_from (suc i) ps) same there.1 ∙ ap (λ k. left_from k ps) (omega (arith, ej)) in
    let behind : ReachesTerm w (left_from j ps) old now was rest = subst (λ k. ReachesTerm w (left_from j ps) old now was (prepend (binds_from g (drop k bs)) t)) ej so.reached in
    let steps : Walked old mid (uses (Then bd rest)) (bind_offsets w.mode w.table w.ended bd ++ offsets_in w.mode w.table w.ended rest) =
    walked_then old now mid (uses rest) (bind_uses bd) (offsets_in w.mode w.table w.ended rest) (bind_offsets w.mode w.table w.ended bd) behind.walked p.walked in
    let left : drop i bs ≡ x ∷ drop (i + 1) bs = drop_more bs i d lt ∙ ap (λ (z : Binding). z ∷ drop (i + 1) bs) (sym ex) in
    let made_is : term_of next.terms put.0 ≡ Then (reach_bind w.mode w.table w.ended bd) (reach w.mode w.table w.ended (left_from j ps) rest) =
    m.term ∙ (λ k. Then (p.is k) ((p.walked.grows.same was.0 behind.inside ∙ behind.is) k)) in
    record {
      within = omega (arith, ej, le);
      reached = subst (λ z. ReachesTerm w (left_from i ps) old new front (prepend (binds_from g z) t)) (sym left) (record {
        walked = record {
          grows = grows_more old.terms next.terms new.terms (grows_more old.terms mid.terms next.terms steps.grows m.grows) f.grows;
          marks = subst (λ z. Marks old.stamps z (uses (Then bd rest))) (sym (fs ∙ es)) steps.marks;
          offsets = fo ∙ eo ∙ steps.offsets;
        };
        inside = f.inside;
        is =
            f.is
            ∙ (λ k. prepend (sym now_is k) (made_is k))
            ∙ ap (λ (z : List Later). prepend (ends_now (bind_uses bd) (left_from i ps)) (Then (reach_bind w.mode w.table w.ended bd) (reach w.mode w.table w.ended z rest))) (sym behind_is);
      });
    }

-- None is left.
pub line_whole : (w : Way) (terms : List Node) (id : ℕ) (bs : List Binding) (last i : ℕ) (ps : List Planned) (old new : Work) (made : TermId)
    → IsLine terms id bs last → LineSoFar w terms bs last ps i old new made → i ≡ 0 → ReachesTerm w (map later_of ps) old new made (term_of terms id)
line_whole w terms id bs last i ps old new made line so e =
    let g = term_of terms in
    let all : ReachesTerm w (left_from 0 ps) old new made (prepend (binds_from g bs) (g last)) = subst (λ k. ReachesTerm w (left_from k ps) old new made (prepend (binds_from g (drop k bs)) (g last))) e so.reached in
    subst (λ (fs : List Later). ReachesTerm w fs old new made (term_of terms id)) (all_left ps) (subst (λ z. ReachesTerm w (left_from 0 ps) old new made z) (sym line.term) all)
