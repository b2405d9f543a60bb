-- What the steps of the walk make of what their parts made.
use Rattle.std.proofs.Common.{◌≡◌, ℕ, ◌+◌, ◌<◌, ◌≤◌, Bool, true, false, if◌then◌else◌, List, [], ◌∷◌, ◌++◌, map, length, drop, get_or, reverse, Vec, Global, Option, Some, None, refl, sym, ap, ◌∙◌, subst, arith}
use Rattle.std.specs.Prelude.{Result, Ok, Err, IfOk}
use Rattle.std.specs.List.{AllByRecursion}
use Rattle.std.proofs.lemmas.List.{drop_more, drop_all, reverse-append, append-nil, append_assoc, map_push}
use Rattle.gib_core.specs.declared.atom.Variable.{Variable}
use Rattle.gib_core.specs.declared.atom.Atom.{Atom}
use Rattle.gib_core.specs.declared.node.Binding.{Binding}
use Rattle.gib_core.specs.declared.node.Binding.TheVariants as b
use Rattle.gib_core.specs.declared.node.BoundTerm.{BoundTerm}
use Rattle.gib_core.specs.declared.node.BoundParts.{BoundParts}
use Rattle.gib_core.specs.declared.node.BoundSide.{BoundSide}
use Rattle.gib_core.specs.declared.node.BoundSide.TheVariants as s
use Rattle.gib_core.specs.declared.part_types.PartTypes.{PartTypes}
use Rattle.gib_core.specs.PartTypes.{types_in}
use Rattle.gib_core.specs.declared.node.Branch.{Branch}
use Rattle.gib_core.specs.declared.node.Node.{Node}
use Rattle.gib_core.specs.declared.node.Node.TheVariants as n
use Rattle.gib_core.specs.declared.node.TermId.{TermId}
use Rattle.gib_core.specs.Tree.{Term, Then, Write, Point, Give, CaseTerm, IfTerm, Tuple, PartThen, Bind, Past, One, Both, Prim, Reach, Side, On, Several, BranchThen, variables_from, prepend}
use Rattle.gib_core.specs.Inferring.{as_atoms}
use Rattle.gib_core.specs.Arena.{Grows, IsBindingBelow, IsLine, PartsBelow, term_in, side_from, bind_from, binds_from, parts_from, branches_from, layer, term_of}
use Rattle.gib_place.specs.declared.field.Field.{Field}
use Rattle.gib_place.specs.declared.line.Head.{Head}
use Rattle.gib_place.specs.declared.line.Line.{Line}
use Rattle.gib_place.specs.declared.line.Laid.{Laid as Made}
use Rattle.gib_place.specs.Placing.{binding_first, room_first, filling_of, ending_of, fill, are_fields, lay, laid_line, place_line, place_inner, inner_bind, inner_side, inner_parts, inner_branches, place}
use Rattle.gib_place.specs.Filled.{field_of, IsOtherEnd, LaysLine, filling_from, ending_with}
use Rattle.gib_place.specs.Made.{MakesTerm, MakesBinding, MakesBindings, MakesSide, MakesEnd, MakesParts, MakesBranch, MakesBranches}
use Rattle.gib_place.proofs.Found.{with_field, ending_then}
use Rattle.gib_core.proofs.Fronting.{below_more, parts_below_more, branches_below_more, binds_same, parts_same, branches_same, grows_more, grows_none}
use Rattle.gib_core.specs.ArenaLaws.{side_same}
use Rattle.gib_core.proofs.Lining.{below_push}

-- What holds of what was made, in each case.
pub made_passed : {E : Type 0} (o : Result TermId E) (P Q : TermId → Type 0) → ((t : TermId) → P t → Q t) → IfOk o P → IfOk o Q
made_passed (Ok t) P Q h p = h t p
made_passed (Err x) P Q h p = tt

no_field : (o : Option Field) → with_field o None ≡ None
no_field None = refl
no_field (Some f) = refl

-- A line that ends otherwise fills no head.
no_ending : (bs : List Bind) (e : Term) → ending_of e ≡ None → ending_of (prepend bs e) ≡ None
no_ending [] e o = o
no_ending (x ∷ bs) e o = ending_then x (prepend bs e) ∙ ap (with_field (field_of x)) (no_ending bs e o) ∙ no_field (field_of x)

no_filling : (bs : List Bind) (e : Term) → ending_of e ≡ None → filling_of e ≡ None → filling_of (prepend bs e) ≡ None
no_filling [] e o p = p
no_filling (Past h k ∷ bs) e o p = ap (room_first h k) (no_ending bs e o)
no_filling (One s ∷ bs) e o p = ap (binding_first (One s)) (no_filling bs e o p)
no_filling (Both fork l r ∷ bs) e o p = ap (binding_first (Both fork l r)) (no_filling bs e o p)
no_filling (Prim x f y z ∷ bs) e o p = ap (binding_first (Prim x f y z)) (no_filling bs e o p)
no_filling (Reach y by ∷ bs) e o p = ap (binding_first (Reach y by)) (no_filling bs e o p)

others_none : (f : ℕ → Term) (end : Node) → IsOtherEnd end → (ending_of (layer f (Some end)) ≡ None) × (filling_of (layer f (Some end)) ≡ None)
others_none f (n.Then x rest) o = absurd o
others_none f (n.Write h k ss ps) o = absurd o
others_none f (n.Point x) o = (refl, refl)
others_none f (n.Call g xs) o = (refl, refl)
others_none f (n.Give x) o = (refl, refl)
others_none f (n.Case x branches) o = (refl, refl)
others_none f (n.If x t u) o = (refl, refl)
others_none f (n.Tuple tys ss ps) o = (refl, refl)

pub other_made : (old new : List Node) (bs : List Binding) (made : TermId) (end : Node) → IsOtherEnd end → Grows old new → made.0 < length new → term_of new made.0 ≡ prepend (binds_from (term_of old) bs) (layer (term_of old) (Some end))
    → (once : Variable → Bool) → MakesTerm old new made (place_line once (prepend (binds_from (term_of old) bs) (layer (term_of old) (Some end))))
other_made old new bs made end o g lt e once = record {
  grows = g;
  inside = lt;
  is = e ∙ ap (fill once (prepend (binds_from (term_of old) bs) (layer (term_of old) (Some end)))) (sym (let q = others_none (term_of old) end o in no_filling (binds_from (term_of old) bs) (layer (term_of old) (Some end)) q.0 q.1));
}

pub other_passed : {E : Type 0} (old new : List Node) (bs : List Binding) (o : Result TermId E) (end : Node) → IsOtherEnd end → IfOk o (λ _. Grows old new) → IfOk o (λ t. t.0 < length new) → IfOk o (λ t. term_of new t.0 ≡ prepend (binds_from (term_of old) bs) (layer (term_of old) (Some end)))
    → IfOk o (λ made. (once : Variable → Bool) → MakesTerm old new made (place_line once (prepend (binds_from (term_of old) bs) (layer (term_of old) (Some end)))))
other_passed old new bs (Ok made) end o g lt e = other_made old new bs made end o g lt e
other_passed old new bs (Err x) end o g lt e = tt

-- A line that fills a head, laid anew or not.
pub laid_made : (once : Variable → Bool) (old new : List Node) (made : TermId) (line : Line) (head : Head) (laid : Made) (packed : List Atom) → LaysLine (term_of old) (length old) once line laid → packed ≡ as_atoms laid.standing.items
    → MakesTerm old new made (prepend (binds_from (term_of old) laid.bindings.items) (Write head.variable head.constructor head.scalars.items packed))
    → MakesTerm old new made (laid_line (ending_with head line.fields.items) (lay once (binds_from (term_of old) line.run.items) (Past line.head line.constructor ∷ []) line.fields.items))
laid_made once old new made line head laid packed l ep m = record {
  grows = m.grows;
  inside = m.inside;
  is = m.is ∙ (λ i. prepend (l.binds i) (Write head.variable head.constructor head.scalars.items ((ep ∙ ap as_atoms l.standing) i)));
}

pub no_line : (once : Variable → Bool) (old new : List Node) (made : TermId) (t : Term) → filling_of t ≡ None → MakesTerm old new made t → MakesTerm old new made (place_line once t)
no_line once old new made t e m = record { grows = m.grows; inside = m.inside; is = m.is ∙ ap (fill once t) (sym e) }

pub line_stays : (once : Variable → Bool) (f : ℕ → Term) (old new : List Node) (made : TermId) (t : Term) (line : Line) (head : Head) → filling_of t ≡ filling_from f head.variable head.constructor head.scalars.items head.packed.items (Some line) → are_fields once line.fields.items head.packed.items ≡ false
    → MakesTerm old new made t → MakesTerm old new made (place_line once t)
line_stays once f old new made t line head e isnt m = record {
  grows = m.grows;
  inside = m.inside;
  is =
      m.is
      ∙ ap (λ (c : Bool). if c then laid_line (ending_with head line.fields.items) (lay once (binds_from f line.run.items) (Past line.head line.constructor ∷ []) line.fields.items) else t) (sym isnt)
      ∙ ap (fill once t) (sym e);
}

pub line_laid : (once : Variable → Bool) (f : ℕ → Term) (old new : List Node) (made : TermId) (t : Term) (line : Line) (head : Head) → filling_of t ≡ filling_from f head.variable head.constructor head.scalars.items head.packed.items (Some line) → are_fields once line.fields.items head.packed.items ≡ true
    → MakesTerm old new made (laid_line (ending_with head line.fields.items) (lay once (binds_from f line.run.items) (Past line.head line.constructor ∷ []) line.fields.items)) → MakesTerm old new made (place_line once t)
line_laid once f old new made t line head e yes' m = record {
  grows = m.grows;
  inside = m.inside;
  is =
      m.is
      ∙ ap (λ (c : Bool). if c then laid_line (ending_with head line.fields.items) (lay once (binds_from f line.run.items) (Past line.head line.constructor ∷ []) line.fields.items) else t) (sym yes')
      ∙ ap (fill once t) (sym e);
}

-- The end of a line, whose parts were made before it.
pub end_made : (once : Variable → Bool) (old mid new : List Node) (bs : List Binding) (made : TermId) (e is : Term) → Grows old mid → AllByRecursion (IsBindingBelow (length old)) bs → e ≡ is
    → MakesTerm mid new made (place_line once (prepend (binds_from (term_of mid) bs) e)) → MakesTerm old new made (place_line once (prepend (binds_from (term_of old) bs) is))
end_made once old mid new bs made e is g below same m = record {
  grows = grows_more old mid new g m.grows;
  inside = m.inside;
  is = m.is ∙ (λ i. place_line once (prepend (binds_same old mid bs g below i) (same i)));
}

pub end_passed : {E : Type 0} (once : Variable → Bool) (terms old mid new : List Node) (id : ℕ) (bs : List Binding) (end node was : Node) (o : Result TermId E) → Grows old mid → AllByRecursion (IsBindingBelow (length old)) bs → term_of terms id ≡ layer (term_of terms) (Some was) → was ≡ node
    → layer (term_of mid) (Some end) ≡ place_inner once (layer (term_of terms) (Some node)) → IfOk o (λ made. (by : Variable → Bool) → MakesTerm mid new made (place_line by (prepend (binds_from (term_of mid) bs) (layer (term_of mid) (Some end)))))
    → IfOk o (λ made. MakesTerm old new made (place_line once (prepend (binds_from (term_of old) bs) (place_inner once (term_of terms id)))))
end_passed once terms old mid new id bs end node was (Ok made) g below opens is e m =
    end_made once old mid new bs made (layer (term_of mid) (Some end)) (place_inner once (term_of terms id)) g below (e ∙ sym (ap (place_inner once) (opens ∙ ap (λ z. layer (term_of terms) (Some z)) is))) (m once)
end_passed once terms old mid new id bs end node was (Err x) g below opens is e m = tt

-- An end that goes on in other terms.
pub branching_passed : {E : Type 0} (once : Variable → Bool) (terms old mid new : List Node) (id : ℕ) (bs : List Binding) (end was : Node) (o : Result TermId E) → AllByRecursion (IsBindingBelow (length old)) bs → term_of terms id ≡ layer (term_of terms) (Some was)
    → MakesEnd old mid end (place_inner once (layer (term_of terms) (Some was))) → IfOk o (λ made. (by : Variable → Bool) → MakesTerm mid new made (place_line by (prepend (binds_from (term_of mid) bs) (layer (term_of mid) (Some end)))))
    → IfOk o (λ made. MakesTerm old new made (place_line once (prepend (binds_from (term_of old) bs) (place_inner once (term_of terms id)))))
branching_passed once terms old mid new id bs end was o below opens e m = end_passed once terms old mid new id bs end was was o e.grows below opens refl e.is m

pub case_made : (once : Variable → Bool) (f : ℕ → Term) (old new : List Node) (node : Node) (x : Atom) (bs cs : Vec Branch Global) → node ≡ n.Case x bs → MakesBranches old new cs.items (inner_branches once (branches_from f bs.items)) → MakesEnd old new (n.Case x cs) (place_inner once (layer f (Some node)))
case_made once f old new node x bs cs e h = record { grows = h.grows; inside = h.inside; other = tt; is = ap (CaseTerm x) h.are ∙ sym (ap (λ z. place_inner once (layer f (Some z))) e) }

pub if_made : (once : Variable → Bool) (f : ℕ → Term) (old mid new : List Node) (node : Node) (x : Atom) (t u t' u' : TermId) → node ≡ n.If x t u → MakesTerm old mid t' (place once (f t.0)) → MakesTerm mid new u' (place once (f u.0)) → MakesEnd old new (n.If x t' u') (place_inner once (layer f (Some node)))
if_made once f old mid new node x t u t' u' e h k = record {
  grows = grows_more old mid new h.grows k.grows;
  inside = (let lt = h.inside in let le = k.grows.longer in omega arith, k.inside);
  other = tt;
  is = (λ i. IfTerm x ((k.grows.same t'.0 h.inside ∙ h.is) i) (k.is i)) ∙ sym (ap (λ z. place_inner once (layer f (Some z))) e);
}

pub tuple_made : (once : Variable → Bool) (f : ℕ → Term) (old new : List Node) (node : Node) (tys : PartTypes) (ss zs : Vec Atom Global) (ps qs : Vec TermId Global) → node ≡ n.Tuple tys ss ps → zs.items ≡ ss.items
    → MakesParts old new qs.items (inner_parts once (parts_from f ps.items)) → MakesEnd old new (n.Tuple tys zs qs) (place_inner once (layer f (Some node)))
tuple_made once f old new node tys ss zs ps qs e es h = record { grows = h.grows; inside = h.inside; other = tt; is = (λ i. Tuple (types_in tys) (es i) (h.are i)) ∙ sym (ap (λ z. place_inner once (layer f (Some z))) e) }

inner_line : (once : Variable → Bool) (bs : List Bind) (t : Term) → place_inner once (prepend bs t) ≡ prepend (map (inner_bind once) bs) (place_inner once t)
inner_line once [] t = refl
inner_line once (x ∷ bs) t = ap (Then (inner_bind once x)) (inner_line once bs t)

-- A whole line.
pub line_placed : (once : Variable → Bool) (terms old mid new : List Node) (id last : ℕ) (bs cs : List Binding) (made : TermId) → IsLine terms id bs last → MakesBindings old mid cs (map (inner_bind once) (binds_from (term_of terms) bs))
    → MakesTerm mid new made (place_line once (prepend (binds_from (term_of mid) cs) (place_inner once (term_of terms last)))) → MakesTerm old new made (place once (term_of terms id))
line_placed once terms old mid new id last bs cs made l h m = record {
  grows = grows_more old mid new h.grows m.grows;
  inside = m.inside;
  is = m.is ∙ ap (place_line once) ((λ i. prepend (h.are i) (place_inner once (term_of terms last))) ∙ sym (inner_line once (binds_from (term_of terms) bs) (term_of terms last)) ∙ ap (place_inner once) (sym l.term));
}

-- Some bindings of a line.
pub record BindingsSoFar (once : Variable → Bool) (f : ℕ → Term) (bs : List Binding) (i : ℕ) (old now : List Node) (cs : List Binding) : Type 0 where
  pub within : i ≤ length bs
  pub grows : Grows old now
  pub inside : AllByRecursion (IsBindingBelow (length now)) cs
  pub are : binds_from (term_of now) cs ++ map (inner_bind once) (binds_from f (drop i bs)) ≡ map (inner_bind once) (binds_from f bs)

pub bindings_start : (once : Variable → Bool) (f : ℕ → Term) (bs : List Binding) (old : List Node) → BindingsSoFar once f bs 0 old old []
bindings_start once f bs old = record { within = omega arith; grows = grows_none old; inside = tt; are = refl }

pub bindings_next : (once : Variable → Bool) (f : ℕ → Term) (bs : List Binding) (i : ℕ) (old now new : List Node) (cs ds : List Binding) (x d made : Binding) → BindingsSoFar once f bs i old now cs → i < length bs → x ≡ get_or bs i d → MakesBinding now new made (inner_bind once (bind_from f x)) → ds ≡ cs ++ made ∷ [] → BindingsSoFar once f bs (i + 1) old new ds
bindings_next once f bs i old now new cs ds x d made h lt ex m ed =
    let left : drop i bs ≡ x ∷ drop (i + 1) bs = drop_more bs i d lt ∙ ap (λ (z : Binding). z ∷ drop (i + 1) bs) (sym ex) in
    let rest = map (inner_bind once) (binds_from f (drop (i + 1) bs)) in
    record {
      within = omega arith;
      grows = grows_more old now new h.grows m.grows;
      inside = subst (AllByRecursion (IsBindingBelow (length new))) (sym ed) (below_push (length new) cs made (below_more (length now) (length new) cs m.grows.longer h.inside) m.inside);
      are =
          ap (λ z. z ++ rest) (ap (binds_from (term_of new)) ed ∙ map_push (bind_from (term_of new)) cs made ∙ (λ j. binds_same now new cs m.grows h.inside j ++ m.is j ∷ []))
          ∙ append_assoc (binds_from (term_of now) cs) (inner_bind once (bind_from f x) ∷ []) rest
          ∙ ap (λ z. binds_from (term_of now) cs ++ map (inner_bind once) (binds_from f z)) (sym left)
          ∙ h.are;
    }

pub bindings_end : (once : Variable → Bool) (f : ℕ → Term) (bs : List Binding) (i : ℕ) (old now : List Node) (cs : List Binding) → BindingsSoFar once f bs i old now cs → length bs ≤ i → MakesBindings old now cs (map (inner_bind once) (binds_from f bs))
bindings_end once f bs i old now cs h le = record {
  grows = h.grows;
  inside = h.inside;
  are = sym (append-nil (binds_from (term_of now) cs)) ∙ ap (λ z. binds_from (term_of now) cs ++ map (inner_bind once) (binds_from f z)) (sym (drop_all i bs le)) ∙ h.are;
}

-- A binding that has no terms stays; one side, and two.
pub binding_stays : (once : Variable → Bool) (old : List Node) (f : ℕ → Term) (x : Binding) → IsBindingBelow 0 x → MakesBinding old old x (inner_bind once (bind_from f x))
binding_stays once old f (b.Past h k) below = record { grows = grows_none old; inside = tt; is = refl }
binding_stays once old f (b.One s) below = absurd (omega arith)
binding_stays once old f (b.Par fork l r) below = absurd (let p = below.0 in omega arith)
binding_stays once old f (b.Prim x g y z) below = record { grows = grows_none old; inside = tt; is = refl }
binding_stays once old f (b.Reach y by) below = record { grows = grows_none old; inside = tt; is = refl }

pub one_made : (old new : List Node) (made : BoundSide) (s : Side) → MakesSide old new made s → MakesBinding old new (b.One made) (One s)
one_made old new made s h = record { grows = h.grows; inside = h.inside; is = ap One h.is }

pub par_made : (old mid new : List Node) (fork : Bool) (left right : BoundSide) (l r : Side) → MakesSide old mid left l → MakesSide mid new right r → MakesBinding old new (b.Par fork left right) (Both fork l r)
par_made old mid new fork left right l r h k = record {
  grows = grows_more old mid new h.grows k.grows;
  inside = (let lt = h.inside in let le = k.grows.longer in omega arith, k.inside);
  is = λ i. Both fork ((side_same (term_of new) (term_of mid) (length mid) left h.inside k.grows.same ∙ h.is) i) (k.is i);
}

pub side_made : (once : Variable → Bool) (f : ℕ → Term) (old new : List Node) (side : BoundSide) (x : BoundTerm) (id : TermId) → side ≡ s.One x → MakesTerm old new id (place once (f (term_in side).0))
    → MakesSide old new (s.One (record x { term = id })) (inner_side once (side_from f side))
side_made once f old new side x id e h = record {
  grows = h.grows;
  inside = h.inside;
  is = ap (On x.kind x.variable x.ty) (h.is ∙ ap (λ z. place once (f (term_in z).0)) e) ∙ sym (ap (λ z. inner_side once (side_from f z)) e);
}

pub several_made : (once : Variable → Bool) (f : ℕ → Term) (old new : List Node) (side : BoundSide) (x : BoundParts) (id : TermId) → side ≡ s.Several x → MakesTerm old new id (place once (f (term_in side).0))
    → MakesSide old new (s.Several (record x { term = id })) (inner_side once (side_from f side))
several_made once f old new side x id e h = record {
  grows = h.grows;
  inside = h.inside;
  is = ap (Several (variables_from x.first.0 (types_in x.types)) (types_in x.types)) (h.is ∙ ap (λ z. place once (f (term_in z).0)) e) ∙ sym (ap (λ z. inner_side once (side_from f z)) e);
}

-- Parts.
pub parts_none : (once : Variable → Bool) (old : List Node) (f : ℕ → Term) (ts : List TermId) (i : ℕ) → length ts ≤ i → MakesParts old old [] (inner_parts once (parts_from f (drop i ts)))
parts_none once old f ts i le = record { grows = grows_none old; inside = tt; are = ap (λ z. inner_parts once (parts_from f z)) (sym (drop_all i ts le)) }

pub parts_next : (once : Variable → Bool) (f : ℕ → Term) (old now new : List Node) (made x d : TermId) (done more ts : List TermId) (i j : ℕ) → j ≡ i + 1 → j ≤ length ts → x ≡ get_or ts i d → more ≡ done ++ made ∷ []
    → MakesParts old now (reverse done) (inner_parts once (parts_from f (drop j ts))) → MakesTerm now new made (place once (f x.0)) → MakesParts old new (reverse more) (inner_parts once (parts_from f (drop i ts)))
parts_next once f old now new made x d done more ts i j ej le ex em h m =
    let rest = drop (i + 1) ts in
    let left : drop i ts ≡ x ∷ rest = drop_more ts i d (omega arith) ∙ ap (λ (z : TermId). z ∷ rest) (sym ex) in
    let turned : reverse more ≡ made ∷ reverse done = ap reverse em ∙ reverse-append done (made ∷ []) in
    let h' : MakesParts old now (reverse done) (inner_parts once (parts_from f rest)) = subst (λ k. MakesParts old now (reverse done) (inner_parts once (parts_from f (drop k ts)))) ej h in
    let both : MakesParts old new (made ∷ reverse done) (inner_parts once (parts_from f (x ∷ rest))) = record {
      grows = grows_more old now new h.grows m.grows;
      inside = (m.inside, parts_below_more (length now) (length new) (reverse done) m.grows.longer h.inside);
      are = λ k. PartThen (m.is k) ((parts_same now new (reverse done) m.grows h'.inside ∙ h'.are) k);
    } in
    subst (λ z. MakesParts old new z (inner_parts once (parts_from f (drop i ts)))) (sym turned) (subst (λ z. MakesParts old new (made ∷ reverse done) (inner_parts once (parts_from f z))) (sym left) both)

-- Branches.
pub branches_none : (once : Variable → Bool) (old : List Node) (f : ℕ → Term) (bs : List Branch) (i : ℕ) → length bs ≤ i → MakesBranches old old [] (inner_branches once (branches_from f (drop i bs)))
branches_none once old f bs i le = record { grows = grows_none old; inside = tt; are = ap (λ z. inner_branches once (branches_from f z)) (sym (drop_all i bs le)) }

pub branches_next : (once : Variable → Bool) (f : ℕ → Term) (old now new : List Node) (made x d : Branch) (done more bs : List Branch) (i j : ℕ) → j ≡ i + 1 → j ≤ length bs → x ≡ get_or bs i d → more ≡ done ++ made ∷ []
    → MakesBranches old now (reverse done) (inner_branches once (branches_from f (drop j bs))) → MakesBranch now new made x (place once (f x.term.0)) → MakesBranches old new (reverse more) (inner_branches once (branches_from f (drop i bs)))
branches_next once f old now new made x d done more bs i j ej le ex em h m =
    let rest = drop (i + 1) bs in
    let left : drop i bs ≡ x ∷ rest = drop_more bs i d (omega arith) ∙ ap (λ (z : Branch). z ∷ rest) (sym ex) in
    let turned : reverse more ≡ made ∷ reverse done = ap reverse em ∙ reverse-append done (made ∷ []) in
    let h' : MakesBranches old now (reverse done) (inner_branches once (branches_from f rest)) = subst (λ k. MakesBranches old now (reverse done) (inner_branches once (branches_from f (drop k bs)))) ej h in
    let both : MakesBranches old new (made ∷ reverse done) (inner_branches once (branches_from f (x ∷ rest))) = record {
      grows = grows_more old now new h.grows m.grows;
      inside = (m.inside, branches_below_more (length now) (length new) (reverse done) m.grows.longer h.inside);
      are = λ k. BranchThen (m.constructor k) (m.variables k) (m.is k) ((branches_same now new (reverse done) m.grows h'.inside ∙ h'.are) k);
    } in
    subst (λ z. MakesBranches old new z (inner_branches once (branches_from f (drop i bs)))) (sym turned) (subst (λ z. MakesBranches old new (made ∷ reverse done) (inner_branches once (branches_from f z))) (sym left) both)
