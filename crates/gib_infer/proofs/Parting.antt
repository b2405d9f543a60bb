-- Several parts: what the walk makes of them.
use Rattle.std.proofs.Common.{◌≡◌, ℕ, ◌+◌, ◌-◌, ◌<◌, ◌≤◌, true, false, List, [], ◌∷◌, ◌++◌, length, map, refl, sym, ap, ◌∙◌, subst, arith, append_assoc, take, drop, get_or}
use Rattle.std.specs.Prelude.{Result, IfOk}
use Rattle.std.specs.List.{AllByRecursion}
use Rattle.std.proofs.lemmas.List.{reverse-append, length-map}
use Rattle.std.proofs.Math.Seq.{take-append_seam}
use Rattle.gib_types.specs.declared.table.Ty.{Ty}
use Rattle.gib_types.specs.declared.table.Ty.TheVariants.{Whole}
use Rattle.gib_syntax.specs.declared.exprs.ExprId.{ExprId}
use Rattle.gib_syntax.specs.declared.exprs.Node.{Node as Expr}
use Rattle.gib_syntax.specs.declared.tree.Ident.{Ident}
use Rattle.gib_syntax.specs.declared.tree.Parameter.{Parameter}
use Rattle.gib_syntax.specs.declared.tree.TypeName.{TypeName}
use Rattle.gib_base.specs.declared.Span.{Span}
use Rattle.gib_syntax.specs.Tree as source
use Rattle.gib_syntax.specs.Tree.{Expression}
use Rattle.gib_syntax.specs.Arena.{tree_of, arguments_from}
use Rattle.gib_syntax.specs.Declarations.{type_of_name}
use Rattle.gib_syntax.specs.Typing.{names_of, types_of}
use Rattle.gib_syntax.specs.Parts.{Parts}
use Rattle.gib_syntax.specs.Meaning.{at_fields}
use Rattle.gib_core.specs.declared.atom.Variable.{Variable}
use Rattle.gib_core.specs.declared.atom.Atom.{Atom}
use Rattle.gib_core.specs.declared.atom.Atom.TheVariants as a
use Rattle.gib_core.specs.declared.node.Binding.{Binding}
use Rattle.gib_core.specs.declared.node.Binding.TheVariants as b
use Rattle.gib_core.specs.declared.node.BoundSide.TheVariants as sides
use Rattle.gib_core.specs.declared.node.Node.{Node}
use Rattle.gib_core.specs.declared.node.Node.TheVariants as n
use Rattle.gib_core.specs.declared.node.TermId.{TermId}
use Rattle.gib_core.specs.declared.scope.Slot.{Slot}
use Rattle.gib_core.specs.declared.node.BoundTerm.{BoundTerm}
use Rattle.gib_core.specs.declared.part_types.PartTypes.{PartTypes}
use Rattle.gib_core.specs.PartTypes.{types_in}
use Rattle.gib_core.specs.Tree as core
use Rattle.gib_core.specs.Tree.{Term, Then, Tuple, PartTerms, NoPart, PartThen, One, Both, variables_from, prepend}
use Rattle.gib_core.specs.Arena.{Grows, Makes, IsPartBelow, parts_from, side_from, binds_from, term_in, term_of}
use Rattle.gib_core.specs.Inferring.{Scope, Lined, Several, Parted, Bounded, Code, ToLine, infer, several, part_lines, tuple_line, several_side, bound_side as of_names, slot, with_fields}
use Rattle.gib_core.specs.ArenaLaws.{side_same}
use Rattle.gib_infer.specs.declared.parts.NamedSide.{NamedSide}
use Rattle.gib_infer.specs.declared.work.Work.{Work}
use Rattle.gib_infer.specs.Made.{scope_of, globals_in, code_at, codes_at, AreBelow, Keeps, MakesLine, MakesAtoms, MakesParts, IsNotOne, MakesSlots, MakesSide, MakesNamed, Enters}
use Rattle.gib_infer.proofs.Finding.{scope_of-push}
use Rattle.gib_infer.proofs.Fits.{variables_same}
use Rattle.gib_infer.proofs.Making.{next_of, keeps_more}
use Rattle.gib_infer.proofs.Calls.{at_fields-map, codes-each}
use Rattle.gib_core.proofs.Fronting.{binds_same, grows_more, parts_same}
use Rattle.gib_check.proofs.RowLists.{rest-is}

-- ---- packed parts

-- Parts, and then others.
abbrev pub join_parts : PartTerms → PartTerms → PartTerms
join_parts NoPart rest = rest
join_parts (PartThen t ps) rest = PartThen t (join_parts ps rest)

join_nothing : (ps : PartTerms) → join_parts ps NoPart ≡ ps
join_nothing NoPart = refl
join_nothing (PartThen t ps) = ap (PartThen t) (join_nothing ps)

parts_push : (f : ℕ → Term) (ts : List TermId) (t : TermId) (rest : PartTerms) → join_parts (parts_from f (ts ++ t ∷ [])) rest ≡ join_parts (parts_from f ts) (PartThen (f t.0) rest)
parts_push f [] t rest = refl
parts_push f (u ∷ ts) t rest = ap (PartThen (f u.0)) (parts_push f ts t rest)

below_parts : (n m : ℕ) (ts : List TermId) (t : TermId) → n ≤ m → AllByRecursion (IsPartBelow n) ts → t.0 < m → AllByRecursion (IsPartBelow m) (ts ++ t ∷ [])
below_parts n m [] t le h lt = (lt, tt)
below_parts n m (u ∷ ts) t le h lt = ((let k = h.0 in omega (arith, le, k)), below_parts n m ts t le h.1 lt)

-- Some parts are made; with the rest they are all.
pub record PartsSoFar (parts : Parts) (exprs : List Expr) (id : ℕ) (old new : Work) (ids left : List ExprId) (ts : List TermId) : Type 0 where
  pub keeps : Keeps old new
  pub below : AreBelow id left
  pub inside : AllByRecursion (IsPartBelow (length new.terms)) ts
  pub made : join_parts (parts_from (term_of new.terms) ts) (part_lines (codes_at parts exprs left) (scope_of old.scope.items) new.fresh).parts ≡ (part_lines (codes_at parts exprs ids) (scope_of old.scope.items) old.fresh).parts
  pub fresh : (part_lines (codes_at parts exprs left) (scope_of old.scope.items) new.fresh).fresh ≡ (part_lines (codes_at parts exprs ids) (scope_of old.scope.items) old.fresh).fresh

pub parts_next : (parts : Parts) (exprs : List Expr) (id : ℕ) (old now newer : Work) (ids left : List ExprId) (d : ExprId) (ts us : List TermId) (t : TermId) (of : Ty) → 1 ≤ length left → PartsSoFar parts exprs id old now ids left ts
    → MakesLine now newer t of ((code_at parts exprs (get_or left 0 d).0).line (scope_of now.scope.items) now.fresh) → us ≡ ts ++ t ∷ [] → PartsSoFar parts exprs id old newer ids (take (length left - 1) (drop 1 left)) us
parts_next parts exprs id old now newer ids [] d ts us t of le h m eu = absurd (omega (arith, le))
parts_next parts exprs id old now newer ids (x ∷ left) d ts us t of le h m eu =
    let sc = scope_of old.scope.items in
    let made = (code_at parts exprs x.0).line sc now.fresh in
    let k : MakesLine now newer t of made = subst (λ (z : Lined). MakesLine now newer t of z) (λ i. (code_at parts exprs x.0).line (scope_of (h.keeps.scope i)) now.fresh) m in
    let r : ℕ → Parted = λ m. part_lines (codes_at parts exprs left) sc m in
    let so_far : PartsSoFar parts exprs id old newer ids left us = record {
      keeps = keeps_more old now newer h.keeps k.keeps;
      below = h.below.1;
      inside = subst (λ z. AllByRecursion (IsPartBelow (length newer.terms)) z) (sym eu) (below_parts (length now.terms) (length newer.terms) ts t k.keeps.grows.longer h.inside k.inside);
      made =
          (λ i. join_parts (parts_from (term_of newer.terms) (eu i)) (r (k.fresh i)).parts)
          ∙ parts_push (term_of newer.terms) ts t (r made.fresh).parts
          ∙ (λ i. join_parts (parts_same now.terms newer.terms ts k.keeps.grows h.inside i) (PartThen (k.term i) (r made.fresh).parts))
          ∙ h.made;
      fresh = (λ i. (r (k.fresh i)).fresh) ∙ h.fresh;
    } in
    subst (λ z. PartsSoFar parts exprs id old newer ids z us) (sym (rest-is x left)) so_far

pub parts_end : (parts : Parts) (exprs : List Expr) (id : ℕ) (old new : Work) (ids left : List ExprId) (ts : List TermId) → length left < 1 → PartsSoFar parts exprs id old new ids left ts → MakesParts old new ts (part_lines (codes_at parts exprs ids) (scope_of old.scope.items) old.fresh)
parts_end parts exprs id old new ids [] ts lt h = record {
  keeps = h.keeps;
  inside = h.inside;
  parts = sym (join_nothing (parts_from (term_of new.terms) ts)) ∙ h.made;
  fresh = h.fresh;
}
parts_end parts exprs id old new ids (x ∷ left) ts lt h = absurd (omega (arith, lt))

-- A tuple.
pub tuple_made : (parts : Parts) (exprs : List Expr) (types given : List Ty) (ids scalar_ids packed_ids : List ExprId) (w0 w1 w2 w3 : Work) (before out : List Binding) (xs : List Atom) (ts : List TermId) (term : TermId)
    → scalar_ids ≡ at_fields true types ids → packed_ids ≡ at_fields false types ids → given ≡ types → before ≡ []
    → MakesAtoms w0 w1 before out xs (several (codes_at parts exprs scalar_ids) (scope_of w0.scope.items) w0.fresh)
    → MakesParts w1 w2 ts (part_lines (codes_at parts exprs packed_ids) (scope_of w1.scope.items) w1.fresh)
    → w3.scope.items ≡ w2.scope.items → w3.fresh ≡ w2.fresh → Grows w2.terms w3.terms → term.0 < length w3.terms
    → term_of w3.terms term.0 ≡ prepend (binds_from (term_of w2.terms) out) (Tuple given xs (parts_from (term_of w2.terms) ts))
    → MakesLine w0 w3 term Whole (tuple_line types (codes_at parts exprs ids) (scope_of w0.scope.items) w0.fresh)
tuple_made parts exprs types given ids scalar_ids packed_ids w0 w1 w2 w3 before out xs ts term es ep eg eb h1 h2 es3 ef3 g3 lt e3 =
    let sc = scope_of w0.scope.items in
    let cs = codes_at parts exprs ids in
    let code : ExprId → Code = λ i. code_at parts exprs i.0 in
    let ss = several (at_fields true types cs) sc w0.fresh in
    let ps = part_lines (at_fields false types cs) sc ss.fresh in
    let k1 : MakesAtoms w0 w1 before out xs ss =
    subst (λ (z : Several). MakesAtoms w0 w1 before out xs z) (λ i. several ((ap (codes_at parts exprs) es ∙ at_fields-map code true types ids) i) sc w0.fresh) h1 in
    let k2 : MakesParts w1 w2 ts ps =
    subst (λ (z : Parted). MakesParts w1 w2 ts z) (λ i. part_lines ((ap (codes_at parts exprs) ep ∙ at_fields-map code false types ids) i) (scope_of (k1.keeps.scope i)) (k1.fresh i)) h2 in
    let front : binds_from (term_of w2.terms) out ≡ ss.binds =
    binds_same w1.terms w2.terms out k2.keeps.grows k1.inside ∙ k1.binds ∙ ap (λ z. binds_from (term_of w0.terms) z ++ ss.binds) eb in
    record {
      keeps = record { grows = grows_more w0.terms w2.terms w3.terms (grows_more w0.terms w1.terms w2.terms k1.keeps.grows k2.keeps.grows) g3; scope = es3 ∙ k2.keeps.scope ∙ k1.keeps.scope };
      inside = lt;
      term = e3 ∙ (λ i. prepend (front i) (Tuple (eg i) (k1.atoms i) (k2.parts i)));
      ty = refl;
      fresh = ef3 ∙ k2.fresh;
    }

pub tuple_opened : (parts : Parts) (exprs : List Expr) (tree : Expression) (p : Span) (as' names : List TypeName) (ids now : List ExprId) (sc : Scope) (n : ℕ) → tree ≡ source.Tuple p as' (arguments_from (tree_of exprs) ids) → names ≡ as' → now ≡ ids
    → tuple_line (map (type_of_name (globals_in parts).table.types) names) (codes_at parts exprs now) sc n ≡ (infer (globals_in parts) tree).line sc n
tuple_opened parts exprs tree p as' names ids now sc n et ea en =
    let types : List TypeName → List Ty = map (type_of_name (globals_in parts).table.types) in
    (λ i. tuple_line (types (ea i)) (codes_at parts exprs (en i)) sc n)
    ∙ (λ i. tuple_line (types as') (sym (codes-each parts exprs ids) i) sc n)
    ∙ sym (ap (λ (z : Expression). (infer (globals_in parts) z).line sc n) et)

-- ---- several names

-- Some names became new variables; with the rest they are all.
pub record SlotsSoFar (types : List ℕ) (old new : Work) (qs left : List Parameter) (slots : List Slot) : Type 0 where
  pub same : new ≡ record old { fresh = new.fresh }
  pub scope : (inner : Scope) → with_fields (names_of left) (types_of types left) new.fresh (scope_of slots ++ inner) ≡ with_fields (names_of qs) (types_of types qs) old.fresh inner
  pub fresh : new.fresh + length left ≡ old.fresh + length qs

pub slots_next : (types : List ℕ) (old now newer : Work) (qs left : List Parameter) (d : Parameter) (slots more : List Slot) (x : Variable) (ty : Ty) → 1 ≤ length left → SlotsSoFar types old now qs left slots → x.0 ≡ now.fresh → newer ≡ next_of now
    → ty ≡ type_of_name types (get_or left 0 d).ty → more ≡ slots ++ slot (get_or left 0 d).name (a.Variable x) ty ∷ [] → SlotsSoFar types old newer qs (take (length left - 1) (drop 1 left)) more
slots_next types old now newer qs [] d slots more x ty le h ex en et em = absurd (omega (arith, le))
slots_next types old now newer qs (q ∷ left) d slots more x ty le h ex en et em =
    let next : newer.fresh ≡ now.fresh + 1 = ap (λ (w : Work). w.fresh) en in
    let last : slot q.name (a.Variable x) ty ≡ slot q.name (core.var now.fresh) (type_of_name types q.ty) = (λ i. slot q.name (a.Variable (record { 0 = ex i })) (et i)) in
    let so_far : SlotsSoFar types old newer qs left more = record {
      same = en ∙ (λ i. record (h.same i) { fresh = now.fresh + 1 }) ∙ (λ i. record old { fresh = sym next i });
      scope = λ inner.
          (λ i. with_fields (names_of left) (types_of types left) (next i) ((ap scope_of em ∙ scope_of-push slots (slot q.name (a.Variable x) ty) ∙ ap (λ z. z ∷ scope_of slots) last) i ++ inner))
          ∙ h.scope inner;
      fresh = (let k = h.fresh in omega (arith, k, next));
    } in
    subst (λ z. SlotsSoFar types old newer qs z more) (sym (rest-is q left)) so_far

pub slots_end : (types : List ℕ) (old new : Work) (qs left : List Parameter) (slots : List Slot) → length left < 1 → SlotsSoFar types old new qs left slots → MakesSlots old new (names_of qs) (types_of types qs) slots
slots_end types old new qs [] slots lt h = record {
  same = h.same;
  scope = h.scope;
  fresh = (let k = h.fresh in let l = length-map qs (λ (q : Parameter). q.name) in omega (arith, k, l));
}
slots_end types old new qs (q ∷ left) slots lt h = absurd (omega (arith, lt))

-- Names come into scope.
entered : (w0 w1 w2 : Work) (x : NamedSide) (f : Scope → Bounded) (sc : Scope) → MakesNamed w0 w1 x f → Enters w1 w2 x.slots.items → scope_of w1.scope.items ≡ sc → scope_of w2.scope.items ≡ (f sc).scope
entered w0 w1 w2 x f sc h e is = ap scope_of e.scope ∙ reverse-append w1.scope.items x.slots.items ∙ ap (λ z. scope_of x.slots.items ++ z) is ∙ h.scope sc

-- One name, or another number of them.

pub only_one : (qs : List Parameter) (d : Parameter) → 1 ≤ length qs → length qs < 2 → names_of qs ≡ (get_or qs 0 d).name ∷ []
only_one [] d some few = absurd (omega (arith, some))
only_one (q ∷ []) d some few = refl
only_one (q ∷ r ∷ qs) d some few = absurd (omega (arith, few))

pub none_is_not_one : (qs : List Parameter) → length qs < 1 → IsNotOne (names_of qs)
none_is_not_one [] lt = tt
none_is_not_one (q ∷ qs) lt = absurd (omega (arith, lt))

pub many_are_not_one : (qs : List Parameter) → 2 ≤ length qs → IsNotOne (names_of qs)
many_are_not_one [] le = absurd (omega (arith, le))
many_are_not_one (q ∷ []) le = absurd (omega (arith, le))
many_are_not_one (q ∷ r ∷ qs) le = tt

not_one_side : (xs : List Ident) (types : List Ty) (c : Code) (sc : Scope) (n : ℕ) (inner : Scope) → IsNotOne xs → several_side xs types c.line sc n inner ≡ of_names xs types c sc n inner
not_one_side [] types c sc n inner h = refl
not_one_side (x ∷ []) types c sc n inner h = absurd h
not_one_side (x ∷ y ∷ xs) types c sc n inner h = refl

-- What is not one name is bound as several.
pub not_one_named : {E : Type 0} (old new : Work) (o : Result NamedSide E) (xs : List Ident) (types : List Ty) (c : Code) (sc : Scope) (n : ℕ) → IsNotOne xs → IfOk o (λ s. MakesNamed old new s (several_side xs types c.line sc n))
    → IfOk o (λ s. MakesNamed old new s (of_names xs types c sc n))
not_one_named old new o xs types c sc n not_one h = subst (λ (z : Scope → Bounded). IfOk o (λ s. MakesNamed old new s z)) (λ i inner. not_one_side xs types c sc n inner not_one i) h

-- One name.
pub one_named : (w0 w1 : Work) (x : Ident) (xs : List Ident) (types : List Ty) (s : BoundTerm) (slots : List Slot) (made : NamedSide) (c : Code) (sc : Scope) → xs ≡ x ∷ [] → MakesSide w0 w1 s (c.side sc (w0.fresh + 1))
    → slots ≡ slot x (a.Variable s.variable) s.ty ∷ [] → made.side ≡ sides.One s → made.slots.items ≡ slots → MakesNamed w0 w1 made (of_names xs types c sc w0.fresh)
one_named w0 w1 x xs types s slots made c sc ex h es ei em = rw ex (record {
  keeps = h.keeps;
  inside = subst (λ z. (term_in z).0 < length w1.terms) (sym ei) h.inside;
  side = λ inner. ap (side_from (term_of w1.terms)) ei ∙ h.side;
  scope = λ inner. ap (λ z. scope_of z ++ inner) (em ∙ es) ∙ (λ i. slot x (a.Variable (h.variable i)) (h.ty i) ∷ inner);
  fresh = λ inner. h.fresh;
})

-- Several names.
pub several_named : (types : List ℕ) (w0 w1 w2 : Work) (qs : List Parameter) (slots : List Slot) (made : NamedSide) (first : Variable) (parts : PartTypes) (term : TermId) (ty : Ty) (line : ToLine)
    → MakesSlots w0 w1 (names_of qs) (types_of types qs) slots → types_in parts ≡ types_of types qs → first.0 ≡ w0.fresh
    → MakesLine w1 w2 term ty (line (scope_of w1.scope.items) w1.fresh)
    → made.side ≡ sides.Several (record { first = first; types = parts; term = term }) → made.slots.items ≡ slots
    → MakesNamed w0 w2 made (several_side (names_of qs) (types_of types qs) line (scope_of w0.scope.items) w0.fresh)
several_named types w0 w1 w2 qs slots made first parts term ty line hs et ef h es em =
    let sc = scope_of w0.scope.items in
    let l = line sc (w0.fresh + length (names_of qs)) in
    let scope : w1.scope.items ≡ w0.scope.items = ap (λ (w : Work). w.scope.items) hs.same in
    let terms : w1.terms ≡ w0.terms = ap (λ (w : Work). w.terms) hs.same in
    let k : MakesLine w1 w2 term ty l = subst (λ (z : Lined). MakesLine w1 w2 term ty z) (λ i. line (scope_of (scope i)) (hs.fresh i)) h in
    record {
      keeps = record { grows = subst (λ (z : List Node). Grows z w2.terms) terms k.keeps.grows; scope = k.keeps.scope ∙ scope };
      inside = subst (λ z. (term_in z).0 < length w2.terms) (sym es) k.inside;
      side = λ inner. ap (side_from (term_of w2.terms)) es
          ∙ (λ i. core.Several (variables_from (ef i) (et i)) (et i) (k.term i))
          ∙ ap (λ z. core.Several z (types_of types qs) l.term) (variables_same w0.fresh (types_of types qs) (names_of qs) (length-map qs (λ (q : Parameter). type_of_name types q.ty) ∙ sym (length-map qs (λ (q : Parameter). q.name))));
      scope = λ inner. ap (λ z. scope_of z ++ inner) em ∙ hs.scope inner;
      fresh = λ inner. k.fresh;
    }

-- A `let` of several names.
pub several_let : (w0 w1 w2 w3 w4 : Work) (m : ℕ) (x : NamedSide) (f : Scope → Bounded) (of : Ty) (body : ToLine) (rest term : TermId) → MakesNamed w0 w1 x f → m ≡ length w1.scope.items → Enters w1 w2 x.slots.items
    → MakesLine w2 w3 rest of (body (scope_of w2.scope.items) w2.fresh) → w4.scope.items ≡ take m w3.scope.items → w4.fresh ≡ w3.fresh → Makes w3.terms w4.terms term.0 (n.Then (b.One x.side) rest)
    → MakesLine w0 w4 term of (let l = f (scope_of w0.scope.items) in let r = body l.scope l.fresh in record { fresh = r.fresh; term = Then (One l.side) r.term; ty = r.ty })
several_let w0 w1 w2 w3 w4 m x f of body rest term h em e h3 es4 ef4 made =
    let sc = scope_of w0.scope.items in
    let l = f sc in
    let r = body l.scope l.fresh in
    let inner = entered w0 w1 w2 x f sc h e (ap scope_of h.keeps.scope) in
    let k : MakesLine w2 w3 rest of r = subst (λ (z : Lined). MakesLine w2 w3 rest of z) (λ i. body (inner i) ((e.fresh ∙ h.fresh sc) i)) h3 in
    let g13 : Grows w1.terms w3.terms = subst (λ (z : List Node). Grows z w3.terms) e.terms k.keeps.grows in
    let back : w4.scope.items ≡ w0.scope.items =
    es4 ∙ (λ i. take (em i) ((k.keeps.scope ∙ e.scope) i)) ∙ take-append_seam w1.scope.items x.slots.items ∙ h.keeps.scope in
    record {
      keeps = record { grows = grows_more w0.terms w3.terms w4.terms (grows_more w0.terms w1.terms w3.terms h.keeps.grows g13) made.grows; scope = back };
      inside = made.inside;
      term = made.term ∙ (λ i. Then (One ((side_same (term_of w3.terms) (term_of w1.terms) (length w1.terms) x.side h.inside g13.same ∙ h.side sc) i)) (k.term i));
      ty = k.ty;
      fresh = ef4 ∙ k.fresh;
    }

-- A `let par` of several names: the right side is bound behind the names of the left one.
pub several_par : (w0 w1 w2 w3 w4 w5 w6 : Work) (m : ℕ) (x y : NamedSide) (f : Scope → Bounded) (g : Scope → ℕ → Scope → Bounded) (of : Ty) (body : ToLine) (rest term : TermId) → MakesNamed w0 w1 x f
    → MakesNamed w1 w2 y (g (scope_of w1.scope.items) w1.fresh) → m ≡ length w2.scope.items → Enters w2 w3 x.slots.items → Enters w3 w4 y.slots.items
    → MakesLine w4 w5 rest of (body (scope_of w4.scope.items) w4.fresh) → w6.scope.items ≡ take m w5.scope.items → w6.fresh ≡ w5.fresh
    → Makes w5.terms w6.terms term.0 (n.Then (b.Par Rattle.std.specs.Prelude.false x.side y.side) rest)
    → MakesLine w0 w6 term of (let sc = scope_of w0.scope.items in let l = f sc in let r = g sc l.fresh l.scope in let t = body r.scope r.fresh in
    record { fresh = t.fresh; term = Then (Both Rattle.std.specs.Prelude.false l.side r.side) t.term; ty = t.ty })
several_par w0 w1 w2 w3 w4 w5 w6 m x y f g of body rest term h1 h2 em e1 e2 h5 es6 ef6 made =
    let sc = scope_of w0.scope.items in
    let l = f sc in
    let r = g sc l.fresh l.scope in
    let t = body r.scope r.fresh in
    let k2 : MakesNamed w1 w2 y (g sc l.fresh) = subst (λ (z : Scope → Bounded). MakesNamed w1 w2 y z) (λ i. g (scope_of (h1.keeps.scope i)) (h1.fresh sc i)) h2 in
    let k12 = keeps_more w0 w1 w2 h1.keeps k2.keeps in
    let left : scope_of w3.scope.items ≡ l.scope =
    ap scope_of e1.scope ∙ reverse-append w2.scope.items x.slots.items ∙ ap (λ z. scope_of x.slots.items ++ scope_of z) k12.scope ∙ h1.scope sc in
    let inner : scope_of w4.scope.items ≡ r.scope =
    ap scope_of e2.scope ∙ reverse-append w3.scope.items y.slots.items ∙ ap (λ z. scope_of y.slots.items ++ z) left ∙ k2.scope l.scope in
    let k5 : MakesLine w4 w5 rest of t = subst (λ (z : Lined). MakesLine w4 w5 rest of z) (λ i. body (inner i) ((e2.fresh ∙ e1.fresh ∙ k2.fresh l.scope) i)) h5 in
    let g25 : Grows w2.terms w5.terms = subst (λ (z : List Node). Grows z w5.terms) (e2.terms ∙ e1.terms) k5.keeps.grows in
    let g15 = grows_more w1.terms w2.terms w5.terms k2.keeps.grows g25 in
    let outer : w4.scope.items ≡ w2.scope.items ++ (x.slots.items ++ y.slots.items) =
    e2.scope ∙ ap (λ z. z ++ y.slots.items) e1.scope ∙ append_assoc w2.scope.items x.slots.items y.slots.items in
    let back : w6.scope.items ≡ w0.scope.items =
    es6 ∙ (λ i. take (em i) ((k5.keeps.scope ∙ outer) i)) ∙ take-append_seam w2.scope.items (x.slots.items ++ y.slots.items) ∙ k12.scope in
    record {
      keeps = record { grows = grows_more w0.terms w5.terms w6.terms (grows_more w0.terms w2.terms w5.terms k12.grows g25) made.grows; scope = back };
      inside = made.inside;
      term = made.term ∙ (λ i. Then (Both Rattle.std.specs.Prelude.false ((side_same (term_of w5.terms) (term_of w1.terms) (length w1.terms) x.side h1.inside g15.same ∙ h1.side sc) i) ((side_same (term_of w5.terms) (term_of w2.terms) (length w2.terms) y.side k2.inside g25.same ∙ k2.side l.scope) i)) (k5.term i));
      ty = k5.ty;
      fresh = ef6 ∙ k5.fresh;
    }
