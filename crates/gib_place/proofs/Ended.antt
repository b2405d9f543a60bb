-- What the end of a line that fills a head says of its fields and its head.
use Rattle.std.proofs.Common.{◌≡◌, ⊎_elim, ℕ, zero, suc, ◌+◌, ◌≤◌, Bool, true, false, not, ◌&&◌, ◌==◌, if◌then◌else◌, List, [], ◌∷◌, ◌++◌, map, length, Some, refl, sym, ap, ◌∙◌, subst, arith}
use Rattle.std.specs.Prelude.{get_or}
use Rattle.std.proofs.lemmas.Bool.{eqb-true, both_ways, not-false, false_from_ne_true, or_parts, or_from, or_cases, and_parts}
use Rattle.std.proofs.lemmas.List.{append-nil}
use Rattle.gib_types.specs.declared.table.Ty.TheVariants.{Whole}
use Rattle.gib_types.specs.declared.table.ConId.{ConId}
use Rattle.gib_types.specs.Table.{fields_at, scalar_types}
use Rattle.gib_core.specs.declared.atom.Variable.{Variable}
use Rattle.gib_core.specs.declared.atom.Atom.{Atom}
use Rattle.gib_core.specs.declared.atom.Atom.TheVariants as a
use Rattle.gib_core.specs.declared.atom.Kind.TheVariants.{Here}
use Rattle.gib_core.specs.declared.scope.Known.{Known}
use Rattle.gib_core.specs.Tree.{Term, Then, Write, Bind, Past, prepend, CoreTree}
use Rattle.gib_core.specs.Inferring.{as_atoms}
use Rattle.gib_core.specs.Numbering.{binders}
use Rattle.gib_core.specs.Met.{Destination, Open, Setting, PastLine, SideLine, WriteLine, PointLine, Met, packed_types, field_due, with_field, in_side, behind, met, met_bind}
use Rattle.gib_core.specs.Rules.{Before, same_type, is_empty, is_among, type_bound, is_type, has_type, have_types, is_usable, all_usable, is_other, any_other, is_of_type, are_variables, any_cased, further, may_write, are_scalars, rules, next, next_all, type_made}
use Rattle.gib_core.specs.Reachable.{all_reached, LinesAreReachable}
use Rattle.gib_place.specs.declared.field.Field.{Field}
use Rattle.gib_core.specs.Counting.{count_atom, count_in, count}
use Rattle.gib_place.specs.Placing.{pointing, Filling, bound_in, are_fields, place_line}
use Rattle.gib_core.proofs.Along.{none_broken, next_append, reachable_split, same_variable, behind_all, met_all}
use Rattle.gib_core.proofs.Cased.{has, reached_where_has, has_less}
use Rattle.gib_place.proofs.Lays.{Lays, variables}
use Rattle.gib_place.proofs.Counts.{occurs, binders_all, targets, ending_line, filling_line, fields_named, fields_once, counted, count_line, occurs_line, lays_occurs, line_by_steps}
use Rattle.gib_place.proofs.Fitting.{own_count, is_told, Fit, told, fields_fit, scalars_unused}
use Rattle.gib_place.proofs.Wider.{nums, times, none_among}
use Rattle.gib_place.proofs.Weaken.{type_same, types_same, other_eq, any_other_eq}
use Rattle.gib_place.proofs.Scopes.{Scoped, Room}
use Rattle.gib_place.proofs.Kept.{length_one, met_prepend, gains_run, FieldsOk, lays_reach, shift_one, scopes_back, others_behinds, mets_cased, all_empty}
use Rattle.gib_core.proofs.Dests.{usable_first}
use Rattle.gib_core.proofs.Facts.{empty_is}
use Rattle.gib_place.proofs.Means.{fit_none}

bound_fields : (fs : List Field) → bound_in (map pointing fs) ≡ variables fs
bound_fields [] = refl
bound_fields (f ∷ fs) = ap (λ l. f.variable ∷ l) (bound_fields fs)

binders_fields : (fs : List Field) → binders_all (map pointing fs) ≡ map (λ (x : Variable). x.0) (variables fs)
binders_fields [] = refl
binders_fields (f ∷ fs) = ap (λ l. f.variable.0 ∷ l) (binders_fields fs)

fields_place : (h : Variable) (k : ConId) (fs : List Field) (s : Setting) (done : List Variable) → s.destination ≡ Open h k done → (behind_all s (map pointing fs)).destination ≡ Open h k (done ++ variables fs)
fields_place h k [] s done e = e ∙ ap (Open h k) (sym (append-nil done))
fields_place h k (f ∷ fs) s done e =
    fields_place h k fs (behind s (pointing f)) (done ++ f.variable ∷ []) (ap (with_field f.variable) e) ∙ ap (Open h k) (sym (shift_one done f.variable (variables fs)))

first_others : (s : Setting) (xs ys : List Atom) → any_other s (xs ++ ys) ≡ false → (any_other s xs ≡ false) × (any_other s ys ≡ false)
first_others s [] ys e = (refl, e)
first_others s (x ∷ xs) ys e =
    let p = or_parts (is_other s x) (any_other s (xs ++ ys)) e in let q = first_others s xs ys p.1 in (or_from (is_other s x) (any_other s xs) p.0 q.0, q.1)

one_other : (s : Setting) (xs : List Variable) (y : Variable) → any_other s (as_atoms xs) ≡ false → is_among xs y ≡ true → is_among s.others y ≡ false
one_other s [] y e m = absurd cc
one_other s (x ∷ xs) y e m =
    let p = or_parts (is_among s.others x) (any_other s (as_atoms xs)) e in
    ⊎_elim (λ q. subst (λ (z : Variable). is_among s.others z ≡ false) (same_variable x y q) p.0) (λ q. one_other s xs y p.1 q) (or_cases (x.0 == y.0) (is_among xs y) m)

module _ (F : Variable → Bool) (from to : List Known) (narrow : (y : Variable) → has from y ≡ true → F y ≡ false → has to y ≡ true) where
  usable_less : (s z : Setting) (x : Atom) → s.scope ≡ from → z.scope ≡ to → ((y : Variable) → F y ≡ true → count_atom y x ≡ 0) → is_usable (all_reached s) x ≡ true → is_usable (all_reached z) x ≡ true
  usable_less s z (a.Variable y) e f o u =
      reached_where_has z.scope y ∙ (ap (λ k. has k y) f
      ∙ narrow y (ap (λ k. has k y) (sym e) ∙ (sym (reached_where_has s.scope y) ∙ u)) (false_from_ne_true (F y) (λ m. let q = o y m in let r = own_count y in omega arith)))
  usable_less s z (a.Whole n) e f o u = refl
  usable_less s z (a.Truth t) e f o u = refl

  all_usable_less : (s z : Setting) (xs : List Atom) → s.scope ≡ from → z.scope ≡ to → ((y : Variable) → F y ≡ true → count_in y xs ≡ 0) → all_usable (all_reached s) xs ≡ true → all_usable (all_reached z) xs ≡ true
  all_usable_less s z [] e f o u = refl
  all_usable_less s z (x ∷ xs) e f o u =
      let p = and_parts (is_usable (all_reached s) x) (all_usable (all_reached s) xs) u in
      λ i. usable_less s z x e f (λ y m. let q = o y m in omega arith) p.0 i && all_usable_less s z xs e f (λ y m. let q = o y m in omega arith) p.1 i

-- The fields, one after another.
module _ (core : CoreTree) (once : Variable → Bool) (h : Variable) (k : ConId) (F : Variable → Bool) (se : Setting) (be : Before) where
  record Static (f : Field) : Type 0 where
    pub told : F f.variable ≡ true
    pub out : is_told F f.target ≡ false
    pub mine : is_among se.others f.variable ≡ false
    pub uncased : is_among be.cased f.variable ≡ false
    pub target_uncased : (y : Variable) → once y ≡ true → f.target ≡ a.Variable y → is_among be.cased y ≡ false

  abbrev AllStatic : List Field → Type 0
  AllStatic [] = Unit {0}
  AllStatic (f ∷ fs) = Static f × AllStatic fs

  target_in : (s : Setting) (x : Atom) → is_told F x ≡ false → ((y : Variable) → has s.scope y ≡ true → F y ≡ false → has se.scope y ≡ true) → is_usable (all_reached s) x ≡ true → is_usable (all_reached se) x ≡ true
  target_in s (a.Variable y) o n u = reached_where_has se.scope y ∙ n y (sym (reached_where_has s.scope y) ∙ u) o
  target_in s (a.Whole z) o n u = refl
  target_in s (a.Truth t) o n u = refl

  fields_ok : (hw : Variable) (kw : ConId) (ss : List Atom) (fs : List Field) (s : Setting) (b : Before) (done : List Variable) (n : ℕ) → s.destination ≡ Open h k done → n ≡ length done → s.others ≡ se.others
      → ((y : Variable) → has s.scope y ≡ true → F y ≡ false → has se.scope y ≡ true) → ((y : Variable) → has se.scope y ≡ true → type_bound b.bound y ≡ type_bound be.bound y) → ((y : Variable) → has se.scope y ≡ true → times (variables fs) y.0 ≡ 0)
      → AllStatic fs → LinesAreReachable core b (met_all core.table s (map pointing fs)) → FieldsOk core once h k hw kw ss se be n fs
  fields_ok hw kw ss [] s b done n d c o nar ty free st r = tt
  fields_ok hw kw ss (f ∷ fs) s b done n d c o nar ty free st r =
      let line = SideLine Here f.variable f.ty in
      let si = in_side core.table s Here f.ty in
      let bf = next core.table b line in
      let x = none_broken (rules core b (all_reached s) line) r.0 in
      let y = none_broken (rules core bf (all_reached si) (PointLine f.target)) r.1.0 in
      let due : field_due core.table s.destination ≡ get_or (packed_types core.table k) n Whole = ap (field_due core.table) d ∙ ap (λ i. get_or (packed_types core.table k) i Whole) (sym c) in
      let st1 = st.0 in
      let usable = target_in si f.target st1.out nar (not-false (is_usable (all_reached si) f.target) y.1.1.0) in
      let past : (z : Variable) → has se.scope z ≡ true → type_bound bf.bound z ≡ type_bound be.bound z =
      λ z m. ap (λ q. if q then Some f.ty else type_bound b.bound z) (false_from_ne_true (f.variable.0 == z.0) (λ e. let q = free z m in let w = ap (λ (q : Bool). if q then (suc zero) else zero) e in omega arith)) ∙ ty z m in (
        record {
          due = ap (same_type f.ty) (sym due) ∙ not-false (same_type f.ty (field_due core.table s.destination)) x.1.1.0;
          typed = (λ i. is_type (sym (type_same se be bf f.target past usable) i) (sym due i)) ∙ not-false (has_type bf f.target (field_due core.table s.destination)) y.1.1.1.0;
          usable = usable;
          other = other_eq (all_reached se) (all_reached si) f.target (sym o) ∙ y.0;
          mine = st1.mine;
          uncased = st1.uncased;
          target_uncased = st1.target_uncased;
        },
        fields_ok hw kw ss fs (behind s (pointing f)) bf (done ++ f.variable ∷ []) (suc n) (ap (with_field f.variable) d) (ap suc c ∙ sym (length_one done f.variable)) o
            (λ z m q. nar z (has_less f.variable s.scope z (false_from_ne_true (f.variable.0 == z.0) (λ e. both_ways (F z) q (ap F (sym (same_variable f.variable z e)) ∙ st1.told))) m) q)
            past (λ z m. let q = free z m in omega arith) st.1 r.1.1,
      )

  statics : (gs : List Field) (all : List Field) → Fit F [] gs → ((y : Variable) → F y ≡ true → is_among se.others y ≡ false) → ((y : Variable) → F y ≡ true → is_among be.cased y ≡ false)
      → ((y : Variable) → once y ≡ true → 1 ≤ count_in y (targets all) → is_among be.cased y ≡ false) → ((y : Variable) → count_in y (targets gs) ≤ count_in y (targets all)) → AllStatic gs
  statics [] all fit mine uncased spent within = tt
  statics (f ∷ gs) all fit mine uncased spent within = (
    record {
      told = fit.0;
      out = fit.1;
      mine = mine f.variable fit.0;
      uncased = uncased f.variable fit.0;
      target_uncased = λ y o e. spent y o (let q = within y in let w = ap (count_atom y) e in let m = own_count y in omega arith);
    },
    statics gs all fit.4 mine uncased spent (λ y. let q = within y in omega arith),
  )

module _ (core : CoreTree) (once : Variable → Bool) where
  mets_scoped : (bs : List Bind) (s : Setting) (b : Before) → Scoped s.scope b → LinesAreReachable core b (met_all core.table s bs) → Scoped (behind_all s bs).scope (next_all core.table b (met_all core.table s bs))
  mets_scoped [] s b sc r y m = sc y m
  mets_scoped (bd ∷ bs) s b sc r y m =
      let rs = reachable_split core b (met_bind core.table s bd) (met_all core.table (behind s bd) bs) r in
      let e = ap (λ (z : Before). occurs (nums z.bound) y.0) (next_append core.table b (met_bind core.table s bd) (met_all core.table (behind s bd) bs)) in
      let q = mets_scoped bs (behind s bd) (next_all core.table b (met_bind core.table s bd)) (Rattle.gib_place.proofs.Weaken.scoped_after core bd s b sc rs.0) rs.1 y m in
      omega arith

  abbrev pub Uses : Before → Term → Type 0
  Uses b t = (y : Variable) → once y ≡ true → times b.cased y.0 + count t y ≤ 1

  abbrev pub KeepsIt : Term → Term → Type 0
  KeepsIt t u = (s : Setting) (b : Before) → Scoped s.scope b → Room b (binders t) → Uses b t → LinesAreReachable core b (met core.table s t) → LinesAreReachable core b (met core.table s u)

  vars_length : (fs : List Field) → length (variables fs) ≡ length fs
  vars_length [] = refl
  vars_length (f ∷ fs) = ap suc (vars_length fs)

  not_same : (x y : Variable) (n : ℕ) → 1 ≤ n → n + occurs (x.0 ∷ []) y.0 ≤ 1 → (x.0 == y.0) ≡ false
  not_same x y n m o = false_from_ne_true (x.0 == y.0) (λ e. let w : occurs (x.0 ∷ []) y.0 ≡ (suc zero) = ap (λ (c : Bool). (if c then 1 else 0) + 0) e in omega arith)

  laid_keeps : (l : Filling) (cs : List Bind) (xs : List Variable) → are_fields once l.ending.fields l.ending.packed ≡ true → Lays once (Past l.room l.made) false l.run l.ending.fields cs xs
      → KeepsIt (filling_line l) (prepend cs (Write l.ending.head l.ending.con l.ending.scalars (as_atoms xs)))
  laid_keeps l cs xs named lays s b sc ro us r =
      let tb = core.table in
      let h = l.room in
      let k = l.made in
      let fs = l.ending.fields in
      let ss = l.ending.scalars in
      let ps = l.ending.packed in
      let hw = l.ending.head in
      let kw = l.ending.con in
      let few : (y : Variable) → once y ≡ true → count (filling_line l) y ≤ 1 = λ y o. let q = us y o in omega arith in
      let differs : (y : ℕ) → occurs (binders (filling_line l)) y ≤ 1 = λ y. let q = ro y in omega arith in
      let F = told once l named few differs in
      let fit = fields_fit once l named few differs in
      let rest = Then (Past h k) (ending_line l.ending) in
      let se = behind_all s l.run in
      let be = next_all tb b (met_all tb s l.run) in
      let rs = reachable_split core b (met_all tb s l.run) (met tb se rest) (subst (λ (ms : List Met). LinesAreReachable core b ms) (met_prepend core l.run rest s) r) in
      let s1 = behind se (Past h k) in
      let b1 = next tb be (PastLine h k) in
      let pf = none_broken (rules core be (all_reached se) (PastLine h k)) rs.1.0 in
      let opening = and_parts (is_empty se.destination) (is_of_type tb k se.due) (not-false (is_empty se.destination && is_of_type tb k se.due) pf.0) in
      let write = Write hw kw ss ps in
      let r2 = reachable_split core b1 (met_all tb s1 (map pointing fs)) (met tb (behind_all s1 (map pointing fs)) write) (subst (λ (ms : List Met). LinesAreReachable core b1 ms) (met_prepend core (map pointing fs) write s1) rs.1.1) in
      let sE = behind_all s1 (map pointing fs) in
      let bE = next_all tb b1 (met_all tb s1 (map pointing fs)) in
      let wf = none_broken (rules core bE (all_reached sE) (WriteLine hw kw ss ps)) r2.1.0 in
      let dest : sE.destination ≡ Open h k (variables fs) = fields_place h k fs s1 [] refl in
      let may = not-false (may_write tb bE sE.destination hw kw ps) wf.1.0 in
      let may' = and_parts (h.0 == hw.0 && k.0 == kw.0) ((length (variables fs) == length (packed_types tb k) && are_variables (variables fs) ps) && not (any_cased bE.cased (further (variables fs)))) (sym (ap (λ d. may_write tb bE d hw kw ps) dest) ∙ may) in
      let may2 = and_parts (length (variables fs) == length (packed_types tb k) && are_variables (variables fs) ps) (not (any_cased bE.cased (further (variables fs)))) may'.1 in
      let may3 = and_parts (length (variables fs) == length (packed_types tb k)) (are_variables (variables fs) ps) may2.0 in
      let long : length (variables fs) ≡ length (packed_types tb k) = eqb-true (length (variables fs)) (length (packed_types tb k)) may3.0 in
      let same_others : sE.others ≡ se.others = others_behinds core once h k hw kw ss (map pointing fs) s1 in
      let ot = first_others (all_reached sE) ss ps wf.0 in
      let names = fields_named once fs ps named in
      let mine : (y : Variable) → F y ≡ true → is_among se.others y ≡ false =
      λ y m. one_other se (variables fs) y (any_other_eq se (all_reached sE) (as_atoms (variables fs)) (sym same_others) ∙ (ap (any_other (all_reached sE)) (sym names) ∙ ot.1)) m in
      let uncased : (y : Variable) → F y ≡ true → is_among be.cased y ≡ false =
      λ y m. none_among be.cased y (
      let o = fields_once once fs ps named y m in
      let q = us y o in
      let c = count_line l y in
      let n = ap (count_in y) names in
      let one = counted (variables fs) y m in
      let p = mets_cased core l.run s b y in
      omega arith) in
      let spent : (y : Variable) → once y ≡ true → 1 ≤ count_in y (targets fs) → is_among be.cased y ≡ false =
      λ y o m. none_among be.cased y (let q = us y o in let c = count_line l y in let p = mets_cased core l.run s b y in omega arith) in
      let st = statics core once h k F se be fs fs (fit_none F l.run fs fit) mine uncased spent (λ y. omega arith) in
      let scE = mets_scoped l.run s b sc rs.0 in
      let free : (y : Variable) → has se.scope y ≡ true → times (variables fs) y.0 ≡ 0 =
      λ y m. let q = ro y.0 in let c = occurs_line l y.0 in let n = (gains_run core l.run s b).counts y.0 in let z = scE y m in omega arith in
      let types1 : (y : Variable) → has se.scope y ≡ true → type_bound b1.bound y ≡ type_bound be.bound y =
      λ y m. ap (λ c. if c then Some (type_made tb k) else type_bound be.bound y)
      (not_same h y (occurs (nums be.bound) y.0) (scE y m) (let q = ro y.0 in let c = occurs_line l y.0 in let n = (gains_run core l.run s b).counts y.0 in omega arith)) in
      let typesE : (y : Variable) → has se.scope y ≡ true → type_bound bE.bound y ≡ type_bound be.bound y =
      λ y m. (gains_run core (map pointing fs) s1 b1).types y (let f = free y m in let g = ap (λ l. occurs l y.0) (binders_fields fs) in omega arith) ∙ types1 y m in
      let narrow : (y : Variable) → has sE.scope y ≡ true → F y ≡ false → has se.scope y ≡ true =
      λ y m o. scopes_back core (map pointing fs) s1 b1 y r2.0 m (ap (λ l. is_among l y) (bound_fields fs) ∙ o) in
      let usableE = usable_first (all_reached sE) ss ps (not-false (all_usable (all_reached sE) (ss ++ ps)) wf.1.1.0) in
      let usable = all_usable_less F sE.scope se.scope narrow sE se ss refl refl (scalars_unused once l named few differs) usableE in
      let typed : have_types be ss (scalar_types (fields_at tb k.0)) ≡ true =
      sym (types_same se be bE ss (scalar_types (fields_at tb k.0)) typesE usable) ∙ (sym (ap (λ d. are_scalars tb bE d ss) dest) ∙ not-false (are_scalars tb bE sE.destination ss) wf.1.1.1.0) in
      let start = all_empty core l.run s opening.0 in
      let laid = lays_reach core once h k hw kw ss lays s b s.scope b s.whole [] xs 0 be (record {
        is = refl;
        empty = opening.0;
        wider = record { scope = λ y m. m; types = λ y m. refl; cased = refl };
        scoped = sc;
        rooms = λ y. let q = ro y in let c = occurs_line l y in omega arith;
        room = λ y. let q = ro y in let c = occurs_line l y in let p = lays_occurs once h k lays y in omega arith;
        lines = rs.0;
        end = record {
          made = opening.1;
          heads = may'.0;
          others = any_other_eq (all_reached se) (all_reached sE) ss (sym same_others) ∙ ot.0;
          usable = usable;
          typed = typed;
        };
        fields = fields_ok core once h k F se be hw kw ss fs s1 b1 [] 0 refl refl refl (λ y m o. m) types1 free st r2.0;
        count = refl;
        size = let e = vars_length fs in omega arith;
        stand = record { there = λ y m. absurd cc; others = λ y m. absurd cc; uncased = λ y m. absurd cc };
        closed = refl;
      }) refl in
      subst (λ (d : Destination). LinesAreReachable core b (met core.table (record s { destination = d }) (prepend cs (Write hw kw ss (as_atoms xs))))) (sym (empty_is s.destination start)) laid

  pub line_keeps : (t : Term) → KeepsIt t (place_line once t)
  line_keeps t = line_by_steps once KeepsIt (λ z s b sc ro us r. r) laid_keeps t
