-- A line is laid, one binding after another.
use Rattle.std.proofs.Common.{◌≡◌, ℕ, zero, suc, ◌+◌, ◌-◌, ◌<◌, ◌≤◌, Bool, true, false, List, [], ◌∷◌, ◌++◌, map, length, take, drop, get_or, Some, None, refl, sym, ap, ◌∙◌, subst, arith}
use Rattle.std.specs.List.{AllByRecursion}
use Rattle.std.specs.Prelude.{Result, Ok, Err, OnOk}
use Rattle.std.proofs.lemmas.List.{drop_more, drop_all, map-append, append-nil, append_assoc, take-map, drop-map, drop-drop, take_all, length-drop}
use Rattle.gib_types.specs.declared.table.ConId.{ConId}
use Rattle.gib_core.specs.declared.atom.Variable.{Variable}
use Rattle.gib_core.specs.declared.node.Binding.{Binding}
use Rattle.gib_core.specs.declared.node.Binding.TheVariants as b
use Rattle.gib_core.specs.Tree.{Term, Bind, Past}
use Rattle.gib_core.specs.Arena.{IsBindingBelow, bind_from, binds_from}
use Rattle.gib_core.specs.Rules.{is_among}
use Rattle.gib_place.specs.declared.field.Field.{Field}
use Rattle.gib_place.specs.declared.line.Line.{Line}
use Rattle.gib_place.specs.declared.line.Spot.{Spot}
use Rattle.gib_place.specs.declared.line.Laid.{Laid as Made}
use Rattle.gib_place.specs.Late.{Seen, is_late, Timed, binding_variables, run_variables}
use Rattle.gib_place.specs.Placing.{pointing, bound_by, bound_in, Laid, fields_laid, laid_behind, lay_bind, place_bind, lay}
use Rattle.gib_place.specs.Filled.{ArePointing, placed_at, AreLate, room_left, laid_with, room_binding, standing_of, Opens, Puts, LaysSpot, Lays, LaysLine, IsLineOf}
use Rattle.gib_place.proofs.Cutting.{tail_is, same_variables}
use Rattle.gib_core.proofs.Lining.{below_push}

-- What was laid behind other things is laid behind them all.
behind_twice : (cs bs : List Bind) (ss ts : List Variable) (l : Laid) → laid_behind cs ss (laid_behind bs ts l) ≡ laid_behind (cs ++ bs) (ss ++ ts) l
behind_twice cs bs ss ts l = λ i. record { binds = sym (append_assoc cs bs l.binds) i; standing = sym (append_assoc ss ts l.standing) i }

-- Some of the pointing bindings are some of the fields.
pointing_part : (f : ℕ → Term) (n : ℕ) (bs : List Binding) (fs : List Field) (from count : ℕ) → ArePointing f n bs fs → binds_from f (take count (drop from bs)) ≡ map pointing (take count (drop from fs))
pointing_part f n bs fs from count h =
    sym (take-map (bind_from f) count (drop from bs)) ∙ ap (take count) (sym (drop-map (bind_from f) from bs) ∙ ap (drop from) h.are ∙ drop-map pointing from fs) ∙ take-map pointing count (drop from fs)

all_append : (P : Binding → Type 0) (xs ys : List Binding) → AllByRecursion P xs → AllByRecursion P ys → AllByRecursion P (xs ++ ys)
all_append P [] ys h k = k
all_append P (x ∷ xs) ys h k = (h.0, all_append P xs ys h.1 k)

all_take : (P : Binding → Type 0) (xs : List Binding) (n : ℕ) → AllByRecursion P xs → AllByRecursion P (take n xs)
all_take P xs zero h = tt
all_take P [] (suc n) h = tt
all_take P (x ∷ xs) (suc n) h = (h.0, all_take P xs n h.1)

all_drop : (P : Binding → Type 0) (xs : List Binding) (n : ℕ) → AllByRecursion P xs → AllByRecursion P (drop n xs)
all_drop P xs zero h = h
all_drop P [] (suc n) h = tt
all_drop P (x ∷ xs) (suc n) h = all_drop P xs n h.1

all_at : (P : Binding → Type 0) (xs : List Binding) (i : ℕ) (d : Binding) → AllByRecursion P xs → i < length xs → P (get_or xs i d)
all_at P [] i d h lt = absurd (omega arith)
all_at P (x ∷ xs) zero d h lt = h.0
all_at P (x ∷ xs) (suc i) d h lt = all_at P xs i d h.1 (omega arith)

room_same : (f : ℕ → Term) (h : Variable) (k : ConId) (o : Bool) → binds_from f (room_binding h k o) ≡ room_left h k o
room_same f h k true = refl
room_same f h k false = refl

room_below : (n : ℕ) (h : Variable) (k : ConId) (o : Bool) → AllByRecursion (IsBindingBelow n) (room_binding h k o)
room_below n h k true = tt
room_below n h k false = (tt, tt)

-- A binding stays.
pub lays_stays : (f : ℕ → Term) (n : ℕ) (once : Variable → Bool) (late : List Variable) (line : Line) (old new : Made) (binding : Binding) → new.bindings.items ≡ old.bindings.items ++ binding ∷ [] → new.standing.items ≡ old.standing.items → new.is_open ≡ old.is_open → new.used ≡ old.used
    → place_bind once late (bind_from f binding) (drop old.used line.fields.items) ≡ None → Lays f n once late line old new binding
lays_stays f n once late line old new binding eb es eo eu e = record {
  is = λ further.
      let room = room_left line.head line.constructor old.is_open in
      let fields = drop old.used line.fields.items in
      (λ i. laid_behind ((ap (binds_from f) eb ∙ map-append (bind_from f) old.bindings.items (binding ∷ [])) i) ((es ∙ sym (append-nil old.standing.items)) i) (further (room_left line.head line.constructor (eo i)) (drop (eu i) line.fields.items)))
      ∙ sym (behind_twice (binds_from f old.bindings.items) (bind_from f binding ∷ []) old.standing.items [] (further room fields))
      ∙ ap (λ p. laid_behind (binds_from f old.bindings.items) old.standing.items (lay_bind room (bind_from f binding) fields p further)) (sym e);
  below = λ h k. subst (AllByRecursion (IsBindingBelow n)) (sym eb) (below_push n old.bindings.items binding h k);
}

-- A binding is placed.
pub lays_placed : (f : ℕ → Term) (n : ℕ) (once : Variable → Bool) (late : List Variable) (line : Line) (old new : Made) (binding : Binding) (spot : Spot) → ArePointing f n line.pointing.items line.fields.items → (IsBindingBelow n binding → IsBindingBelow n spot.binding) → LaysSpot line spot old new
    → place_bind once late (bind_from f binding) (drop old.used line.fields.items) ≡ Some (placed_at f (drop old.used line.fields.items) spot) → Lays f n once late line old new binding
lays_placed f n once late line old new binding spot p below l e =
    let olds = old.bindings.items in
    let rooms = room_binding line.head line.constructor old.is_open in
    let puts = take spot.before (drop old.used line.pointing.items) in
    let room = room_left line.head line.constructor old.is_open in
    let fields = drop old.used line.fields.items in
    let before = take spot.before fields in
    let parts : binds_from f new.bindings.items ≡ binds_from f olds ++ (room ++ (map pointing before ++ bind_from f spot.binding ∷ [])) =
    ap (binds_from f) l.bindings
    ∙ map-append (bind_from f) olds (rooms ++ (puts ++ spot.binding ∷ []))
    ∙ ap (λ z. binds_from f olds ++ z) (map-append (bind_from f) rooms (puts ++ spot.binding ∷ [])
    ∙ (λ i. room_same f line.head line.constructor old.is_open i ++ (map-append (bind_from f) puts (spot.binding ∷ []) ∙ ap (λ z. z ++ bind_from f spot.binding ∷ []) (pointing_part f n line.pointing.items line.fields.items old.used spot.before p)) i)) in
    record {
      is = λ further.
          (λ i. laid_behind (parts i) (l.standing i) (further (room_left line.head line.constructor (l.is_open i)) ((ap (λ z. drop z line.fields.items) l.used ∙ sym (drop-drop spot.used old.used line.fields.items)) i)))
          ∙ sym (behind_twice (binds_from f olds) (room ++ (map pointing before ++ bind_from f spot.binding ∷ [])) old.standing.items (map (λ (g : Field). g.variable) before ++ standing_of spot.first spot.second) (further [] (drop spot.used fields)))
          ∙ ap (λ q. laid_behind (binds_from f olds) old.standing.items (lay_bind room (bind_from f binding) fields q further)) (sym e);
      below = λ h k. subst (AllByRecursion (IsBindingBelow n)) (sym l.bindings)
          (all_append (IsBindingBelow n) olds (rooms ++ (puts ++ spot.binding ∷ [])) h
          (all_append (IsBindingBelow n) rooms (puts ++ spot.binding ∷ []) (room_below n line.head line.constructor old.is_open)
          (all_append (IsBindingBelow n) puts (spot.binding ∷ []) (all_take (IsBindingBelow n) (drop old.used line.pointing.items) spot.before (all_drop (IsBindingBelow n) line.pointing.items old.used p.below)) (below k, tt))));
    }

pub spot_laid : {T : Type 0} {E : Type 0} (o : Result T E) (once : Variable → Bool) (seen : Seen) (moment : ℕ) (line : Line) (old new : Made) (binding : Binding) (spot : Spot) (items : List Field) → items ≡ line.fields.items → old.used ≤ length line.fields.items → ((n : ℕ) → IsBindingBelow n binding → IsBindingBelow n spot.binding)
    → ((f : ℕ → Term) (late : List Variable) → AreLate seen moment late → place_bind once late (bind_from f binding) (take (length items - old.used) (drop old.used items)) ≡ Some (placed_at f (take (length items - old.used) (drop old.used items)) spot))
    → OnOk o (LaysSpot line spot old new)
    → OnOk o ((f : ℕ → Term) (n : ℕ) (late : List Variable) → ArePointing f n line.pointing.items line.fields.items → AreLate seen moment late → Lays f n once late line old new binding)
spot_laid (Ok u) once seen moment line old new binding spot items same le below e l = λ f n late p h.
    lays_placed f n once late line old new binding spot p (below n) l
    (subst (λ (z : List Field). place_bind once late (bind_from f binding) z ≡ Some (placed_at f z spot)) (ap (λ z. take (length z - old.used) (drop old.used z)) same ∙ tail_is line.fields.items old.used old.used le refl) (e f late h))
spot_laid (Err x) once seen moment line old new binding spot items same le below e l = tt

-- What a run binds in its line.
bound_same : (f : ℕ → Term) (x : Binding) → bound_by (bind_from f x) ≡ binding_variables x
bound_same f (b.Past h k) = refl
bound_same f (b.One s) = same_variables f s
bound_same f (b.Par fork l r) = λ i. same_variables f l i ++ same_variables f r i
bound_same f (b.Prim x g y z) = refl
bound_same f (b.Reach y by) = refl

run_same : (f : ℕ → Term) (xs : List Binding) → bound_in (binds_from f xs) ≡ run_variables xs
run_same f [] = refl
run_same f (x ∷ xs) = λ i. bound_same f x i ++ run_same f xs i

-- What is bound behind a place was bound after its moment.
late_behind : (f : ℕ → Term) (start : ℕ) (run : List Binding) (seen : Seen) (i moment : ℕ) → Timed start run seen → i ≤ length run → moment ≡ start + i → AreLate seen moment (bound_in (binds_from f (drop i run)))
late_behind f start run seen i moment t le e = λ y. ap (λ xs. is_among xs y) (run_same f (drop i run)) ∙ t.late i le y ∙ ap (λ m. is_late seen m y) (sym e)

-- So much of a line is laid.
pub record Laying (once : Variable → Bool) (seen : Seen) (line : Line) (moment i : ℕ) (made : Made) : Type 0 where
  pub start : ℕ
  pub timed : Timed start line.run.items seen
  pub at : moment ≡ start + i
  pub within : i ≤ length line.run.items
  pub used : made.used ≤ length line.fields.items
  pub is : (f : ℕ → Term) (n : ℕ) → IsLineOf f n line → laid_with f line made (λ room fields. lay once (binds_from f (drop i line.run.items)) room fields) ≡ lay once (binds_from f line.run.items) (Past line.head line.constructor ∷ []) line.fields.items
  pub below : (f : ℕ → Term) (n : ℕ) → IsLineOf f n line → AllByRecursion (IsBindingBelow n) made.bindings.items

pub laying_start : (once : Variable → Bool) (seen : Seen) (line : Line) (start : ℕ) (made : Made) → Timed start line.run.items seen → made.bindings.items ≡ [] → made.standing.items ≡ [] → made.is_open ≡ false → made.used ≡ 0 → Laying once seen line start 0 made
laying_start once seen line start made t eb es eo eu = record {
  start = start;
  timed = t;
  at = omega arith;
  within = omega arith;
  used = omega arith;
  is = λ f n h. (λ i. laid_behind (binds_from f (eb i)) (es i) (lay once (binds_from f line.run.items) (room_left line.head line.constructor (eo i)) (drop (eu i) line.fields.items)));
  below = λ f n h. subst (AllByRecursion (IsBindingBelow n)) (sym eb) tt;
}

pub laying_next : (once : Variable → Bool) (seen : Seen) (line : Line) (moment next i : ℕ) (old new : Made) (x d : Binding) → Laying once seen line moment i old → i < length line.run.items → next ≡ moment + 1 → x ≡ get_or line.run.items i d → new.used ≤ length line.fields.items
    → ((f : ℕ → Term) (n : ℕ) (late : List Variable) → ArePointing f n line.pointing.items line.fields.items → AreLate seen next late → Lays f n once late line old new x) → Laying once seen line next (i + 1) new
laying_next once seen line moment next i old new x d h lt en ex used step =
    let run = line.run.items in
    let left : drop i run ≡ x ∷ drop (i + 1) run = drop_more run i d lt ∙ ap (λ (z : Binding). z ∷ drop (i + 1) run) (sym ex) in
    let moves : next ≡ h.start + (i + 1) = (let a = h.at in omega arith) in
    record {
      start = h.start;
      timed = h.timed;
      at = moves;
      within = omega arith;
      used = used;
      is = λ f n l.
          (step f n (bound_in (binds_from f (drop (i + 1) run))) l.fields (late_behind f h.start run seen (i + 1) next h.timed (omega arith) moves)).is (λ room fields. lay once (binds_from f (drop (i + 1) run)) room fields)
          ∙ ap (λ z. laid_with f line old (λ room fields. lay once (binds_from f z) room fields)) (sym left)
          ∙ h.is f n l;
      below = λ f n l.
          (step f n (bound_in (binds_from f (drop (i + 1) run))) l.fields (late_behind f h.start run seen (i + 1) next h.timed (omega arith) moves)).below (h.below f n l)
          (subst (IsBindingBelow n) (sym ex) (all_at (IsBindingBelow n) run i d l.run lt));
    }

-- The room, and the fields that are left.
pub laying_end : (once : Variable → Bool) (seen : Seen) (line : Line) (moment i count : ℕ) (laid mid new : Made) → Laying once seen line moment i laid → length line.run.items ≤ i → length line.pointing.items ≡ length line.fields.items → count + laid.used ≡ length line.fields.items → Opens line laid mid → Puts line count mid new
    → (f : ℕ → Term) (n : ℕ) → IsLineOf f n line → LaysLine f n once line new
laying_end once seen line moment i count laid mid new h le long ec o p f n l =
    let room = room_left line.head line.constructor laid.is_open in
    let rooms = room_binding line.head line.constructor laid.is_open in
    let fields = drop laid.used line.fields.items in
    let puts = drop laid.used line.pointing.items in
    let whole : take count puts ≡ puts = take_all count puts (let d = length-drop laid.used line.pointing.items in let u = h.used in omega arith) in
    let wholef : take count fields ≡ fields = take_all count fields (let d = length-drop laid.used line.fields.items in let u = h.used in omega arith) in
    let same : map pointing fields ≡ binds_from f puts = sym (drop-map pointing laid.used line.fields.items) ∙ ap (drop laid.used) (sym l.fields.are) ∙ drop-map (bind_from f) laid.used line.pointing.items in
    let items : new.bindings.items ≡ (laid.bindings.items ++ rooms) ++ puts = p.bindings ∙ (λ j. o.bindings j ++ (ap (λ u. take count (drop u line.pointing.items)) o.used ∙ whole) j) in
    let names : new.standing.items ≡ laid.standing.items ++ map (λ (g : Field). g.variable) fields = p.standing ∙ (λ j. o.standing j ++ map (λ (g : Field). g.variable) ((ap (λ u. take count (drop u line.fields.items)) o.used ∙ wholef) j)) in
    let end : laid_behind (binds_from f laid.bindings.items) laid.standing.items (laid_behind room [] (fields_laid fields)) ≡ lay once (binds_from f line.run.items) (Past line.head line.constructor ∷ []) line.fields.items =
    ap (λ z. laid_with f line laid (λ r fs. lay once (binds_from f z) r fs)) (sym (drop_all i line.run.items le)) ∙ h.is f n l in
    record {
      binds =
          ap (binds_from f) items
          ∙ map-append (bind_from f) (laid.bindings.items ++ rooms) puts
          ∙ (λ j. (map-append (bind_from f) laid.bindings.items rooms ∙ ap (λ z. binds_from f laid.bindings.items ++ z) (room_same f line.head line.constructor laid.is_open)) j ++ sym same j)
          ∙ append_assoc (binds_from f laid.bindings.items) room (map pointing fields)
          ∙ ap (λ (z : Laid). z.binds) end;
      standing = names ∙ ap (λ (z : Laid). z.standing) end;
      below = subst (AllByRecursion (IsBindingBelow n)) (sym items)
          (all_append (IsBindingBelow n) (laid.bindings.items ++ rooms) puts
          (all_append (IsBindingBelow n) laid.bindings.items rooms (h.below f n l) (room_below n line.head line.constructor laid.is_open))
          (all_drop (IsBindingBelow n) line.pointing.items laid.used l.fields.below));
    }
