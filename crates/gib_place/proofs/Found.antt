-- Which line fills a head.
use Rattle.std.proofs.Common.{◌≡◌, ℕ, suc, ◌+◌, ◌<◌, ◌≤◌, List, [], ◌∷◌, ◌++◌, map, length, take, drop, get_or, Option, Some, None, refl, sym, ap, ◌∙◌, arith}
use Rattle.std.specs.Prelude.{Result, Ok, Err, IfOk}
use Rattle.std.specs.List.{AllByRecursion}
use Rattle.std.proofs.lemmas.List.{drop_more, drop_all, append-nil, take_more, append_assoc, map_push}
use Rattle.gib_types.specs.declared.table.ConId.{ConId}
use Rattle.gib_core.specs.declared.atom.Variable.{Variable}
use Rattle.gib_core.specs.declared.atom.Atom.{Atom}
use Rattle.gib_core.specs.declared.atom.Kind.TheVariants.{Here, Region, Scalar}
use Rattle.gib_core.specs.declared.node.Binding.{Binding}
use Rattle.gib_core.specs.declared.node.Binding.TheVariants as b
use Rattle.gib_core.specs.Tree.{Term, Then, Write, Point, CallTerm, Give, CaseTerm, IfTerm, Tuple, Bind, Past, One, Both, Prim, Reach, On, Several, prepend}
use Rattle.gib_core.specs.Arena.{IsBindingBelow, bind_from, binds_from}
use Rattle.gib_place.specs.declared.field.Field.{Field}
use Rattle.gib_place.specs.declared.line.Line.{Line}
use Rattle.gib_place.specs.Placing.{pointing, Ending, Filling, field_first, binding_first, room_first, ending_of, filling_of}
use Rattle.gib_place.specs.Filled.{field_of, ArePointing, bindings_first, room_in, filling_from}

-- What stands behind the room, where a field or another binding stands first.
abbrev pub with_field : Option Field → Option Ending → Option Ending
with_field None e = None
with_field (Some f) e = field_first f e

pub ending_then : (x : Bind) (rest : Term) → ending_of (Then x rest) ≡ with_field (field_of x) (ending_of rest)
ending_then (Past h k) rest = refl
ending_then (One (On Here x ty (Then y t))) rest = refl
ending_then (One (On Here x ty (Write h k ss ps))) rest = refl
ending_then (One (On Here x ty (Point y))) rest = refl
ending_then (One (On Here x ty (CallTerm f xs))) rest = refl
ending_then (One (On Here x ty (Give y))) rest = refl
ending_then (One (On Here x ty (CaseTerm y branches))) rest = refl
ending_then (One (On Here x ty (IfTerm y t u))) rest = refl
ending_then (One (On Here x ty (Tuple tys ss ps))) rest = refl
ending_then (One (On Region x ty t)) rest = refl
ending_then (One (On Scalar x ty t)) rest = refl
ending_then (One (Several xs tys t)) rest = refl
ending_then (Both fork l r) rest = refl
ending_then (Prim x f y z) rest = refl
ending_then (Reach y by) rest = refl

same_field : (g h : Field) → ◌≡◌ {A = Option Field} (Some g) (Some h) → g ≡ h
same_field g h e = cc

-- A binding that is a field points to its value.
pub field_points : (x : Bind) (f : Field) → field_of x ≡ Some f → x ≡ pointing f
field_points (Past h k) f e = absurd cc
field_points (One (On Here x ty (Then y t))) f e = absurd cc
field_points (One (On Here x ty (Write h k ss ps))) f e = absurd cc
field_points (One (On Here x ty (Point y))) f e = ap pointing (same_field (record { variable = x; ty = ty; target = y }) f e)
field_points (One (On Here x ty (CallTerm g xs))) f e = absurd cc
field_points (One (On Here x ty (Give y))) f e = absurd cc
field_points (One (On Here x ty (CaseTerm y branches))) f e = absurd cc
field_points (One (On Here x ty (IfTerm y t u))) f e = absurd cc
field_points (One (On Here x ty (Tuple tys ss ps))) f e = absurd cc
field_points (One (On Region x ty t)) f e = absurd cc
field_points (One (On Scalar x ty t)) f e = absurd cc
field_points (One (Several xs tys t)) f e = absurd cc
field_points (Both fork l r) f e = absurd cc
field_points (Prim x g y z) f e = absurd cc
field_points (Reach y by) f e = absurd cc

-- Fields before others.
abbrev fields_first : List Field → Option Ending → Option Ending
fields_first fs None = None
fields_first fs (Some e) = Some (record { fields = fs ++ e.fields; head = e.head; con = e.con; scalars = e.scalars; packed = e.packed })

first_further : (fs : List Field) (f : Field) (e : Option Ending) → fields_first fs (field_first f e) ≡ fields_first (fs ++ f ∷ []) e
first_further fs f None = refl
first_further fs f (Some e) = λ i. Some (record { fields = sym (append_assoc fs (f ∷ []) e.fields) i; head = e.head; con = e.con; scalars = e.scalars; packed = e.packed })

nothing_first : (e : Option Ending) → e ≡ fields_first [] e
nothing_first None = refl
nothing_first (Some e) = refl

-- The bindings before a place are these fields.
pub record FieldsBehind (f : ℕ → Term) (bindings : List Binding) (i : ℕ) (fields : List Field) : Type 0 where
  pub ending : (h : Variable) (k : ConId) (ss ps : List Atom) → ending_of (prepend (binds_from f bindings) (Write h k ss ps)) ≡ fields_first fields (ending_of (prepend (binds_from f (drop i bindings)) (Write h k ss ps)))
  pub are : binds_from f bindings ≡ map pointing fields ++ binds_from f (drop i bindings)

pub fields_start : (f : ℕ → Term) (bindings : List Binding) → FieldsBehind f bindings 0 []
fields_start f bindings = record { ending = λ h k ss ps. nothing_first (ending_of (prepend (binds_from f bindings) (Write h k ss ps))); are = refl }

pub fields_next : (f : ℕ → Term) (bindings : List Binding) (i : ℕ) (old new : List Field) (x d : Binding) (g : Field) → FieldsBehind f bindings i old → i < length bindings → x ≡ get_or bindings i d → field_of (bind_from f x) ≡ Some g → new ≡ old ++ g ∷ [] → FieldsBehind f bindings (i + 1) new
fields_next f bindings i old new x d g h lt ex eg en =
    let left : drop i bindings ≡ x ∷ drop (i + 1) bindings = drop_more bindings i d lt ∙ ap (λ (z : Binding). z ∷ drop (i + 1) bindings) (sym ex) in
    let rest = drop (i + 1) bindings in
    record {
      ending = λ hd k ss ps.
          h.ending hd k ss ps
          ∙ ap (λ z. fields_first old (ending_of (prepend (binds_from f z) (Write hd k ss ps)))) left
          ∙ ap (fields_first old) (ending_then (bind_from f x) (prepend (binds_from f rest) (Write hd k ss ps)) ∙ ap (λ o. with_field o (ending_of (prepend (binds_from f rest) (Write hd k ss ps)))) eg)
          ∙ first_further old g (ending_of (prepend (binds_from f rest) (Write hd k ss ps)))
          ∙ ap (λ z. fields_first z (ending_of (prepend (binds_from f rest) (Write hd k ss ps)))) (sym en);
      are =
          h.are
          ∙ ap (λ z. map pointing old ++ binds_from f z) left
          ∙ ap (λ z. map pointing old ++ z ∷ binds_from f rest) (field_points (bind_from f x) g eg)
          ∙ sym (append_assoc (map pointing old) (pointing g ∷ []) (binds_from f rest))
          ∙ ap (λ z. z ++ binds_from f rest) (sym (map_push pointing old g) ∙ ap (map pointing) (sym en));
    }

pub fields_missed : (f : ℕ → Term) (bindings : List Binding) (i : ℕ) (old : List Field) (x d : Binding) → FieldsBehind f bindings i old → i < length bindings → x ≡ get_or bindings i d → field_of (bind_from f x) ≡ None
    → (h : Variable) (k : ConId) (ss ps : List Atom) → ending_of (prepend (binds_from f bindings) (Write h k ss ps)) ≡ None
fields_missed f bindings i old x d h lt ex eg hd k ss ps =
    let left : drop i bindings ≡ x ∷ drop (i + 1) bindings = drop_more bindings i d lt ∙ ap (λ (z : Binding). z ∷ drop (i + 1) bindings) (sym ex) in
    let rest = drop (i + 1) bindings in
    h.ending hd k ss ps
    ∙ ap (λ z. fields_first old (ending_of (prepend (binds_from f z) (Write hd k ss ps)))) left
    ∙ ap (fields_first old) (ending_then (bind_from f x) (prepend (binds_from f rest) (Write hd k ss ps)) ∙ ap (λ o. with_field o (ending_of (prepend (binds_from f rest) (Write hd k ss ps)))) eg)

pub fields_end : (f : ℕ → Term) (bindings : List Binding) (i : ℕ) (fields : List Field) → FieldsBehind f bindings i fields → length bindings ≤ i
    → (h : Variable) (k : ConId) (ss ps : List Atom) → ending_of (prepend (binds_from f bindings) (Write h k ss ps)) ≡ Some (record { fields = fields; head = h; con = k; scalars = ss; packed = ps })
fields_end f bindings i fields h le hd k ss ps =
    h.ending hd k ss ps
    ∙ ap (λ z. fields_first fields (ending_of (prepend (binds_from f z) (Write hd k ss ps)))) (drop_all i bindings le)
    ∙ (λ j. Some (record { fields = append-nil fields j; head = hd; con = k; scalars = ss; packed = ps }))

pub fields_point : (f : ℕ → Term) (n : ℕ) (bindings : List Binding) (i : ℕ) (fields : List Field) → FieldsBehind f bindings i fields → length bindings ≤ i → AllByRecursion (IsBindingBelow n) bindings → ArePointing f n bindings fields
fields_point f n bindings i fields h le below = record { are = h.are ∙ ap (λ z. map pointing fields ++ binds_from f z) (drop_all i bindings le) ∙ append-nil (map pointing fields); below = below }

-- No room stands before a place.
pub record RunBehind (f : ℕ → Term) (bindings : List Binding) (i : ℕ) : Type 0 where
  pub filling : (h : Variable) (k : ConId) (ss ps : List Atom) → filling_of (prepend (binds_from f bindings) (Write h k ss ps)) ≡ bindings_first (binds_from f (take i bindings)) (filling_of (prepend (binds_from f (drop i bindings)) (Write h k ss ps)))

nothing_before : (l : Option Filling) → l ≡ bindings_first [] l
nothing_before None = refl
nothing_before (Some l) = refl

pub run_start : (f : ℕ → Term) (bindings : List Binding) → RunBehind f bindings 0
run_start f bindings = record { filling = λ h k ss ps. nothing_before (filling_of (prepend (binds_from f bindings) (Write h k ss ps))) }

filling_other : (f : ℕ → Term) (x : Binding) (rest : Term) → room_in x ≡ None → filling_of (Then (bind_from f x) rest) ≡ binding_first (bind_from f x) (filling_of rest)
filling_other f (b.Past h k) rest e = absurd cc
filling_other f (b.One s) rest e = refl
filling_other f (b.Par fork l r) rest e = refl
filling_other f (b.Prim x g y z) rest e = refl
filling_other f (b.Reach y by) rest e = refl

same_room : (p q : Variable × ConId) → ◌≡◌ {A = Option (Variable × ConId)} (Some p) (Some q) → p ≡ q
same_room p q e = cc

room_first_is : (f : ℕ → Term) (x : Binding) (rest : Term) (room : Variable × ConId) → room_in x ≡ Some room → filling_of (Then (bind_from f x) rest) ≡ room_first room.0 room.1 (ending_of rest)
room_first_is f (b.Past h k) rest room e = λ i. room_first (same_room (h, k) room e i).0 (same_room (h, k) room e i).1 (ending_of rest)
room_first_is f (b.One s) rest room e = absurd cc
room_first_is f (b.Par fork l r) rest room e = absurd cc
room_first_is f (b.Prim x g y z) rest room e = absurd cc
room_first_is f (b.Reach y by) rest room e = absurd cc

run_further : (bs : List Bind) (x : Bind) (l : Option Filling) → bindings_first bs (binding_first x l) ≡ bindings_first (bs ++ x ∷ []) l
run_further bs x None = refl
run_further bs x (Some l) = λ i. Some (record { run = sym (append_assoc bs (x ∷ []) l.run) i; room = l.room; made = l.made; ending = l.ending })

pub run_next : (f : ℕ → Term) (bindings : List Binding) (i : ℕ) (x d : Binding) → RunBehind f bindings i → i < length bindings → x ≡ get_or bindings i d → room_in x ≡ None → RunBehind f bindings (i + 1)
run_next f bindings i x d h lt ex other =
    let left : drop i bindings ≡ x ∷ drop (i + 1) bindings = drop_more bindings i d lt ∙ ap (λ (z : Binding). z ∷ drop (i + 1) bindings) (sym ex) in
    let more : take (i + 1) bindings ≡ take i bindings ++ x ∷ [] = take_more bindings i d lt ∙ ap (λ (z : Binding). take i bindings ++ z ∷ []) (sym ex) in
    let rest = drop (i + 1) bindings in
    record {
      filling = λ hd k ss ps.
          h.filling hd k ss ps
          ∙ ap (λ z. bindings_first (binds_from f (take i bindings)) (filling_of (prepend (binds_from f z) (Write hd k ss ps)))) left
          ∙ ap (bindings_first (binds_from f (take i bindings))) (filling_other f x (prepend (binds_from f rest) (Write hd k ss ps)) other)
          ∙ run_further (binds_from f (take i bindings)) (bind_from f x) (filling_of (prepend (binds_from f rest) (Write hd k ss ps)))
          ∙ ap (λ z. bindings_first z (filling_of (prepend (binds_from f rest) (Write hd k ss ps)))) (sym (map_push (bind_from f) (take i bindings) x) ∙ ap (binds_from f) (sym more));
    }

pub run_found : (f : ℕ → Term) (bindings : List Binding) (i : ℕ) (x d : Binding) (room : Variable × ConId) → RunBehind f bindings i → i < length bindings → x ≡ get_or bindings i d → room_in x ≡ Some room
    → (h : Variable) (k : ConId) (ss ps : List Atom) → filling_of (prepend (binds_from f bindings) (Write h k ss ps)) ≡ bindings_first (binds_from f (take i bindings)) (room_first room.0 room.1 (ending_of (prepend (binds_from f (drop (suc i) bindings)) (Write h k ss ps))))
run_found f bindings i x d room h lt ex e hd k ss ps =
    let left : drop i bindings ≡ x ∷ drop (i + 1) bindings = drop_more bindings i d lt ∙ ap (λ (z : Binding). z ∷ drop (i + 1) bindings) (sym ex) in
    let next : i + 1 ≡ suc i = omega arith in
    h.filling hd k ss ps
    ∙ ap (λ z. bindings_first (binds_from f (take i bindings)) (filling_of (prepend (binds_from f z) (Write hd k ss ps)))) left
    ∙ ap (bindings_first (binds_from f (take i bindings))) (room_first_is f x (prepend (binds_from f (drop (i + 1) bindings)) (Write hd k ss ps)) room e)
    ∙ ap (λ n. bindings_first (binds_from f (take i bindings)) (room_first room.0 room.1 (ending_of (prepend (binds_from f (drop n bindings)) (Write hd k ss ps))))) next

-- What was found at a place was found.
pub line_passed : {E : Type 0} (f : ℕ → Term) (o : Result (Option Line) E) (x y : Variable → ConId → List Atom → List Atom → Option Filling) → ((h : Variable) (k : ConId) (ss ps : List Atom) → x h k ss ps ≡ y h k ss ps)
    → IfOk o (λ found. (h : Variable) (k : ConId) (ss ps : List Atom) → y h k ss ps ≡ filling_from f h k ss ps found) → IfOk o (λ found. (h : Variable) (k : ConId) (ss ps : List Atom) → x h k ss ps ≡ filling_from f h k ss ps found)
line_passed f (Ok found) x y e p = λ h k ss ps. e h k ss ps ∙ p h k ss ps
line_passed f (Err z) x y e p = tt

-- The room is put, and the run is put before it.
pub line_at_none : (bs : List Bind) (room : Variable) (made : ConId) (e : Option Ending) → e ≡ None → bindings_first bs (room_first room made e) ≡ None
line_at_none bs room made e h = ap (λ z. bindings_first bs (room_first room made z)) h

pub line_at_some : (f : ℕ → Term) (run items : List Binding) (room : Variable) (made : ConId) (e : Option Ending) (end : Ending) → e ≡ Some end → items ≡ run → bindings_first (binds_from f run) (room_first room made e) ≡ Some (record { run = binds_from f items; room = room; made = made; ending = end })
line_at_some f run items room made e end h same = ap (λ z. bindings_first (binds_from f run) (room_first room made z)) h ∙ (λ i. Some (record { run = (append-nil (binds_from f run) ∙ ap (binds_from f) (sym same)) i; room = room; made = made; ending = end }))

pub run_missed : (f : ℕ → Term) (bindings : List Binding) (i : ℕ) → RunBehind f bindings i → length bindings ≤ i
    → (h : Variable) (k : ConId) (ss ps : List Atom) → filling_of (prepend (binds_from f bindings) (Write h k ss ps)) ≡ None
run_missed f bindings i h le hd k ss ps = h.filling hd k ss ps ∙ ap (λ z. bindings_first (binds_from f (take i bindings)) (filling_of (prepend (binds_from f z) (Write hd k ss ps)))) (drop_all i bindings le)
