-- The parts of several variables come.
use Rattle.std.proofs.Common.{◌≡◌, ℕ, ◌≤◌, false, cond, List, [], ◌∷◌, length, map, refl, sym, ap, subst, ◌∙◌, arith}
use Rattle.std.proofs.lemmas.Bool.{true≢false}
use Rattle.gib_types.specs.declared.table.Ty.{Ty}
use Rattle.gib_types.specs.declared.table.Ty.TheVariants.{Whole, Truth, Tree}
use Rattle.gib_types.specs.Table.{scalar_types}
use Rattle.gib_types.specs.Layout.{LaidOut}
use Rattle.gib_types.specs.Tree.{Datum}
use Rattle.gib_mem.specs.Memory.{Store}
use Rattle.gib_packed.specs.Reaching.{there}
use Rattle.gib_core.specs.declared.atom.Variable.{Variable}
use Rattle.gib_core.specs.declared.atom.Atom.{Atom}
use Rattle.gib_core.specs.Tree.{CoreTree}
use Rattle.gib_core.specs.Meaning.{bind, merge, value}
use Rattle.gib_code.specs.Program.{CodeTree}
use Rattle.gib_core.specs.Low.{operands, packed_slots, scalar_slots}
use Rattle.gib_core.specs.Fits.{Sort, Scope, Absent, Held, Placed, AreNew, AtomsFit, is_there, none_of, packed_due, param_sort, put, tell_line}
use Rattle.gib_machine.specs.State.{Slots, State, Open as OpenRegion, cursor, nesting, set, slot, times, words}
use Rattle.gib_machine.specs.Sides.{set_all}
use Rattle.gib_weave.specs.EndWords.{WithEnd, both, HasEnd}
use Rattle.gib_weave.specs.Environment.{Ctx, Has, HasAll, IsDest, IsScalar, StandsAt}
use Rattle.gib_weave.specs.Groups.{nth, Holds, Group, Starts}
use Rattle.gib_weave.specs.Continuing.{Kont, Rest, end_of, given_of, made}
use Rattle.gib_weave.specs.Owing.{Owed, level_after, rest_means, resume, sides_of}
use Rattle.gib_weave.specs.Paying.{Share, Counted, left_costs}
use Rattle.gib_weave.specs.Places.{AllRoom, HasRoom, Owned, freed, heads}
use Rattle.gib_weave.specs.Stacks.{SeveralWaits, Stack}
use Rattle.gib_weave.specs.Sound.{InMemory, IsTied, PartsAnswer, Safe, at_term, rests, ties_of}
use Rattle.gib_weave.proofs.Basics.{by_test, both-other, put-same}
use Rattle.gib_weave.proofs.Move.{HasAll-bind, HasAll-set, IsDest-bind, IsDest-moved, Matches-line, Stack-moved, all_moved_set, held, moved_set, not_there, put_held, with_line, with_var}
use Rattle.gib_weave.proofs.Sorts.{all_under_bind, given_bind, is_field, rest_code_put}
use Rattle.gib_weave.proofs.Lines.{new_less}
use Rattle.gib_weave.proofs.Scalars.{scalar_word}
use Rattle.gib_weave.proofs.Uses.{sides_bound}
use Rattle.gib_weave.proofs.Filling.{slots_many}
use Rattle.gib_weave.proofs.Ends.{at_rest, held_end, or_none}

-- Words for the scalar parts, with their values.
abbrev pub AreScalars : List Ty → List ℕ → List Datum → Type 0
AreScalars [] ws vs = Unit {0}
AreScalars (Whole ∷ tys) [] vs = ⊥
AreScalars (Whole ∷ tys) (w ∷ ws) [] = ⊥
AreScalars (Whole ∷ tys) (w ∷ ws) (v ∷ vs) = IsScalar Whole w v × AreScalars tys ws vs
AreScalars (Truth ∷ tys) [] vs = ⊥
AreScalars (Truth ∷ tys) (w ∷ ws) [] = ⊥
AreScalars (Truth ∷ tys) (w ∷ ws) (v ∷ vs) = IsScalar Truth w v × AreScalars tys ws vs
AreScalars (Tree t ∷ tys) ws vs = AreScalars tys ws vs

-- Each packed part stands where its variable was set.
abbrev pub ArePacked : LaidOut → Store → Slots → List Ty → List Variable → List Datum → Type 0
ArePacked laid s sl [] xs vs = Unit {0}
ArePacked laid s sl (ty ∷ tys) [] vs = ⊥
ArePacked laid s sl (Whole ∷ tys) (x ∷ xs) vs = ArePacked laid s sl tys xs vs
ArePacked laid s sl (Truth ∷ tys) (x ∷ xs) vs = ArePacked laid s sl tys xs vs
ArePacked laid s sl (Tree t ∷ tys) (x ∷ xs) [] = ⊥
ArePacked laid s sl (Tree t ∷ tys) (x ∷ xs) (v ∷ vs) = ((a : ℕ) × (both sl x.0 ≡ record { word = a; last = 0 }) × StandsAt laid s t.0 a v) × ArePacked laid s sl tys xs vs

pub scalars_of : (laid : LaidOut) (s : Store) (sl : Slots) (c : Ctx) → HasAll laid s sl c → (tys : List Ty) (ss : List Atom) → AtomsFit c.scope ss (scalar_types tys) → AreScalars tys (words sl (operands ss)) (map (value c.env) ss)
scalars_of laid s sl c h [] ss f = tt
scalars_of laid s sl c h (Whole ∷ tys) [] f = absurd f
scalars_of laid s sl c h (Whole ∷ tys) (x ∷ ss) f = (scalar_word laid s sl c x Whole refl h f.0, scalars_of laid s sl c h tys ss f.1)
scalars_of laid s sl c h (Truth ∷ tys) [] f = absurd f
scalars_of laid s sl c h (Truth ∷ tys) (x ∷ ss) f = (scalar_word laid s sl c x Truth refl h f.0, scalars_of laid s sl c h tys ss f.1)
scalars_of laid s sl c h (Tree t ∷ tys) ss f = scalars_of laid s sl c h tys ss f

pub packed_of : (laid : LaidOut) (s : Store) (sl : Slots) (sc : Scope) (rs : List OpenRegion) (tys : List Ty) (xs : List Variable) (vs : List Datum) → AreNew sc tys xs → length (packed_due tys) ≤ length vs → Starts sl (packed_slots tys xs) rs → Holds laid s (packed_due tys) vs rs
    → ArePacked laid s sl tys xs vs
packed_of laid s sl sc rs [] [] vs n f st h = tt
packed_of laid s sl sc rs [] (x ∷ xs) vs n f st h = absurd n
packed_of laid s sl sc rs (ty ∷ tys) [] vs n f st h = absurd n
packed_of laid s sl sc rs (Whole ∷ tys) (x ∷ xs) vs n f st h = packed_of laid s sl (put sc x.0 Held) rs tys xs vs n.1 f st h
packed_of laid s sl sc rs (Truth ∷ tys) (x ∷ xs) vs n f st h = packed_of laid s sl (put sc x.0 Held) rs tys xs vs n.1 f st h
packed_of laid s sl sc rs (Tree t ∷ tys) (x ∷ xs) [] n f st h = absurd (omega (arith, f))
packed_of laid s sl sc rs (Tree t ∷ tys) (x ∷ xs) (v ∷ vs) n f st h =
    let e : length (packed_due tys) ≡ length (packed_slots tys xs) = sym (slots_many (put sc x.0 Held) tys xs n.1) in (
      ((nth (length (packed_slots tys xs)) rs).start, st.0, subst (λ (m : ℕ). StandsAt laid s t.0 (nth m rs).start v) e (record { end = (nth (length (packed_due tys)) rs).cur; dec = h.0 })),
      packed_of laid s sl (put sc x.0 Held) rs tys xs vs n.1 (omega (arith, f)) st.1 h.1,
    )

-- a variable's slot is no other one's
packed_set : (laid : LaidOut) (s : Store) (sl : Slots) (sc : Scope) (x w : ℕ) (tys : List Ty) (xs : List Variable) (vs : List Datum) → sc x ≡ Held → AreNew sc tys xs → ArePacked laid s sl tys xs vs → ArePacked laid s (set sl x w) tys xs vs
packed_set laid s sl sc x w [] xs vs h n p = tt
packed_set laid s sl sc x w (ty ∷ tys) [] vs h n p = absurd n
packed_set laid s sl sc x w (Whole ∷ tys) (y ∷ xs) vs h n p = packed_set laid s sl (put sc y.0 Held) x w tys xs vs (put_held sc y.0 x h) n.1 p
packed_set laid s sl sc x w (Truth ∷ tys) (y ∷ xs) vs h n p = packed_set laid s sl (put sc y.0 Held) x w tys xs vs (put_held sc y.0 x h) n.1 p
packed_set laid s sl sc x w (Tree t ∷ tys) (y ∷ xs) [] h n p = absurd p
packed_set laid s sl sc x w (Tree t ∷ tys) (y ∷ xs) (v ∷ vs) h n p =
    ((p.0.0, both-other sl x y.0 w 0 (λ e. held sc y.0 x h (not_there sc y.0 n.0) (sym e)) ∙ p.0.1, p.0.2), packed_set laid s sl (put sc y.0 Held) x w tys xs vs (put_held sc y.0 x h) n.1 p.1)

new_but : (sc : Scope) (x : ℕ) (so : Sort) (y : ℕ) → put sc x Held y ≡ Absent → put sc x so y ≡ Absent
new_but sc x so y = by_test y x (λ b. cond b Held (sc y) ≡ Absent → cond b so (sc y) ≡ Absent) (λ e h. absurd (true≢false (ap is_there h))) (λ e h. h)

pub no_field : (ty : Ty) → is_field (param_sort ty) ≡ false
no_field Whole = refl
no_field Truth = refl
no_field (Tree t) = refl

module _ (core : CoreTree) (code : CodeTree) (owed : Owed) (own : Owned) (sh : Share) (s : Store) (m : State) (ip : ℕ) (u : Rest) (k : Kont) where
  -- What a task has for a line that goes on at ip, whichever of its variables are bound: these are not.
  pub record Coming (sl : Slots) (tys : List Ty) (xs : List Variable) (c : Ctx) (vs : List Datum) : Type 0 where
    pub waits : SeveralWaits core code s sl ip xs tys u c (cursor m.regions) k
    pub stack : Stack core code s k sl m.frames c.front m.regions
    pub group : Group code.laid s c.dest (made u) m.regions
    pub memory : InMemory own s (heads code.laid c.head c.dest k) m.regions m.tails
    pub ties : IsTied owed m.pars m.side m.result (ties_of core m.depth m.level u c.env k)
    pub owes : resume core m.depth k (rest_means core m.depth u (bind xs vs c.env)) ≡ owed.all
    pub counted : Counted m.regions (left_costs core m.depth m.level u (bind xs vs c.env) k) sh
    pub room : HasRoom (times m.depth (nesting code)) u m.room × AllRoom (nesting code) m.depth (freed u m.room) k

  -- one of the variables is bound
  one_comes : (sl sl' : Slots) (x : Variable) (xs : List Variable) (ty : Ty) (tys : List Ty) (c : Ctx) (v : Datum) (vs : List Datum) (pl : ℕ) → Coming sl (ty ∷ tys) (x ∷ xs) c (v ∷ vs) → HasAll code.laid s sl' (with_var c x.0 (param_sort ty) v pl)
      → IsDest code.laid s sl' c c.dest (cursor m.regions) → Stack core code s k sl' m.frames c.front m.regions → Coming sl' tys xs (with_var c x.0 (param_sort ty) v pl) vs
  one_comes sl sl' x xs ty tys c v vs pl g has dest stack =
      let w = g.waits in
      let l = w.line in
      let few = w.few in
      let so = param_sort ty in record {
        waits = record {
          line = record {
            low = rest_code_put core code c.line.within c.scope ip u (end_of c.line.overs k) x.0 so (no_field ty) l.low;
            matches = record { vars = has; dest = IsDest-bind code.laid s sl' c (cursor m.regions) x.0 so v pl c.dest w.new.0 dest };
            under = all_under_bind c.scope c.env k x.0 so v w.new.0 l.under;
            given = given_bind c x.0 so v pl (given_of k) w.new.0 l.given;
            calm = l.calm;
            kind = l.kind;
            narrow = l.narrow;
          };
          fits = w.fits;
          few = omega (arith, few);
          new = new_less (put c.scope x.0 Held) (put c.scope x.0 so) tys xs (new_but c.scope x.0 so) w.new.1;
          free = w.free.1;
          next = w.next;
        };
        stack = stack;
        group = g.group;
        memory = g.memory;
        ties = record { sides = sides_bound core m.depth m.level x.0 v u c.env k (sides_of core m.depth (level_after m.level u) k) w.free.0 ∙ g.ties.sides; pars = g.ties.pars; side = g.ties.side; result = g.ties.result; type = g.ties.type };
        owes = g.owes;
        counted = g.counted;
        room = g.room;
      }

  -- its slot is set to the word
  word_comes : (sl : Slots) (x : Variable) (xs : List Variable) (ty : Ty) (tys : List Ty) (c : Ctx) (w : ℕ) (v : Datum) (vs : List Datum) (pl : ℕ) → Has code.laid s (with_var c x.0 (param_sort ty) v pl) (param_sort ty) w v pl (c.hd x.0) → HasEnd code.laid s (param_sort ty) w 0 v pl
      → Coming sl (ty ∷ tys) (x ∷ xs) c (v ∷ vs) → Coming (set sl x.0 w) tys xs (with_var c x.0 (param_sort ty) v pl) vs
  word_comes sl x xs ty tys c w v vs pl has end g =
      let new = g.waits.new.0 in
      one_comes sl (set sl x.0 w) x xs ty tys c v vs pl g (HasAll-bind code.laid s sl c x.0 (param_sort ty) v w pl new has end g.waits.line.matches.vars)
      (IsDest-moved code.laid s sl (set sl x.0 w) c (cursor m.regions) c.dest (moved_set x.0 w (not_there c.scope x.0 new)) g.waits.line.matches.dest)
      (Stack-moved core code s k sl (set sl x.0 w) m.frames c.front m.regions (all_moved_set code.laid s sl c.scope c.env k x.0 w g.waits.line.under (not_there c.scope x.0 new)) g.stack)

  -- none is left, and the line goes on
  none_left : (sl : Slots) (c : Ctx) (vs : List Datum) → Coming sl [] [] c vs → Safe core code owed own sh s (at_rest m ip sl)
  none_left sl c vs g = rests (at_term {u = u} {c = with_line c (tell_line none_of c.line)} {k = k} record {
    ready = refl;
    low = g.waits.line.low;
    fits = g.waits.fits;
    line = record {
      kind = g.waits.line.kind;
      matches = Matches-line (tell_line none_of c.line) (λ q e. g.waits.line.matches.vars.told q (or_none (c.line.told q) e)) g.waits.line.matches.vars.closes g.waits.line.matches;
      stack = g.stack;
      under = g.waits.line.under;
      given = g.waits.line.given;
      calm = g.waits.line.calm;
    };
    group = g.group;
    memory = g.memory;
    ties = g.ties;
    owes = g.owes;
    counted = g.counted;
    room = record { free = g.waits.next; narrow = g.waits.line.narrow; nests = g.room.0; all_room = g.room.1 };
  })

  -- All come: the scalar ones as words for their slots, the packed ones where their slots were set.
  pub all_come : (sl : Slots) (tys : List Ty) (xs : List Variable) (c : Ctx) (ws : List ℕ) (svs pvs : List Datum) → Coming sl tys xs c (merge tys svs pvs) → AreScalars tys ws svs → ArePacked code.laid s sl tys xs pvs
      → Safe core code owed own sh s (at_rest m ip (set_all sl (scalar_slots tys xs) ws))
  all_come sl [] [] c ws svs pvs g ns ps = none_left sl c [] g
  all_come sl [] (x ∷ xs) c ws svs pvs g ns ps = absurd g.waits.new
  all_come sl (ty ∷ tys) [] c ws svs pvs g ns ps = absurd g.waits.new
  all_come sl (Whole ∷ tys) (x ∷ xs) c [] svs pvs g ns ps = absurd ns
  all_come sl (Whole ∷ tys) (x ∷ xs) c (w ∷ ws) [] pvs g ns ps = absurd ns
  all_come sl (Whole ∷ tys) (x ∷ xs) c (w ∷ ws) (v ∷ svs) pvs g ns ps =
      all_come (set sl x.0 w) tys xs (with_var c x.0 (param_sort Whole) v 0) ws svs pvs (word_comes sl x xs Whole tys c w v (merge tys svs pvs) 0 ns.0 tt g) ns.1
      (packed_set code.laid s sl (put c.scope x.0 Held) x.0 w tys xs pvs (put-same c.scope x.0 Held) g.waits.new.1 ps)
  all_come sl (Truth ∷ tys) (x ∷ xs) c [] svs pvs g ns ps = absurd ns
  all_come sl (Truth ∷ tys) (x ∷ xs) c (w ∷ ws) [] pvs g ns ps = absurd ns
  all_come sl (Truth ∷ tys) (x ∷ xs) c (w ∷ ws) (v ∷ svs) pvs g ns ps =
      all_come (set sl x.0 w) tys xs (with_var c x.0 (param_sort Truth) v 0) ws svs pvs (word_comes sl x xs Truth tys c w v (merge tys svs pvs) 0 ns.0 tt g) ns.1
      (packed_set code.laid s sl (put c.scope x.0 Held) x.0 w tys xs pvs (put-same c.scope x.0 Held) g.waits.new.1 ps)
  all_come sl (Tree t ∷ tys) (x ∷ xs) c ws svs [] g ns ps = absurd ps
  all_come sl (Tree t ∷ tys) (x ∷ xs) c ws svs (v ∷ pvs) g ns ps =
      let a = ps.0.0 in
      let e = ps.0.1 in
      all_come sl tys xs (with_var c x.0 (Placed t.0) v a) ws svs pvs
      (one_comes sl sl x xs (Tree t) tys c v (merge tys svs pvs) a g (HasAll-set code.laid s sl c x.0 (Placed t.0) v a g.waits.new.0 (record { same = ap (λ (z : WithEnd). z.word) e; stands = ps.0.2 }) (held_end sl x.0 e) g.waits.line.matches.vars) g.waits.line.matches.dest g.stack)
      ns ps.1

  -- An answer has come: each slot is set to its word.
  pub answer_comes : (sl : Slots) (tys : List Ty) (xs : List Variable) (c : Ctx) (ws : List ℕ) (vs : List Datum) → Coming sl tys xs c vs → PartsAnswer code.laid s tys ws vs
      → Safe core code owed own sh s (at_rest m ip (set_all sl (map (λ (x : Variable). x.0) xs) ws))
  answer_comes sl [] [] c ws vs g p = none_left sl c vs g
  answer_comes sl [] (x ∷ xs) c ws vs g p = absurd g.waits.new
  answer_comes sl (ty ∷ tys) [] c ws vs g p = absurd g.waits.new
  answer_comes sl (ty ∷ tys) (x ∷ xs) c [] vs g p = absurd p
  answer_comes sl (ty ∷ tys) (x ∷ xs) c (w ∷ ws) [] g p = absurd p
  answer_comes sl (Whole ∷ tys) (x ∷ xs) c (w ∷ ws) (v ∷ vs) g p = answer_comes (set sl x.0 w) tys xs (with_var c x.0 (param_sort Whole) v 0) ws vs (word_comes sl x xs Whole tys c w v vs 0 p.0 tt g) p.1
  answer_comes sl (Truth ∷ tys) (x ∷ xs) c (w ∷ ws) (v ∷ vs) g p = answer_comes (set sl x.0 w) tys xs (with_var c x.0 (param_sort Truth) v 0) ws vs (word_comes sl x xs Truth tys c w v vs 0 p.0 tt g) p.1
  answer_comes sl (Tree t ∷ tys) (x ∷ xs) c (w ∷ ws) (v ∷ vs) g p =
      answer_comes (set sl x.0 w) tys xs (with_var c x.0 (Placed t.0) v w) ws vs (word_comes sl x xs (Tree t) tys c w v vs w (record { same = refl; stands = p.0 }) (record { near = λ q. there; ends = λ q. absurd (omega (arith, q)) }) g) p.1
