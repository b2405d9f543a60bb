-- The scalar parts are given, once the packed ones stand, and the variables of all of them are bound.
use Rattle.std.proofs.Common.{◌≡◌, ℕ, zero, suc, ◌+◌, ◌<◌, ◌≤◌, ◌||◌, Bool, true, false, List, [], ◌∷◌, ◌++◌, Option, length, drop, map, get_or, refl, sym, ap, subst, ◌∙◌, arith}
use Rattle.std.proofs.lemmas.Bool.{true≢false}
use Rattle.std.proofs.lemmas.List.{append-nil, length-drop}
use Rattle.std.proofs.lemmas.Option.{none-some}
use Rattle.gib_types.specs.declared.table.Ty.{Ty}
use Rattle.gib_types.specs.declared.table.Ty.TheVariants.{Whole, Truth, Tree}
use Rattle.gib_types.specs.Table.{scalar_types}
use Rattle.gib_types.specs.Tree.{Datum}
use Rattle.gib_syntax.specs.Results as results
use Rattle.gib_syntax.specs.Meaning.{Gives, tuple}
use Rattle.gib_mem.specs.Memory.{Store}
use Rattle.gib_region.specs.Region.{finished}
use Rattle.gib_core.specs.declared.atom.Variable.{Variable}
use Rattle.gib_core.specs.declared.atom.Atom.{Atom}
use Rattle.gib_core.specs.declared.atom.Atom.TheVariants as a
use Rattle.gib_core.specs.Tree.{CoreTree, NoPart}
use Rattle.gib_core.specs.Meaning.{bind, merge, value}
use Rattle.gib_core.specs.Cost.{Cost}
use Rattle.gib_code.specs.Instruction.{GiveParts, Jump, Move, Return}
use Rattle.gib_code.specs.Program.{CodeTree, AreAt, none, one_more}
use Rattle.gib_core.specs.Low.{call_ending, done_all, giving_parts, moves, operand, operands, packed_slots, scalar_slots, takes_parts}
use Rattle.gib_core.specs.Fits.{AtomFits, AtomsFit, Dest, Held, InParts, Meets, PartsFit, Scope, Sort, Outside, Absent, Scalar, Placed, Loose, AtHead, Field, call_tells, dest_type, packed_due, tree_type}
use Rattle.gib_machine.specs.State.{Frame, Open as OpenRegion, Ready, Slots, State, eight, frame_words, nesting, set, times, word, words}
use Rattle.gib_machine.specs.Sides.{set_all}
use Rattle.gib_weave.specs.Groups.{Group}
use Rattle.gib_weave.specs.Environment.{AreGiven, Ctx, Gave, Given}
use Rattle.gib_weave.specs.Continuing.{AllUnder, AreHeld, Fills, Kont, KEnd, KSide, KLast, KHere, KRegion, KScalar, KCall, KCallScalar, KPart, KSeveral, Rest, due, end_of, given_of, needs_of}
use Rattle.gib_weave.specs.Owing.{Owed, rest_means, resume}
use Rattle.gib_weave.specs.Paying.{Share, Counted, left_costs, later_costs}
use Rattle.gib_weave.specs.Places.{AllRoom, HasRoom, Owned, freed, kont_covers}
use Rattle.gib_weave.specs.Stacks.{Stack}
use Rattle.gib_weave.specs.Sound.{AtRest, InMemory, IsTied, Moves, Safe, counts, moves as goes, silent}
use Rattle.gib_weave.proofs.Basics.{set-other}
use Rattle.gib_weave.proofs.Counts.{Paid, finish_counted, goes_on_counted}
use Rattle.gib_weave.proofs.Move.{kont_less}
use Rattle.gib_weave.proofs.Places.{Apart-less, finished_covers, finished_rooms}
use Rattle.gib_weave.proofs.SideParts.{list_data}
use Rattle.gib_weave.proofs.Tolds.{gives_back}
use Rattle.gib_weave.proofs.Cases.{parts}
use Rattle.gib_weave.proofs.Filling.{not_one, same_types, slots_many}
use Rattle.gib_weave.proofs.Comes.{AreScalars, all_come, packed_of, scalars_of}
use Rattle.gib_weave.proofs.Ends.{Led, at_rest, first_at, gots_all, heads_less, overs_move, resting, silently, step_is, ties_behind}

abbrev is_held : Sort → Bool
is_held Outside = false
is_held Absent = false
is_held (Scalar ty) = false
is_held Held = true
is_held (Placed t) = false
is_held (Loose t) = false
is_held (AtHead t) = false
is_held (Field t z x k p) = false

-- an operand is no held variable
word_same : (sc : Scope) (sl : Slots) (x w : ℕ) (y : Atom) (ty : Ty) → sc x ≡ Held → AtomFits sc y ty → word (set sl x w) (operand y) ≡ word sl (operand y)
word_same sc sl x w (a.Variable y) Whole h f = set-other sl x y.0 w (λ e. true≢false (ap is_held (sym h ∙ ap sc (sym e) ∙ f)))
word_same sc sl x w (a.Variable y) Truth h f = set-other sl x y.0 w (λ e. true≢false (ap is_held (sym h ∙ ap sc (sym e) ∙ f)))
word_same sc sl x w (a.Variable y) (Tree t) h f = set-other sl x y.0 w (λ e. none-some _ (sym (ap tree_type (ap sc e ∙ h)) ∙ f))
word_same sc sl x w (a.Whole z) ty h f = refl
word_same sc sl x w (a.Truth b) ty h f = refl

words_same : (sc : Scope) (sl : Slots) (x w : ℕ) (ys : List Atom) (tys : List Ty) → sc x ≡ Held → AtomsFit sc ys tys → words (set sl x w) (operands ys) ≡ words sl (operands ys)
words_same sc sl x w [] tys h f = refl
words_same sc sl x w (y ∷ ys) [] h f = absurd f
words_same sc sl x w (y ∷ ys) (ty ∷ tys) h f = ap (λ (q : ℕ). q ∷ words (set sl x w) (operands ys)) (word_same sc sl x w y ty h f.0) ∙ ap (λ (q : List ℕ). word sl (operand y) ∷ q) (words_same sc sl x w ys tys h f.1)

frame_word : (n j : ℕ) (ws : List ℕ) → j < n → get_or (frame_words n ws) j 0 ≡ get_or ws j 0
frame_word zero j ws h = absurd (omega (arith, h))
frame_word (suc n) zero [] h = refl
frame_word (suc n) zero (w ∷ ws) h = refl
frame_word (suc n) (suc j) [] h = frame_word n j [] (omega (arith, h))
frame_word (suc n) (suc j) (w ∷ ws) h = frame_word n j ws (omega (arith, h))

-- A machine between two instructions, with these regions and tails, and so much room.
abbrev pub regions_at : State → (room ip : ℕ) → Slots → List OpenRegion → List ℕ → State
regions_at m room ip sl rs ts = record m { ip = ip; words = sl; regions = rs; tails = ts; room = room; doing = Ready }

module _ (core : CoreTree) (code : CodeTree) (owed : Owed) (own : Owned) (s : Store) (m : State) where
  -- the regions of the parts are finished
  dones_run : (xs : List ℕ) (sh : Share) (room ip z : ℕ) (sl : Slots) (rs : List OpenRegion) (ts : List ℕ) (heads : ℕ → ℕ) (left : Cost) → AreAt code ip (done_all xs) z → length xs ≤ length rs → InMemory own s heads rs ts → Counted rs left sh
      → ((sh' : Share) (room' : ℕ) (ts' : List ℕ) → room' ≡ length xs + room → InMemory own s heads (drop (length xs) rs) ts' → Counted (drop (length xs) rs) left sh' → Safe core code owed own sh' s (regions_at m room' z sl (drop (length xs) rs) ts'))
      → Safe core code owed own sh s (regions_at m room ip sl rs ts)
  dones_run [] sh room ip _ sl rs ts heads left none le memory counted go = go sh room ts (omega arith) memory counted
  dones_run (x ∷ xs) sh room ip z sl [] ts heads left d le memory counted go = absurd (omega (arith, le))
  dones_run (x ∷ xs) sh room ip z sl (r ∷ rs) ts heads left (one_more e d) le memory counted go =
      let paid : Paid rs left sh 0 = finish_counted r rs left left sh (record { regions = omega arith; items = omega arith }) counted in
      silently {m = regions_at m room ip sl (r ∷ rs) ts} refl e refl
      (counts paid.spends (dones_run xs paid.share (suc room) (ip + 1) z sl rs (finished ts r.cur) heads left d (omega (arith, le))
      (record { places = Apart-less memory.places (λ q. let f = finished_covers r rs ts q in omega (arith, f)); rooms = memory.rooms.1; tail_rooms = finished_rooms r.cur ts memory.rooms.0 memory.tail_rooms; small = memory.small })
      paid.counted (λ sh' room' ts' h. go sh' room' ts' (omega (arith, h)))))

module _ (core : CoreTree) (code : CodeTree) (owed : Owed) (own : Owned) (sh : Share) (s : Store) (m : State) where
  -- scalar parts go from operands to slots
  moves_run : (tys : List Ty) (xs : List Variable) (ss : List Atom) (sc : Scope) (sl : Slots) (ip l z : ℕ) → AreAt code ip (moves (scalar_slots tys xs) (operands ss) ++ Jump l ∷ []) z → AtomsFit sc ss (scalar_types tys) → AreHeld sc xs
      → Safe core code owed own sh s (at_rest m l (set_all sl (scalar_slots tys xs) (words sl (operands ss)))) → Moves core code owed own sh s (at_rest m ip sl)
  moves_run [] xs ss sc sl ip l z h f d g = silent (step_is code (at_rest m ip sl) (Jump l) refl (first_at h)) g
  moves_run (ty ∷ tys) [] ss sc sl ip l z h f d g = silent (step_is code (at_rest m ip sl) (Jump l) refl (first_at h)) g
  moves_run (Whole ∷ tys) (x ∷ xs) [] sc sl ip l z h f d g = absurd f
  moves_run (Whole ∷ tys) (x ∷ xs) (y ∷ ss) sc sl ip l z (one_more e h) f d g =
      let w = word sl (operand y) in
      silent (step_is code (at_rest m ip sl) (Move x.0 (operand y)) refl e)
      (goes (moves_run tys xs ss sc (set sl x.0 w) (ip + 1) l z h f.1 d.1 (subst (λ (q : List ℕ). Safe core code owed own sh s (at_rest m l (set_all (set sl x.0 w) (scalar_slots tys xs) q))) (sym (words_same sc sl x.0 w ss (scalar_types tys) d.0 f.1)) g)))
  moves_run (Truth ∷ tys) (x ∷ xs) [] sc sl ip l z h f d g = absurd f
  moves_run (Truth ∷ tys) (x ∷ xs) (y ∷ ss) sc sl ip l z (one_more e h) f d g =
      let w = word sl (operand y) in
      silent (step_is code (at_rest m ip sl) (Move x.0 (operand y)) refl e)
      (goes (moves_run tys xs ss sc (set sl x.0 w) (ip + 1) l z h f.1 d.1 (subst (λ (q : List ℕ). Safe core code owed own sh s (at_rest m l (set_all (set sl x.0 w) (scalar_slots tys xs) q))) (sym (words_same sc sl x.0 w ss (scalar_types tys) d.0 f.1)) g)))
  moves_run (Tree t ∷ tys) (x ∷ xs) ss sc sl ip l z h f d g = moves_run tys xs ss sc sl ip l z h f d.1 g

  -- scalar parts go from the part words to slots
  takes_run : (tys : List Ty) (xs : List Variable) (i : ℕ) (ws : List ℕ) (vs : List Datum) (sl : Slots) (ip z : ℕ) → AreAt code ip (takes_parts i (scalar_slots tys xs)) z → AreScalars tys ws vs → ((j : ℕ) → j < length tys → get_or m.parts (i + j) 0 ≡ get_or ws j 0)
      → Safe core code owed own sh s (at_rest m z (set_all sl (scalar_slots tys xs) ws)) → Safe core code owed own sh s (at_rest m ip sl)
  takes_run [] xs i ws vs sl ip _ none f e g = g
  takes_run (ty ∷ tys) [] i ws vs sl ip _ none f e g = g
  takes_run (Whole ∷ tys) (x ∷ xs) i [] vs sl ip z h f e g = absurd f
  takes_run (Whole ∷ tys) (x ∷ xs) i (w ∷ ws) [] sl ip z h f e g = absurd f
  takes_run (Whole ∷ tys) (x ∷ xs) i (w ∷ ws) (v ∷ vs) sl ip z (one_more p h) f e g =
      let here : get_or m.parts i 0 ≡ w = ap (λ (q : ℕ). get_or m.parts q 0) (let n : i ≡ i + 0 = omega arith in n) ∙ e 0 (omega arith) in
      silently {m = at_rest m ip sl} refl p refl
      (subst (λ (q : ℕ). Safe core code owed own sh s (at_rest m (ip + 1) (set sl x.0 q))) (sym here)
      (takes_run tys xs (suc i) ws vs (set sl x.0 w) (ip + 1) z h f.1 (λ j lt. ap (λ (q : ℕ). get_or m.parts q 0) (let n : suc i + j ≡ i + suc j = omega arith in n) ∙ e (suc j) (omega (arith, lt))) g))
  takes_run (Truth ∷ tys) (x ∷ xs) i [] vs sl ip z h f e g = absurd f
  takes_run (Truth ∷ tys) (x ∷ xs) i (w ∷ ws) [] sl ip z h f e g = absurd f
  takes_run (Truth ∷ tys) (x ∷ xs) i (w ∷ ws) (v ∷ vs) sl ip z (one_more p h) f e g =
      let here : get_or m.parts i 0 ≡ w = ap (λ (q : ℕ). get_or m.parts q 0) (let n : i ≡ i + 0 = omega arith in n) ∙ e 0 (omega arith) in
      silently {m = at_rest m ip sl} refl p refl
      (subst (λ (q : ℕ). Safe core code owed own sh s (at_rest m (ip + 1) (set sl x.0 q))) (sym here)
      (takes_run tys xs (suc i) ws vs (set sl x.0 w) (ip + 1) z h f.1 (λ j lt. ap (λ (q : ℕ). get_or m.parts q 0) (let n : suc i + j ≡ i + suc j = omega arith in n) ∙ e (suc j) (omega (arith, lt))) g))
  takes_run (Tree t ∷ tys) (x ∷ xs) i ws vs sl ip z h f e g = takes_run tys xs i ws vs sl ip z h f (λ j lt. e j (omega (arith, lt))) g

module _ (core : CoreTree) (code : CodeTree) (owed : Owed) (own : Owned) (sh : Share) where
  -- All parts are made, the packed ones in their regions: what a task has for the lines that wait.
  pub record PartsStand (s : Store) (m : State) (k : Kont) (tys : List Ty) (svs vs : List Datum) : Type 0 where
    pub due_is : due k ≡ results.Several tys
    pub group : Group code.laid s (InParts tys) vs m.regions
    pub full : length (packed_due tys) ≤ length vs
    pub memory : InMemory own s (kont_covers code.laid k) m.regions m.tails
    pub ties : IsTied owed m.pars m.side m.result (ties_behind core m.depth m.level k)
    pub owes : resume core m.depth k (Gives (tuple (merge tys svs vs))) ≡ owed.all
    pub counted : Counted m.regions (later_costs core m.depth m.level k (Gives (tuple (merge tys svs vs)))) sh
    pub all_room : AllRoom (nesting code) m.depth m.room k

  -- behind a return
  called_stand : {s : Store} {m : State} {gs : List (Option Given)} {c : Ctx} {k : Kont} {tys : List Ty} {svs vs : List Datum} (ip : ℕ) (sl : Slots) (fs : List Frame) (es ws : List ℕ) → PartsStand s m (KCall gs c k) tys svs vs
      → PartsStand s (record m { ip = ip; words = sl; frames = fs; gave = es; parts = ws; depth = suc m.depth; doing = Ready }) k tys svs vs
  called_stand ip sl fs es ws h = record { due_is = h.due_is; group = h.group; full = h.full; memory = h.memory; ties = h.ties; owes = h.owes; counted = h.counted; all_room = h.all_room }

  -- where the scalar ones are in their slots, the regions are finished, and the line goes on
  lands : {s : Store} (m : State) (sl : Slots) (l : ℕ) (xs : List Variable) (tys : List Ty) {u : Rest} {c : Ctx} {k : Kont} (at : ℕ) (ws : List ℕ) (svs vs : List Datum) → Stack core code s (KSeveral l xs tys u c k) sl m.frames at m.regions → AreScalars tys ws svs
      → PartsStand s m (KSeveral l xs tys u c k) tys svs vs → Safe core code owed own sh s (at_rest m l (set_all sl (scalar_slots tys xs) ws))
  lands {s} m sl l xs tys {u} {c} {k} at ws svs vs stack scalars h =
      let w = stack.3 in
      let n = length (packed_slots tys xs) in
      let many = slots_many c.scope tys xs w.new in
      let long = h.group.0 in
      let all = list_data (merge tys svs vs) in
      let left = left_costs core m.depth m.level u (bind xs (merge tys svs vs) c.env) k in
      let counted : Counted m.regions left sh = subst (λ (z : List Datum). Counted m.regions (left_costs core m.depth m.level u (bind xs z c.env) k) sh) all h.counted in
      dones_run core code owed own s m (packed_slots tys xs) sh m.room l stack.1 (set_all sl (scalar_slots tys xs) ws) m.regions m.tails (kont_covers code.laid (KSeveral l xs tys u c k)) left stack.2 (omega (arith, many, long)) h.memory counted
      (λ sh' room' ts' e memory counted'. all_come core code owed own sh' s (regions_at m room' stack.1 (set_all sl (scalar_slots tys xs) ws) (drop n m.regions) ts') stack.1 u k sl tys xs c ws svs vs (record {
        waits = w;
        stack = stack.4;
        group = stack.5;
        memory = memory;
        ties = h.ties;
        owes = ap (λ (z : List Datum). resume core m.depth k (rest_means core m.depth u (bind xs z c.env))) (sym all) ∙ h.owes;
        counted = counted';
        room = (subst (λ (z : ℕ). HasRoom (times m.depth (nesting code)) u z) (sym e) h.all_room.0, subst (λ (z : ℕ). AllRoom (nesting code) m.depth (freed u z) k) (sym e) h.all_room.1);
      }) scalars (packed_of code.laid s sl c.scope m.regions tys xs vs w.new h.full stack.0 h.group.1))

  -- A call has given parts, and the code of what follows it is next.
  record Returned (s : Store) (m : State) (c : Ctx) (told : ℕ → Bool) (k : Kont) (at : ℕ) (tys : List Ty) (ws : List ℕ) (svs vs : List Datum) : Type 0 where
    pub until : ℕ
    pub ready : m.doing ≡ Ready
    pub ends : AreAt code m.ip (call_ending (end_of c.line.overs k)) until
    pub under : AllUnder c.scope c.env k
    pub given : AreGiven c 0 (given_of k)
    pub meets : Meets (needs_of k) told c.line.overs
    pub led : Led core code s m.words m.frames m.regions c k at told
    pub parts : m.parts ≡ eight ws
    pub scalars : AreScalars tys ws svs
    pub stand : PartsStand s m k tys svs vs

  -- by the lines that wait, and the machine's frames
  returns_parts : (k : Kont) (s : Store) (m : State) (fs : List Frame) (c : Ctx) (told : ℕ → Bool) (at : ℕ) (tys : List Ty) (ws : List ℕ) (svs vs : List Datum) → Returned s (record m { frames = fs }) c told k at tys ws svs vs → Safe core code owed own sh s (record m { frames = fs })
  returns_parts (KEnd ty) s m fs ic T at tys ws svs vs h = absurd (not_one _ _ tys refl h.stand.due_is)
  returns_parts (KSide b) s m fs ic T at tys ws svs vs h = absurd (not_one _ _ tys refl h.stand.due_is)
  returns_parts (KLast l y t) s m fs ic T at tys ws svs vs h = absurd (not_one _ _ tys refl h.stand.due_is)
  returns_parts (KHere l x t u c k) s m fs ic T at tys ws svs vs h = absurd (not_one _ _ tys refl h.stand.due_is)
  returns_parts (KRegion l x t u c k) s m fs ic T at tys ws svs vs h = absurd (not_one _ _ tys refl h.stand.due_is)
  returns_parts (KScalar l x ty u c k) s m fs ic T at tys ws svs vs h = absurd (not_one _ _ tys refl h.stand.due_is)
  returns_parts (KCallScalar x ty gs u c k) s m fs ic T at tys ws svs vs h = absurd (not_one _ _ tys refl h.stand.due_is)
  returns_parts (KPart l i t us ss qs ps c k) s m fs ic T at tys ws svs vs h = absurd (not_one _ _ tys refl h.stand.due_is)
  returns_parts (KCall gs wc k) s m [] ic T at tys ws svs vs h = absurd h.led.stack
  returns_parts (KCall gs wc k) s m (f ∷ fs) ic T at tys ws svs vs h =
      let old = record m { frames = f ∷ fs } in
      goes (overs_move core code owed own sh s old ic (KCall gs wc k) at h.until h.under (Return ∷ []) ic.line.overs T h.ready h.ends h.led.vars.closes h.meets.0 h.led
      (λ l sl e sv hl.
      let back = record m { ip = f.back; words = f.words; frames = fs; gave = sl.ends; depth = suc m.depth; doing = Ready } in
      let st = hl.stack in
      let b = st.6 in
      silent (step_is code (at_rest old l sl) Return refl (first_at e))
      (gots_all core code owed own sh s back wc k at st.1 b.under wc f.words st.3.within st.3.name st.3.arguments st.3.parameters wc.line.told refl st.3.gots st.3.fits (record { still = λ y g. (refl, refl, refl) })
      (subst (λ (r : List (Option Given)). Gave code.laid s sl.ends 0 r) st.3.given (gives_back code.laid s sl ic 0 gs hl.vars h.given))
      (λ q g. (hl.knows q (h.meets.1 q (st.3.asked q g))).some) (record { vars = b.vars; stack = st.7; knows = b.vars.told })
      (λ sl2 sv2 h2. returns_parts k s (at_rest back st.1 sl2) fs wc (λ q. wc.line.told q || call_tells st.3.within core st.3.name st.3.arguments q) at tys ws svs vs
      record { until = st.2; ready = refl; ends = st.4; under = b.under; given = b.given; meets = b.meets; led = h2; parts = h.parts; scalars = h.scalars; stand = called_stand st.1 sl2 fs sl.ends m.parts h.stand }))))
  returns_parts (KSeveral l xs us u c k) s m fs ic T at tys ws svs vs h =
      let here = record m { frames = fs } in
      let same : us ≡ tys = same_types us tys h.stand.due_is in
      let scalars : AreScalars us ws svs = subst (λ (z : List Ty). AreScalars z ws svs) (sym same) h.scalars in
      let code_is = parts m.ip (takes_parts 0 (scalar_slots us xs)) (Jump l ∷ []) h.until h.ends in
      let few = h.led.stack.3.few in
      subst (λ (q : State). Safe core code owed own sh s q) (resting here h.ready)
      (takes_run core code owed own sh s here us xs 0 ws svs m.words m.ip code_is.middle code_is.left scalars
      (λ j lt. ap (λ (q : ℕ). get_or m.parts q 0) (let n : 0 + j ≡ j = omega arith in n) ∙ ap (λ (q : List ℕ). get_or q j 0) h.parts ∙ frame_word 8 j ws (omega (arith, lt, few)))
      (silently {m = at_rest here code_is.middle (set_all m.words (scalar_slots us xs) ws)} refl (first_at code_is.right) refl
      (lands here m.words l xs us at ws svs vs h.led.stack scalars (subst (λ (z : List Ty). PartsStand s here (KSeveral l xs us u c k) z svs vs) (sym same) h.stand))))

  -- the last packed part is made
  all_stand : {s : Store} {m : State} {c : Ctx} {k : Kont} (i : ℕ) (tys : List Ty) (ss : List Atom) (vs : List Datum) → AtRest core code owed own sh s m (Fills i tys ss vs NoPart) c k → AtomsFit c.scope ss (scalar_types tys) × PartsStand s m k tys (map (value c.env) ss) vs
  all_stand {s} {m} {c} {k} i tys ss vs at = go (drop i (packed_due tys)) refl
    where
      go : (ds : List ℕ) → drop i (packed_due tys) ≡ ds → AtomsFit c.scope ss (scalar_types tys) × PartsStand s m k tys (map (value c.env) ss) vs
      go (t ∷ ds) e = absurd (subst (λ (z : List ℕ). PartsFit core c.line.within NoPart z c.scope (λ sc. AtomsFit sc ss (scalar_types tys))) e at.fits.2)
      go [] e =
          let none_more = append-nil vs in (
            subst (λ (z : List ℕ). PartsFit core c.line.within NoPart z c.scope (λ sc. AtomsFit sc ss (scalar_types tys))) e at.fits.2,
            record {
              due_is = sym at.line.kind ∙ ap dest_type at.fits.0;
              group = subst (λ (d : Dest). Group code.laid s d vs m.regions) at.fits.0 at.group;
              full = let n = ap (λ (z : List ℕ). length z) e in let d = length-drop i (packed_due tys) in let q = at.fits.1 in omega (arith, n, d, q);
              memory = heads_less (λ q. kont_less code.laid c.head c.dest k q) at.memory;
              ties = at.ties;
              owes = ap (λ (z : List Datum). resume core m.depth k (Gives (tuple (merge tys (map (value c.env) ss) z)))) (sym none_more) ∙ at.owes;
              counted = subst (λ (z : List Datum). Counted m.regions (later_costs core m.depth m.level k (Gives (tuple (merge tys (map (value c.env) ss) z)))) sh) none_more (goes_on_counted (record { regions = omega arith; items = omega arith }) at.counted);
              all_room = at.room.all_room;
            },
          )

  no_parts : {s : Store} {m : State} {c : Ctx} {k : Kont} (ty : Ty) (i : ℕ) (tys : List Ty) (ss : List Atom) (vs : List Datum) → due k ≡ results.One ty → AtRest core code owed own sh s m (Fills i tys ss vs NoPart) c k → ⊥
  no_parts ty i tys ss vs e at = not_one ty _ tys e (sym at.line.kind ∙ ap dest_type at.fits.0)

  -- The scalar parts are given, to the caller or to the rest of the line.
  pub does_gives : (k : Kont) (fs : List Frame) (m : State) {s : Store} {c : Ctx} (i : ℕ) (tys : List Ty) (ss : List Atom) (vs : List Datum) (z : ℕ) → AreAt code m.ip (giving_parts (operands ss) (end_of c.line.overs k)) z
      → AtRest core code owed own sh s (record m { frames = fs }) (Fills i tys ss vs NoPart) c k → Moves core code owed own sh s (record m { frames = fs })
  does_gives (KEnd ty) fs m i tys ss vs z e at = absurd (no_parts _ i tys ss vs refl at)
  does_gives (KSide b) fs m i tys ss vs z e at = absurd (no_parts _ i tys ss vs refl at)
  does_gives (KLast l y t) fs m i tys ss vs z e at = absurd (no_parts _ i tys ss vs refl at)
  does_gives (KHere l x t u o k) fs m i tys ss vs z e at = absurd (no_parts _ i tys ss vs refl at)
  does_gives (KRegion l x t u o k) fs m i tys ss vs z e at = absurd (no_parts _ i tys ss vs refl at)
  does_gives (KScalar l x ty u o k) fs m i tys ss vs z e at = absurd (no_parts _ i tys ss vs refl at)
  does_gives (KCallScalar x ty gs u o k) fs m i tys ss vs z e at = absurd (no_parts _ i tys ss vs refl at)
  does_gives (KPart l j t us ss' vs' ps o k) fs m i tys ss vs z e at = absurd (no_parts _ i tys ss vs refl at)
  does_gives (KCall gs wc k) [] m i tys ss vs z e at = absurd at.line.stack
  does_gives (KCall gs wc k) (f ∷ fs) m {s} {c} i tys ss vs z e at =
      let here = record m { frames = f ∷ fs } in
      let all = all_stand i tys ss vs at in
      overs_move core code owed own sh s here c (KCall gs wc k) c.front z at.line.under (GiveParts (operands ss) ∷ []) c.line.overs c.line.told at.ready e at.line.matches.vars.closes at.fits.3.0 (record { vars = at.line.matches.vars; stack = at.line.stack; knows = at.line.matches.vars.told })
      (λ l sl e' sv hl.
      let ws = words sl (operands ss) in
      let back = record m { ip = f.back; words = f.words; frames = fs; gave = sl.ends; parts = eight ws; depth = suc m.depth; doing = Ready } in
      let st = hl.stack in
      let b = st.6 in
      silent (step_is code (at_rest here l sl) (GiveParts (operands ss)) refl (first_at e'))
      (gots_all core code owed own sh s back wc k c.front st.1 b.under wc f.words st.3.within st.3.name st.3.arguments st.3.parameters wc.line.told refl st.3.gots st.3.fits (record { still = λ y g. (refl, refl, refl) })
      (subst (λ (r : List (Option Given)). Gave code.laid s sl.ends 0 r) st.3.given (gives_back code.laid s sl c 0 gs hl.vars at.line.given))
      (λ q g. (hl.knows q (at.fits.3.1 q (st.3.asked q g))).some) (record { vars = b.vars; stack = st.7; knows = b.vars.told })
      (λ sl2 sv2 h2. returns_parts k s (at_rest back st.1 sl2) fs wc (λ q. wc.line.told q || call_tells st.3.within core st.3.name st.3.arguments q) c.front tys ws (map (value c.env) ss) vs
      record { until = st.2; ready = refl; ends = st.4; under = b.under; given = b.given; meets = b.meets; led = h2; parts = refl; scalars = scalars_of code.laid s sl c hl.vars tys ss all.0; stand = called_stand st.1 sl2 fs sl.ends (eight ws) all.1 })))
  does_gives (KSeveral l xs us u o k) fs m {s} {c} i tys ss vs z e at =
      let here = record m { frames = fs } in
      let all = all_stand i tys ss vs at in
      let same : us ≡ tys = same_types us tys all.1.due_is in
      let fit : AtomsFit c.scope ss (scalar_types us) = subst (λ (y : List Ty). AtomsFit c.scope ss (scalar_types y)) (sym same) all.0 in
      subst (λ (q : State). Moves core code owed own sh s q) (resting here at.ready)
      (moves_run core code owed own sh s here us xs ss c.scope m.words m.ip l z e fit at.line.under.0
      (lands here m.words l xs us c.front (words m.words (operands ss)) (map (value c.env) ss) vs at.line.stack (scalars_of code.laid s m.words c at.line.matches.vars us ss fit)
      (subst (λ (y : List Ty). PartsStand s here (KSeveral l xs us u o k) y (map (value c.env) ss) vs) (sym same) all.1)))
