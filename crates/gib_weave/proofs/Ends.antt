-- Where a tree stands, the machine goes on to the next term.
use Rattle.std.proofs.Common.{◌≡◌, ℕ, suc, ◌+◌, ◌≤◌, Bool, true, false, List, [], ◌∷◌, length, drop, ◌-◌, Option, Some, get_or, map, ◌<◌, ◌++◌, ◌||◌, ◌&&◌, cond, refl, sym, ap, subst, ◌∙◌, arith}
use Rattle.gib_types.specs.declared.table.Ty.{Ty}
use Rattle.gib_types.specs.declared.table.Ty.TheVariants.{Whole, Truth, Tree}
use Rattle.gib_types.specs.Tree.{Datum}
use Rattle.gib_types.specs.Layout.{LaidOut}
use Rattle.gib_code.specs.declared.instruction.AnswerType.{AnswerType}
use Rattle.gib_syntax.specs.Results as results
use Rattle.gib_syntax.specs.Results.{Results}
use Rattle.gib_syntax.specs.Typing.{one_type}
use Rattle.gib_types.specs.declared.reason.Reason.{Reason}
use Rattle.gib_syntax.specs.Meaning.{Environment, Gives, Stops, value_in}
use Rattle.gib_mem.specs.Memory.{Store}
use Rattle.gib_packed.specs.Decoding.{Dec}
use Rattle.gib_core.specs.Tree.{CoreTree}
use Rattle.gib_code.specs.Instruction.{Instruction, Got, OverEnd, Return}
use Rattle.gib_code.specs.Program.{CodeTree, IsAt, AreAt, none, one_more}
use Rattle.gib_core.specs.Low.{call_ending, ending, Over, over_all, got_from, gots, operands}
use Rattle.gib_machine.specs.State.{times, nesting, Slots, slot, Frame, Open as OpenRegion, State, Ready, Silent, cursor, Unwinding, Par, told, words, end_at, sink}
use Rattle.gib_machine.specs.Machine.{next, begin, goes_on, unwound, backs_at, ends_side, ends_with, answer_of}
use Rattle.gib_weave.specs.EndWords.{WithEnd, both, IsTold, EndWord}
use Rattle.std.specs.Prelude.{◌==◌}
use Rattle.std.proofs.lemmas.Bool.{true≢false}
use Rattle.std.proofs.lemmas.Option.{none-some, same_Some}
use Rattle.std.proofs.lemmas.List.{length-drop, length_push, nil_from_length}
use Rattle.gib_core.specs.declared.atom.Atom.{Atom}
use Rattle.gib_core.specs.declared.atom.Atom.TheVariants as atom
use Rattle.gib_core.specs.Meaning.{value}
use Rattle.gib_core.specs.declared.atom.Ended.{Ended}
use Rattle.gib_core.specs.Ending.{Within, ended, has_ended, call_ends}
use Rattle.gib_weave.proofs.Counts.{Paid, finish_counted}
use Rattle.gib_core.specs.Fits.{Sort, Absent, AtomsFit, Meets, Runs, and_also, finally, call_tells, tell_line, is_settled, tree_type, put, Placed, more, Dest, dest_type, packed_due}
use Rattle.gib_packed.specs.Reaching.{Turns, there}
use Rattle.gib_weave.specs.Environment.{Given, givens, Gave, AreGiven, AllClose, HasAll, Ctx, IsDest, StandsAt, IsPlaced, Matches}
use Rattle.gib_weave.specs.Continuing.{given_of, Rest, Plain, Part, Meet, Leave, Last, Fills, KSide, KLast, rest_pars, pars_of, side_of, Kont, KEnd, KHere, KRegion, KScalar, KCall, KCallScalar, KPart, KSeveral, made, AllUnder, end_of, needs_of, due, root}
use Rattle.gib_weave.specs.Owing.{debt_of, no_debt, level_after, Owed, rest_sides, sides_of, Debt, resume, rest_means}
use Rattle.gib_weave.specs.Paying.{Share, Counted, left_costs, later_costs}
use Rattle.gib_weave.specs.Places.{Owned, kont_covers, AllRoom, HasRoom, heads, freed}
use Rattle.gib_weave.specs.Groups.{Group, unused}
use Rattle.gib_weave.specs.Stacks.{IsRoot, Stack, Waits, no_tree}
use Rattle.gib_weave.proofs.Groups.{group_more}
use Rattle.gib_weave.proofs.Filling.{holds_more, sink_length, Stack-filled}
use Rattle.gib_weave.proofs.Reordered.{sink_counted, sink_covers, sink_room}
use Rattle.gib_machine.specs.Levels.{lefts}
use Rattle.gib_weave.specs.Sound.{counts, AtRest, unwinds, IsAnswer, at_term, over, Safe, rests, moves, silent, Moves, InMemory, IsTied, Ties, ties_of}
use Rattle.gib_weave.proofs.Move.{with_var, with_dest, HasAll-set, HasAll-dest, keeps_dest, IsDest-bind, IsDest-more, covers_more, HasAll-moved, Stack-moved, tree_settled, settled_there, other, with_line, HasAll-line, Matches-line, IsDest-line}
use Rattle.gib_weave.proofs.Sorts.{all_under_bind, rest_code_put, goes-refl, given_bind, is_field}
use Rattle.gib_weave.proofs.Basics.{by_test, put-other}
use Rattle.gib_weave.proofs.Tolds.{Tells, told_known, told_still, told_now, settled_slot, settled_not_held, moved_told, all_moved_told, gives_back, over_tells}
use Rattle.gib_weave.proofs.Lines.{follows}
use Rattle.gib_weave.proofs.Uses.{sides_bound}
use Rattle.gib_weave.proofs.Places.{Apart-less, finished_covers, finished_rooms}
use Rattle.gib_core.proofs.TypesKnown.{dest_more}

-- A machine between two instructions, at this one and with these slots.
abbrev pub at_rest : State → (ip : ℕ) → Slots → State
at_rest m ip sl = record m { ip = ip; words = sl; doing = Ready }

pub resting : (m : State) → m.doing ≡ Ready → at_rest m m.ip m.words ≡ m
resting m r = λ j. record m { doing = sym r j }

-- the places of other heads, where they cover no more
pub heads_less : {own : Owned} {s : Store} {g h : ℕ → ℕ} {rs : List OpenRegion} {ts : List ℕ} → ((q : ℕ) → g q ≤ h q) → InMemory own s h rs ts → InMemory own s g rs ts
heads_less le at = record { places = Apart-less at.places (λ q. let i = le q in omega (arith, i)); rooms = at.rooms; tail_rooms = at.tail_rooms; small = at.small }

abbrev pub type_number : Ty → ℕ
type_number Whole = 0
type_number Truth = 0
type_number (Tree t) = t.0

pub same_tree : (s t : ℕ) → ◌≡◌ {A = Ty} (Tree (record { 0 = s })) (Tree (record { 0 = t })) → s ≡ t
same_tree s t e = ap type_number e

-- Left sides and sides that are not joined.

pub lefts_rest : (core : CoreTree) (d n : ℕ) (u : Rest) (env : Environment) (ps : List Par) (ds : List Debt) → lefts ps ≡ length ds → lefts (rest_pars u ps) ≡ length (rest_sides core d n u env ds)
lefts_rest core d n (Plain u) env ps ds h = h
lefts_rest core d n (Part wi s r) env ps ds h = lefts_rest core d n r env ps ds h
lefts_rest core d n (Meet p s u) env ps ds h = go p.left
  where
    go : (b : Bool) → cond b (suc (lefts ps)) (lefts ps) ≡ length (cond b (debt_of core d n s env ∷ ds) ds)
    go true = ap suc h
    go false = h
lefts_rest core d n (Leave p u) env ps ds h = go p.left
  where
    go : (b : Bool) → cond b (suc (lefts ps)) (lefts ps) ≡ length (cond b (no_debt ∷ ds) ds)
    go true = ap suc h
    go false = h
lefts_rest core d n (Last b) env ps ds h = h
lefts_rest core d n (Fills i tys ss vs qs) env ps ds h = h

pub lefts_sides : (core : CoreTree) (d n : ℕ) (k : Kont) → lefts (pars_of k) ≡ length (sides_of core d n k)
lefts_sides core d n (KEnd ty) = refl
lefts_sides core d n (KSide b) = refl
lefts_sides core d n (KLast l y s) = refl
lefts_sides core d n (KHere l x s u c k) = lefts_rest core d n u c.env (pars_of k) (sides_of core d (level_after n u) k) (lefts_sides core d (level_after n u) k)
lefts_sides core d n (KRegion l x s u c k) = lefts_rest core d n u c.env (pars_of k) (sides_of core d (level_after n u) k) (lefts_sides core d (level_after n u) k)
lefts_sides core d n (KScalar l x ty u c k) = lefts_rest core d n u c.env (pars_of k) (sides_of core d (level_after n u) k) (lefts_sides core d (level_after n u) k)
lefts_sides core d n (KCall gs wc k) = lefts_sides core (suc d) n k
lefts_sides core d n (KCallScalar x ty gs u c k) = lefts_rest core (suc d) n u c.env (pars_of k) (sides_of core (suc d) (level_after n u) k) (lefts_sides core (suc d) (level_after n u) k)
lefts_sides core d n (KPart l i t tys ss vs ps c k) = lefts_sides core d n k
lefts_sides core d n (KSeveral l xs tys u c k) = lefts_rest core d n u c.env (pars_of k) (sides_of core d (level_after n u) k) (lefts_sides core d (level_after n u) k)

-- a tree stands where its variable was set
pub held_end : {laid : LaidOut} {s : Store} {t a : ℕ} {v : Datum} (sl : Slots) (x : ℕ) → both sl x ≡ record { word = a; last = 0 } → EndWord laid s t a (slot sl x) (end_at sl x) v
held_end {laid} {s} {t} {a} {v} sl x h =
    let p = ap (λ (b : WithEnd). b.word) h in
    let q = ap (λ (b : WithEnd). b.last) h in
    record { near = λ e. subst (λ (z : ℕ). Turns s a z) (sym p) there; ends = λ e. absurd (omega (arith, e, q)) }

module _ (core : CoreTree) (code : CodeTree) (owed : Owed) (own : Owned) (sh : Share) where
  -- a task that has no value unwinds, or ends
  pub unwound_safe : (why : Reason) (s : Store) (m : State) (ps : List Par) → owed.all ≡ Stops why → lefts ps ≡ length owed.sides → Safe core code owed own sh s (unwound why m ps)
  unwound_safe why s m [] e l = rests (over refl (nil_from_length owed.sides (sym l)) e)
  unwound_safe why s m (p ∷ ps) e l = go p.left refl l (λ h. unwound_safe why s m ps e h)
    where
      go : (b : Bool) → p.left ≡ b → cond b (suc (lefts ps)) (lefts ps) ≡ length owed.sides → (lefts ps ≡ length owed.sides → Safe core code owed own sh s (unwound why m ps))
          → Safe core code owed own sh s (cond b (record m { ip = p.join; pars = p ∷ ps; doing = Unwinding why }) (unwound why m ps))
      go true q h i = rests (unwinds record { why = why; unwinding = refl; par = p; outer = ps; pars = refl; left = q; count = h; owes = e })
      go false q h i = i h

pub first_at : {code : CodeTree} {l z : ℕ} {i : Instruction} {is : List Instruction} → AreAt code l (i ∷ is) z → IsAt code l i
first_at (one_more e r) = e

pub rest_at : {code : CodeTree} {l z : ℕ} {i : Instruction} {is : List Instruction} → AreAt code l (i ∷ is) z → AreAt code (l + 1) is z
rest_at (one_more e r) = r

pub or_none : (a : Bool) → (a || false) ≡ true → a ≡ true
or_none true e = refl
or_none false e = e

got_also : (a b c d : Bool) → (a || ((b && c) || d)) ≡ true → ((a || (b && c)) || d) ≡ true
got_also true b c d e = refl
got_also false b c d e = e

-- Between a term and what follows it: what is known of the frame, and what is told.
pub record Led (core : CoreTree) (code : CodeTree) (s : Store) (sl : Slots) (fs : List Frame) (rs : List OpenRegion) (c : Ctx) (k : Kont) (a : ℕ) (T : ℕ → Bool) : Type 0 where
  pub vars : HasAll code.laid s sl c
  pub stack : Stack core code s k sl fs a rs
  pub knows : (q : ℕ) → T q ≡ true → IsTold sl c.scope q

pub led_less : (core : CoreTree) (code : CodeTree) (s : Store) (sl : Slots) (fs : List Frame) (rs : List OpenRegion) (c : Ctx) (k : Kont) (a : ℕ) (T U : ℕ → Bool) → ((q : ℕ) → U q ≡ true → T q ≡ true) → Led core code s sl fs rs c k a T → Led core code s sl fs rs c k a U
led_less core code s sl fs rs c k a T U f h = record { vars = h.vars; stack = h.stack; knows = λ q e. h.knows q (f q e) }

-- x is told z, and is known to be where that is not 0
led_told : (core : CoreTree) (code : CodeTree) (s : Store) (sl : Slots) (fs : List Frame) (rs : List OpenRegion) (c : Ctx) (k : Kont) (a x z : ℕ) (T U : ℕ → Bool) → is_settled (c.scope x) ≡ true → Tells code.laid s (c.scope x) (slot sl x) (value_in c.env x) z → AllUnder c.scope c.env k
    → ((q : ℕ) → U q ≡ true → (q ≡ x → ⊥) → T q ≡ true) → (U x ≡ true → 0 < z) → Led core code s sl fs rs c k a T → Led core code s (told sl x z) fs rs c k a U
led_told core code s sl fs rs c k a x z T U st tl un less some h = record {
  vars = HasAll-moved (moved_told code.laid s sl c x z lt (told_known code.laid s (c.scope x) (c.scope x) (slot sl x) (end_at sl x) z (value_in c.env x) (value_in c.env x) (c.pl x) (goes-refl (c.scope x)) (λ q. refl) tl)) h.vars;
  stack = Stack-moved core code s k sl (told sl x z) fs a rs (all_moved_told code.laid s sl c.scope c.env k x z lt (settled_not_held (c.scope x) st) tl un) h.stack;
  knows = λ q. by_test q x (λ b. U q ≡ true → IsTold (told sl x z) c.scope q)
      (λ e u. subst (λ (y : ℕ). IsTold (told sl x z) c.scope y) (sym e) (record { settled = st; some = told_now sl x z lt (some (subst (λ (y : ℕ). U y ≡ true) e u)) }))
      (λ e u. let t = h.knows q (less q u e) in record { settled = t.settled; some = told_still sl x z q lt t.some });
}
  where
    lt : x < length sl.ends
    lt = let w = h.vars.wide x (settled_slot (c.scope x) st) in let e = h.vars.even in omega (arith, w, e)

abbrev and_is : (ℕ → Bool) → ℕ → Bool → ℕ → Bool
and_is T x b q = T q || (x == q && b)

also_less : (T : ℕ → Bool) (x q : ℕ) → and_also T x q ≡ true → (q ≡ x → ⊥) → T q ≡ true
also_less T x q = by_test q x (λ b. (T q || b) ≡ true → (q ≡ x → ⊥) → T q ≡ true) (λ e h ne. absurd (ne e)) (λ e h ne. or_none (T q) h)

is_less : (T : ℕ → Bool) (x q : ℕ) (c : Bool) → (T q || (x == q && c)) ≡ true → (q ≡ x → ⊥) → T q ≡ true
is_less T x q c = by_test x q (λ b. (T q || (b && c)) ≡ true → (q ≡ x → ⊥) → T q ≡ true) (λ e h ne. absurd (ne (sym e))) (λ e h ne. or_none (T q) h)

-- what a side told, in the line that waited for it
pub told_side : (sl : Slots) (c ic : Ctx) (x : ℕ) (so : Sort) (v : Datum) (at : ℕ) → c.scope x ≡ Absent → ((q : ℕ) → c.line.pending q ≡ true → is_settled (c.scope q) ≡ true) → ((q : ℕ) → c.line.pending q ≡ true → IsTold sl ic.scope q) → ((q : ℕ) → c.line.told q ≡ true → IsTold sl (put c.scope x so) q)
    → (q : ℕ) → (c.line.told q || c.line.pending q) ≡ true → IsTold sl (put c.scope x so) q
told_side sl c ic x so v at n asked inner before q = go (c.line.told q) refl
  where
    go : (b : Bool) → c.line.told q ≡ b → (b || c.line.pending q) ≡ true → IsTold sl (put c.scope x so) q
    go true e h = before q e
    go false e h = record { settled = ap is_settled (put-other c.scope x q so (other c.scope q x (settled_there (c.scope q) (asked q h)) n)) ∙ asked q h; some = (inner q h).some }

pub step_is : (code : CodeTree) (m : State) (i : Instruction) → m.doing ≡ Ready → IsAt code m.ip i → next code m ≡ begin code m (Some i)
step_is code m i r e = ap (goes_on code m) r ∙ ap (begin code m) e

pub silently : {core : CoreTree} {code : CodeTree} {owed : Owed} {own : Owned} {sh : Share} {s : Store} {m m' : State} {i : Instruction} → m.doing ≡ Ready → IsAt code m.ip i → begin code m (Some i) ≡ Silent m' → Safe core code owed own sh s m' → Safe core code owed own sh s m
silently {code = code} {m = m} {i = i} r e b h = moves (silent (step_is code m i r e ∙ b) h)

-- the ends before a return are told, the innermost first
module _ (core : CoreTree) (code : CodeTree) (owed : Owed) (own : Owned) (sh : Share) (s : Store) (m : State) (c : Ctx) (k : Kont) (a z : ℕ) (un : AllUnder c.scope c.env k) where
  overs_run : (is : List Instruction) (os : List Over) (T : ℕ → Bool) (ip : ℕ) (sl : Slots) → AreAt code ip (over_all os ++ is) z → AllClose code.laid s c os → Runs T os → Led core code s sl m.frames m.regions c k a T
      → ((l : ℕ) (sl' : Slots) → AreAt code l is z → sl'.vars ≡ sl.vars → Led core code s sl' m.frames m.regions c k a (finally T os) → Safe core code owed own sh s (at_rest m l sl')) → Safe core code owed own sh s (at_rest m ip sl)
  overs_run is [] T ip sl e cl ru h go = go ip sl e refl h
  overs_run is (o ∷ os) T ip sl e cl ru h go =
      let f = h.knows o.field ru.0 in
      silently {m = at_rest m ip sl} refl (first_at e) refl
      (overs_run is os (and_also T o.tree) (ip + 1) (told sl o.tree (end_at sl o.field)) (rest_at e) cl.1 ru.1
      (led_told core code s sl m.frames m.regions c k a o.tree (end_at sl o.field) T (and_also T o.tree) (ap is_settled cl.0.head) (over_tells code.laid s sl c o h.vars cl.0 f) un (λ q. also_less T o.tree q) (λ q. f.some) h) go)

  pub overs_move : (is : List Instruction) (os : List Over) (T : ℕ → Bool) → m.doing ≡ Ready → AreAt code m.ip (over_all os ++ is) z → AllClose code.laid s c os → Runs T os → Led core code s m.words m.frames m.regions c k a T
      → ((l : ℕ) (sl : Slots) → AreAt code l is z → sl.vars ≡ m.words.vars → Led core code s sl m.frames m.regions c k a (finally T os) → Moves core code owed own sh s (at_rest m l sl)) → Moves core code owed own sh s m
  overs_move is [] T r e cl ru h go = subst (λ (q : State). Moves core code owed own sh s q) (resting m r) (go m.ip m.words e refl h)
  overs_move is (o ∷ os) T r e cl ru h go =
      let f = h.knows o.field ru.0 in
      silent (step_is code m (OverEnd o.tree o.field) r (first_at e))
      (overs_run is os (and_also T o.tree) (m.ip + 1) (told m.words o.tree (end_at m.words o.field)) (rest_at e) cl.1 ru.1
      (led_told core code s m.words m.frames m.regions c k a o.tree (end_at m.words o.field) T (and_also T o.tree) (ap is_settled cl.0.head) (over_tells code.laid s m.words c o h.vars cl.0 f) un (λ q. also_less T o.tree q) (λ q. f.some) h) (λ l sl e' sv hl. moves (go l sl e' sv hl)))

  -- a variable is told what the call gave for its j-th parameter, where that is ended
  got_one : (x j : ℕ) (is : List Instruction) (T : ℕ → Bool) (ip : ℕ) (sl : Slots) (b : Bool) → AreAt code ip (cond b (Got x j ∷ is) is) z → is_settled (c.scope x) ≡ true → Tells code.laid s (c.scope x) (slot sl x) (value_in c.env x) (get_or m.gave j 0) → (b ≡ true → 0 < get_or m.gave j 0)
      → Led core code s sl m.frames m.regions c k a T
      → ((l : ℕ) (sl' : Slots) → AreAt code l is z → sl'.vars ≡ sl.vars → Led core code s sl' m.frames m.regions c k a (and_is T x b) → Safe core code owed own sh s (at_rest m l sl')) → Safe core code owed own sh s (at_rest m ip sl)
  got_one x j is T ip sl false e st tl some h go = go ip sl e refl (led_less core code s sl m.frames m.regions c k a T (and_is T x false) (λ q. by_test x q (λ b. (T q || (b && false)) ≡ true → T q ≡ true) (λ e i. or_none (T q) i) (λ e i. or_none (T q) i)) h)
  got_one x j is T ip sl true e st tl some h go =
      silently {m = at_rest m ip sl} refl (first_at e) refl
      (go (ip + 1) (told sl x (get_or m.gave j 0)) (rest_at e) refl (led_told core code s sl m.frames m.regions c k a x (get_or m.gave j 0) T (and_is T x true) st tl un (λ q. is_less T x q true) (λ q. some refl) h))

-- the line behind a call still knows the arguments, in the slots of the call
pub record Still (o c : Ctx) (words sl : Slots) : Type 0 where
  pub still : (y : ℕ) → is_settled (o.scope y) ≡ true → (c.scope y ≡ o.scope y) × (slot sl y ≡ slot words y) × (value_in c.env y ≡ value_in o.env y)

still_there : {o c : Ctx} {words sl sl' : Slots} → sl'.vars ≡ sl.vars → Still o c words sl → Still o c words sl'
still_there e h = record { still = λ y g. let i = h.still y g in (i.0, ap (λ (q : List ℕ). get_or q y 0) e ∙ i.1, i.2) }

-- the ends that a call gave are told to its arguments, in their order
module _ (core : CoreTree) (code : CodeTree) (owed : Owed) (own : Owned) (sh : Share) (s : Store) (m : State) (c : Ctx) (k : Kont) (a z : ℕ) (un : AllUnder c.scope c.env k) (o : Ctx) (words0 : Slots) where
  module _ (es : List Ended) (f : ℕ) (asked : (q : ℕ) → has_ended es f q ≡ true → 0 < get_or m.gave q 0) where
    gots_run : (xs : List Atom) (ps : List Ty) (j ip : ℕ) (sl : Slots) (T : ℕ → Bool) → AreAt code ip (got_from es f j xs) z → AtomsFit o.scope xs ps → Still o c words0 sl
        → Gave code.laid s m.gave j (givens ps (words words0 (operands xs)) (map (value o.env) xs)) → Led core code s sl m.frames m.regions c k a T
        → ((sl' : Slots) → sl'.vars ≡ sl.vars → Led core code s sl' m.frames m.regions c k a (λ q. T q || call_ends es f j xs (record { 0 = q })) → Safe core code owed own sh s (at_rest m z sl')) → Safe core code owed own sh s (at_rest m ip sl)
    gots_run [] [] j ip sl T none fit know gave h go = go sl refl (led_less core code s sl m.frames m.regions c k a T (λ q. T q || false) (λ q e. or_none (T q) e) h)
    gots_run [] (p ∷ ps) j ip sl T e fit know gave h go = absurd fit
    gots_run (x ∷ xs) [] j ip sl T e fit know gave h go = absurd fit
    gots_run (atom.Whole i ∷ xs) (Whole ∷ ps) j ip sl T e fit know gave h go = gots_run xs ps (suc j) ip sl T e fit.1 know gave h go
    gots_run (atom.Whole i ∷ xs) (Truth ∷ ps) j ip sl T e fit know gave h go = absurd fit.0
    gots_run (atom.Whole i ∷ xs) (Tree t ∷ ps) j ip sl T e fit know gave h go = absurd fit.0
    gots_run (atom.Truth b ∷ xs) (Whole ∷ ps) j ip sl T e fit know gave h go = absurd fit.0
    gots_run (atom.Truth b ∷ xs) (Truth ∷ ps) j ip sl T e fit know gave h go = gots_run xs ps (suc j) ip sl T e fit.1 know gave h go
    gots_run (atom.Truth b ∷ xs) (Tree t ∷ ps) j ip sl T e fit know gave h go = absurd fit.0
    gots_run (atom.Variable x ∷ xs) (Whole ∷ ps) j ip sl T e fit know gave h go =
        let w = know.still x.0 (ap is_settled fit.0) in
        got_one core code owed own sh s m c k a z un x.0 j (got_from es f (suc j) xs) T ip sl (has_ended es f j) e (ap is_settled w.0 ∙ ap is_settled fit.0)
        (λ u g p. absurd (none-some _ (sym (ap tree_type (w.0 ∙ fit.0)) ∙ g)))
        (asked j) h
        (λ l sl1 e1 sv h1. gots_run xs ps (suc j) l sl1 (and_is T x.0 (has_ended es f j)) e1 fit.1 (still_there sv know) gave h1
        (λ sl2 sv2 h2. go sl2 (sv2 ∙ sv) (led_less core code s sl2 m.frames m.regions c k a (λ q. and_is T x.0 (has_ended es f j) q || call_ends es f (suc j) xs (record { 0 = q })) (λ q. T q || call_ends es f j (atom.Variable x ∷ xs) (record { 0 = q })) (λ q i. got_also (T q) (x.0 == q) (has_ended es f j) (call_ends es f (suc j) xs (record { 0 = q })) i) h2)))
    gots_run (atom.Variable x ∷ xs) (Truth ∷ ps) j ip sl T e fit know gave h go =
        let w = know.still x.0 (ap is_settled fit.0) in
        got_one core code owed own sh s m c k a z un x.0 j (got_from es f (suc j) xs) T ip sl (has_ended es f j) e (ap is_settled w.0 ∙ ap is_settled fit.0)
        (λ u g p. absurd (none-some _ (sym (ap tree_type (w.0 ∙ fit.0)) ∙ g)))
        (asked j) h
        (λ l sl1 e1 sv h1. gots_run xs ps (suc j) l sl1 (and_is T x.0 (has_ended es f j)) e1 fit.1 (still_there sv know) gave h1
        (λ sl2 sv2 h2. go sl2 (sv2 ∙ sv) (led_less core code s sl2 m.frames m.regions c k a (λ q. and_is T x.0 (has_ended es f j) q || call_ends es f (suc j) xs (record { 0 = q })) (λ q. T q || call_ends es f j (atom.Variable x ∷ xs) (record { 0 = q })) (λ q i. got_also (T q) (x.0 == q) (has_ended es f j) (call_ends es f (suc j) xs (record { 0 = q })) i) h2)))
    gots_run (atom.Variable x ∷ xs) (Tree t ∷ ps) j ip sl T e fit know gave h go =
        let w = know.still x.0 (tree_settled (o.scope x.0) t.0 fit.0) in
        got_one core code owed own sh s m c k a z un x.0 j (got_from es f (suc j) xs) T ip sl (has_ended es f j) e (ap is_settled w.0 ∙ tree_settled (o.scope x.0) t.0 fit.0)
        (λ u g p. subst (λ (q : ℕ). Dec code.laid s (slot sl x.0) q (value_in c.env x.0) (get_or m.gave j 0)) (same_Some _ _ (sym fit.0 ∙ (sym (ap tree_type w.0) ∙ g))) (subst (λ (q : ℕ). Dec code.laid s q t.0 (value_in c.env x.0) (get_or m.gave j 0)) (sym w.1) (subst (λ (q : Datum). Dec code.laid s (slot words0 x.0) t.0 q (get_or m.gave j 0)) (sym w.2) (gave.0 p))))
        (asked j) h
        (λ l sl1 e1 sv h1. gots_run xs ps (suc j) l sl1 (and_is T x.0 (has_ended es f j)) e1 fit.1 (still_there sv know) gave.1 h1
        (λ sl2 sv2 h2. go sl2 (sv2 ∙ sv) (led_less core code s sl2 m.frames m.regions c k a (λ q. and_is T x.0 (has_ended es f j) q || call_ends es f (suc j) xs (record { 0 = q })) (λ q. T q || call_ends es f j (atom.Variable x ∷ xs) (record { 0 = q })) (λ q i. got_also (T q) (x.0 == q) (has_ended es f j) (call_ends es f (suc j) xs (record { 0 = q })) i) h2)))

  -- none stand inside a side of a `par`
  pub gots_all : (wi : Within) (f : ℕ) (xs : List Atom) (ps : List Ty) (T : ℕ → Bool) → m.doing ≡ Ready → AreAt code m.ip (gots wi core f xs) z → AtomsFit o.scope xs ps → Still o c words0 m.words
      → Gave code.laid s m.gave 0 (givens ps (words words0 (operands xs)) (map (value o.env) xs)) → ((q : ℕ) → has_ended (ended core) f q ≡ true → 0 < get_or m.gave q 0) → Led core code s m.words m.frames m.regions c k a T
      → ((sl : Slots) → sl.vars ≡ m.words.vars → Led core code s sl m.frames m.regions c k a (λ q. T q || call_tells wi core f xs q) → Safe core code owed own sh s (at_rest m z sl)) → Safe core code owed own sh s m
  gots_all wi f xs ps T r e fit know gave asked h go = subst (λ (q : State). Safe core code owed own sh s q) (resting m r) (by_par wi.par e go)
    where
      stay : {l z : ℕ} → AreAt code l [] z → Safe core code owed own sh s (at_rest m z m.words) → Safe core code owed own sh s (at_rest m l m.words)
      stay none i = i

      by_par : (b : Bool) → AreAt code m.ip (cond b [] (got_from (ended core) f 0 xs)) z
          → ((sl : Slots) → sl.vars ≡ m.words.vars → Led core code s sl m.frames m.regions c k a (λ q. T q || cond b false (call_ends (ended core) f 0 xs (record { 0 = q }))) → Safe core code owed own sh s (at_rest m z sl)) → Safe core code owed own sh s (at_rest m m.ip m.words)
      by_par true e g = stay e (g m.words refl (led_less core code s m.words m.frames m.regions c k a T (λ q. T q || false) (λ q e. or_none (T q) e) h))
      by_par false e g = gots_run (ended core) f asked xs ps 0 m.ip m.words T e fit know gave h g

-- The ties of the lines that wait.
abbrev pub ties_behind : CoreTree → (d n : ℕ) → Kont → Ties
ties_behind core d n k = record { debts = sides_of core d n k; marks = pars_of k; slots = side_of k; root = root k }

module _ (core : CoreTree) (code : CodeTree) (owed : Owed) (own : Owned) (sh : Share) where
  -- what a task has for a line that goes on, once x is bound to v
  pub record Resumes (s : Store) (m : State) (x : ℕ) (v : Datum) (u : Rest) (c : Ctx) (after : Dest) (k : Kont) : Type 0 where
    pub ready : m.doing ≡ Ready
    pub stack : Stack core code s k m.words m.frames c.front m.regions
    pub group : Group code.laid s after (made u) m.regions
    pub memory : InMemory own s (heads code.laid c.head after k) m.regions m.tails
    pub ties : IsTied owed m.pars m.side m.result (ties_of core m.depth m.level u c.env k)
    pub owes : resume core m.depth k (rest_means core m.depth u ((x, v) ∷ c.env)) ≡ owed.all
    pub counted : Counted m.regions (left_costs core m.depth m.level u ((x, v) ∷ c.env) k) sh
    pub room : HasRoom (times m.depth (nesting code)) u m.room × AllRoom (nesting code) m.depth (freed u m.room) k

  -- a line that waited goes on
  pub comes : {s : Store} {m : State} {sl : Slots} {x : ℕ} {so : Sort} {u : Rest} {c : Ctx} {after : Dest} {cur : ℕ} {k : Kont} (v : Datum) (pl : ℕ) → is_field so ≡ false → dest_type after ≡ dest_type c.dest → Waits core code s sl m.ip x so u c after cur k
      → Resumes s m x v u c after k → Matches code.laid s m.words (with_dest (with_line (with_var c x so v pl) (tell_line c.line.pending c.line)) after) (cursor m.regions)
      → AtRest core code owed own sh s m u (with_dest (with_line (with_var c x so v pl) (tell_line c.line.pending c.line)) after) k
  comes {m = m} {x = x} {so = so} {u = u} {c = c} {k = k} v pl nf kd w g ma = let l = w.line in record {
    ready = g.ready;
    group = g.group;
    low = rest_code_put core code c.line.within c.scope m.ip u (end_of c.line.overs k) x so nf l.low;
    fits = w.fits;
    line = record { kind = kd ∙ l.kind; matches = ma; stack = g.stack; under = all_under_bind c.scope c.env k x so v w.new l.under; given = given_bind c x so v pl (given_of k) w.new l.given; calm = l.calm };
    memory = g.memory;
    ties = record { sides = sides_bound core m.depth m.level x v u c.env k (sides_of core m.depth (level_after m.level u) k) w.free ∙ g.ties.sides; pars = g.ties.pars; side = g.ties.side; result = g.ties.result; type = g.ties.type };
    owes = g.owes;
    counted = g.counted;
    room = record { free = follows x u k w.free; narrow = l.narrow; nests = g.room.0; all_room = g.room.1 };
  }

  -- the tree v of the type t stands at a, and the code of what follows a term is next
  pub record Stood (s : Store) (m : State) (c : Ctx) (told : ℕ → Bool) (k : Kont) (t : ℕ) (v : Datum) (a : ℕ) : Type 0 where
    pub until : ℕ
    pub ready : m.doing ≡ Ready
    pub ends : AreAt code m.ip (ending (end_of c.line.overs k)) until
    pub under : AllUnder c.scope c.env k
    pub given : AreGiven c 0 (given_of k)
    pub meets : Meets (needs_of k) told c.line.overs
    pub led : Led core code s m.words m.frames m.regions c k a told
    pub tree : due k ≡ results.One (Tree (record { 0 = t }))
    pub dec : Dec code.laid s a t v (cursor m.regions)
    pub memory : InMemory own s (kont_covers code.laid k) m.regions m.tails
    pub ties : IsTied owed m.pars m.side m.result (ties_behind core m.depth m.level k)
    pub owes : resume core m.depth k (Gives v) ≡ owed.all
    pub counted : Counted m.regions (later_costs core m.depth m.level k (Gives v)) sh
    pub all_room : AllRoom (nesting code) m.depth m.room k

  -- the whole task's tree
  at_root : (s : Store) (a : ℕ) (rs : List OpenRegion) (t : ℕ) (v : Datum) (u : Ty) → u ≡ Tree (record { 0 = t }) → IsRoot u a rs → Dec code.laid s a t v (cursor rs) → Gives v ≡ owed.all → IsAnswer code.laid s (results.One u) owed.all (Rattle.gib_code.specs.declared.answer.Answer.TheVariants.At (Rattle.gib_machine.specs.State.start_of rs))
  at_root s a rs t v Whole e h d o = absurd cc
  at_root s a rs t v Truth e h d o = absurd cc
  at_root s a [] t v (Tree u) e h d o = absurd h
  at_root s a (r ∷ []) t v (Tree u) e h d o = (t, v, ap results.One e, sym o, subst (λ (z : ℕ). StandsAt code.laid s t z v) h (record { end = r.cur; dec = d }))
  at_root s a (r ∷ q ∷ rs) t v (Tree u) e h d o = absurd h

  -- a stolen side's tree
  tree_answer : (s : Store) (u : Ty) (t w : ℕ) (v : Datum) → u ≡ Tree (record { 0 = t }) → StandsAt code.laid s t w v → Gives v ≡ owed.all → IsAnswer code.laid s (results.One u) owed.all (answer_of u w)
  tree_answer s Whole t w v e h o = absurd cc
  tree_answer s Truth t w v e h o = absurd cc
  tree_answer s (Tree u) t w v e h o = (t, v, ap results.One e, sym o, h)

-- Behind a call that gives a tree stands what stands behind any packed term.
tree_ending : (os : List Over) (k : Kont) → no_tree (due k) ≡ false → call_ending (end_of os k) ≡ ending (end_of os k)
tree_ending os (KEnd ty) e = refl
tree_ending os (KSide b) e = refl
tree_ending os (KLast l y s) e = refl
tree_ending os (KHere l x s u c k) e = refl
tree_ending os (KRegion l x s u c k) e = refl
tree_ending os (KScalar l x ty u c k) e = refl
tree_ending os (KCall gs c k) e = refl
tree_ending os (KCallScalar x ty gs u c k) e = refl
tree_ending os (KPart l i t tys ss vs ps c k) e = refl
tree_ending os (KSeveral l xs tys u c k) e = absurd (true≢false e)

module _ (core : CoreTree) (code : CodeTree) (owed : Owed) (own : Owned) (sh : Share) where
  -- by the machine's frames and regions
  ends_by : (k : Kont) (s : Store) (m : State) (fs : List Frame) (rs : List OpenRegion) (c : Ctx) (T : ℕ → Bool) (t : ℕ) (v : Datum) (a : ℕ) → Stood core code owed own sh s (record m { frames = fs; regions = rs }) c T k t v a → Safe core code owed own sh s (record m { frames = fs; regions = rs })
  ends_by (KEnd u) s m [] rs ic T t v a h =
      moves (overs_move core code owed own sh s (record m { frames = []; regions = rs }) ic (KEnd u) a h.until h.under (Return ∷ []) ic.line.overs T h.ready h.ends h.led.vars.closes h.meets.0 h.led (λ l sl e sv hl. silent (step_is code (at_rest (record m { frames = []; regions = rs }) l sl) Return refl (first_at e)) (rests (over refl (sym h.ties.sides) (subst (λ (z : Results Ty). IsAnswer code.laid s z owed.all (Rattle.gib_code.specs.declared.answer.Answer.TheVariants.At (Rattle.gib_machine.specs.State.start_of rs))) (sym h.ties.type) (at_root core code owed own sh s a rs t v u (ap one_type h.tree) h.led.stack h.dec h.owes))))))
  ends_by (KEnd u) s m (f ∷ fs) rs ic T t v a h = absurd h.led.stack
  ends_by (KSide b) s m fs rs ic T t v a h = absurd (true≢false (ap no_tree h.tree))
  ends_by (KLast l y q) s m [] [] ic T t v a h = absurd h.led.stack
  ends_by (KLast l y q) s m [] (r ∷ []) ic T t v a h =
      let at = record m { ip = l; frames = []; regions = r ∷ []; doing = Ready } in
      silently h.ready (first_at h.ends) refl (silently {m = at} refl h.led.stack.0 (ap (backs_at at) h.ties.pars ∙ ap (ends_side at) h.ties.side ∙ ap (λ (r : AnswerType). Silent (ends_with at r (slot m.words y ∷ []))) h.ties.result)
      (rests (over refl (sym h.ties.sides) (subst (λ (z : Results Ty). IsAnswer code.laid s z owed.all (answer_of (Tree (record { 0 = q })) (slot m.words y))) (sym h.ties.type) (tree_answer core code owed own sh s (Tree (record { 0 = q })) t (slot m.words y) v (ap one_type h.tree) (subst (λ (z : ℕ). StandsAt code.laid s t z v) (sym h.led.stack.1) (record { end = r.cur; dec = h.dec })) h.owes)))))
  ends_by (KLast l y q) s m [] (r ∷ r' ∷ rs) ic T t v a h = absurd h.led.stack
  ends_by (KLast l y q) s m (f ∷ fs) rs ic T t v a h = absurd h.led.stack
  ends_by (KHere l x s' u c k) s m fs rs ic T t v a h =
      let w = h.led.stack.2 in
      let dec : Dec code.laid s a s' v (cursor rs) = subst (λ (z : ℕ). Dec code.laid s a z v (cursor rs)) (sym (same_tree s' t (ap one_type h.tree))) h.dec in
      let place : IsPlaced code.laid s s' (slot m.words x) a v = record { same = ap (λ (b : WithEnd). b.word) h.led.stack.0; stands = record { end = cursor rs; dec = dec } } in
      let ln = tell_line c.line.pending c.line in
      let c1 = with_var c x (Placed s') v a in
      let c1' = with_line c1 ln in
      let c2 = with_dest c1' (more c.dest x) in
      let hs = HasAll-set code.laid s m.words c x (Placed s') v a w.new place (held_end m.words x h.led.stack.0) w.line.matches.vars in
      let hl = HasAll-line {c = c1} ln (told_side m.words c ic x (Placed s') v a w.new w.asked (λ q e. h.led.knows q (h.meets q e)) hs.told) hs.closes hs in
      silently h.ready (first_at h.ends) refl (rests (at_term (comes core code owed own sh v a refl (dest_more c.dest x) w
      (record { ready = refl; stack = h.led.stack.3; group = group_more code.laid s c.dest x s' (made u) rs h.led.stack.1; memory = heads_less (λ q. let e = covers_more code.laid c.head c.dest x k q in omega (arith, e)) h.memory; ties = h.ties; owes = h.owes; counted = h.counted; room = h.all_room })
      (record {
        vars = HasAll-dest {c = c1'} {c' = c2} refl (keeps_dest c1' (more c.dest x)) hl (λ y. refl) (λ y. refl) (λ y. refl) hl.told hl.closes;
        dest = IsDest-line code.laid s m.words (with_dest c1 (more c.dest x)) (cursor rs) (more c.dest x) ln (IsDest-more code.laid s m.words c a (cursor rs) x s' v c.dest w.new h.led.stack.1 dec w.line.matches.dest);
      }))))
  ends_by (KRegion l x s' u c k) s m fs [] ic T t v a h = absurd h.led.stack
  ends_by (KRegion l x s' u c k) s m fs (r ∷ rs) ic T t v a h =
      let w = h.led.stack.3 in
      let dec : Dec code.laid s a s' v r.cur = subst (λ (z : ℕ). Dec code.laid s a z v r.cur) (sym (same_tree s' t (ap one_type h.tree))) h.dec in
      let place : IsPlaced code.laid s s' (slot m.words x) a v = record { same = ap (λ (b : WithEnd). b.word) h.led.stack.0; stands = record { end = r.cur; dec = dec } } in
      let paid : Paid rs (left_costs core m.depth m.level u ((x, v) ∷ c.env) k) sh 0 = finish_counted r rs (later_costs core m.depth m.level (KRegion l x s' u c k) (Gives v)) (left_costs core m.depth m.level u ((x, v) ∷ c.env) k) sh (record { regions = omega arith; items = omega arith }) h.counted in
      let hs = HasAll-set code.laid s m.words c x (Placed s') v a w.new place (held_end m.words x h.led.stack.0) w.line.matches.vars in
      silently h.ready (first_at h.ends) refl (silently refl h.led.stack.2 refl (counts paid.spends (rests (at_term (comes core code owed own paid.share v a refl refl w
      (record {
        ready = refl;
        stack = h.led.stack.4;
        group = h.led.stack.5;
        memory = record { places = Apart-less h.memory.places (λ q. let f = finished_covers r rs m.tails q in omega (arith, f)); rooms = h.memory.rooms.1; tail_rooms = finished_rooms r.cur m.tails h.memory.rooms.0 h.memory.tail_rooms; small = h.memory.small };
        ties = h.ties;
        owes = h.owes;
        counted = paid.counted;
        room = h.all_room;
      })
      (Matches-line (tell_line c.line.pending c.line) (told_side m.words c ic x (Placed s') v a w.new w.asked (λ q e. h.led.knows q (h.meets q e)) hs.told) hs.closes (record { vars = hs; dest = IsDest-bind code.laid s m.words c (cursor rs) x (Placed s') v a c.dest w.new w.line.matches.dest })))))))
  ends_by (KScalar l x u' u c k) s m fs rs ic T t v a h = absurd (true≢false (sym h.led.stack.0 ∙ ap no_tree h.tree))
  ends_by (KCall gs wc k) s m [] rs ic T t v a h = absurd h.led.stack
  ends_by (KCall gs wc k) s m (f ∷ fs) rs ic T t v a h =
      let old = record m { frames = f ∷ fs; regions = rs } in
      moves (overs_move core code owed own sh s old ic (KCall gs wc k) a h.until h.under (Return ∷ []) ic.line.overs T h.ready h.ends h.led.vars.closes h.meets.0 h.led
      (λ l sl e sv hl.
      let back = record m { ip = f.back; words = f.words; frames = fs; regions = rs; gave = sl.ends; depth = suc m.depth; doing = Ready } in
      let st = hl.stack in
      let b = st.6 in
      silent (step_is code (at_rest old l sl) Return refl (first_at e))
      (gots_all core code owed own sh s back wc k a st.1 b.under wc f.words st.3.within st.3.name st.3.arguments st.3.parameters wc.line.told refl st.3.gots st.3.fits (record { still = λ y g. (refl, refl, refl) })
      (subst (λ (r : List (Option Given)). Gave code.laid s sl.ends 0 r) st.3.given (gives_back code.laid s sl ic 0 gs hl.vars h.given))
      (λ q g. (hl.knows q (h.meets.1 q (st.3.asked q g))).some) (record { vars = b.vars; stack = st.7; knows = b.vars.told })
      (λ sl2 sv2 h2. ends_by k s (at_rest back st.1 sl2) fs rs wc (λ q. wc.line.told q || call_tells st.3.within core st.3.name st.3.arguments q) t v a
      record { until = st.2; ready = refl; ends = subst (λ (is : List Instruction). AreAt code st.1 is st.2) (tree_ending wc.line.overs k (ap no_tree h.tree)) st.4; under = b.under; given = b.given; meets = b.meets; led = h2; tree = h.tree; dec = h.dec; memory = h.memory; ties = h.ties; owes = h.owes; counted = h.counted; all_room = h.all_room }))))
  ends_by (KCallScalar x u' gs u c k) s m [] rs ic T t v a h = absurd h.led.stack
  ends_by (KCallScalar x u' gs u c k) s m (f ∷ fs) rs ic T t v a h = absurd (true≢false (sym h.led.stack.0 ∙ ap no_tree h.tree))
  -- the part's region goes back into its group, and the other parts follow
  ends_by (KPart l i t' tys ss vs ps c k) s m fs [] ic T t v a h = absurd h.led.stack
  ends_by (KPart l i t' tys ss vs ps c k) s m fs (r ∷ rs) ic T t v a h =
      let w = h.led.stack.2 in
      let many = length (packed_due tys) in
      let j = many - 1 - i in
      let others = drop (suc i) (packed_due tys) in
      let types : drop (length vs) (packed_due tys) ≡ t' ∷ others = ap (λ (z : ℕ). drop z (packed_due tys)) w.many ∙ h.led.stack.3 in
      let from = ap (λ (z : List ℕ). length z) h.led.stack.3 in
      let dropped = length-drop i (packed_due tys) in
      let newer : length others ≡ j = omega (arith, from, dropped) in
      let waiting = sink_length j (unused r) rs in
      let back = sink_length j r rs in
      let all = h.led.stack.4.0 in
      let long : j ≤ length rs = omega (arith, from, dropped, waiting, all) in
      let inside : j < many = omega (arith, from, dropped) in
      let dec : Dec code.laid s r.start t' v r.cur = subst (λ (z : ℕ). Dec code.laid s z t' v r.cur) h.led.stack.0 (subst (λ (z : ℕ). Dec code.laid s a z v r.cur) (sym (same_tree t' t (ap one_type h.tree))) h.dec) in
      let us = Fills (suc i) tys ss (vs ++ v ∷ []) ps in
      let left = left_costs core m.depth m.level us c.env k in
      let paid : Paid (sink j (r ∷ rs)) left sh 0 = sink_counted j (r ∷ rs) left sh h.counted in
      silently h.ready (first_at h.ends) refl (silently refl h.led.stack.1 refl (counts paid.spends (rests (at_term {u = us} {c = c} {k = k} record {
        ready = refl;
        group = subst (λ (d : Dest). Group code.laid s d (vs ++ v ∷ []) (sink j (r ∷ rs))) (sym w.dest) (omega (arith, waiting, back, all), holds_more code.laid s j r (unused r) rs (packed_due tys) vs t' others v types newer long dec h.led.stack.4.1);
        low = w.low;
        fits = (w.dest, (let p = length_push vs v in let q = w.many in omega (arith, p, q)), w.fits, w.meets);
        line = record {
          kind = w.kind;
          matches = record { vars = w.vars; dest = subst (λ (d : Dest). IsDest code.laid s m.words c d (cursor (sink j (r ∷ rs)))) (sym w.dest) tt };
          stack = Stack-filled core code s k m.words fs c.front j (unused r) r rs tys refl (sym w.kind ∙ ap dest_type w.dest) inside h.led.stack.5;
          under = w.under;
          given = w.given;
          calm = w.calm;
        };
        memory = record { places = Apart-less h.memory.places (λ q. let e = sink_covers j (r ∷ rs) q in omega (arith, e)); rooms = sink_room j (r ∷ rs) h.memory.rooms; tail_rooms = h.memory.tail_rooms; small = h.memory.small };
        ties = h.ties;
        owes = h.owes;
        counted = paid.counted;
        room = record { free = w.free; narrow = w.narrow; nests = h.all_room.0; all_room = h.all_room.1 };
      }))))
  ends_by (KSeveral l xs tys u c k) s m fs rs ic T t v a h = absurd (true≢false (ap no_tree h.tree))

  pub ends : {s : Store} {m : State} {c : Ctx} {T : ℕ → Bool} {k : Kont} {t : ℕ} {v : Datum} {a : ℕ} → Stood core code owed own sh s m c T k t v a → Safe core code owed own sh s m
  ends {s} {m} {c} {T} {k} {t} {v} {a} h = ends_by k s m m.frames m.regions c T t v a h
