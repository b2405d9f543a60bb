-- A case.
use Rattle.std.proofs.Common.{◌≡◌, ℕ, ◌+◌, ◌<◌, ◌^◌, ◌%◌, Bool, true, false, eqb, slice_set, ◌||◌, ◌&&◌, ◌==◌, List, [], ◌∷◌, ◌++◌, length, Option, Some, None, refl, sym, ap, subst, ◌∙◌, arith}
use Rattle.std.proofs.lemmas.Bool.{eq-eqb, or_left, or_right, true≢false, and_parts}
use Rattle.std.proofs.lemmas.Option.{none-some, same_Some}
use Rattle.gib_types.specs.declared.table.Ty.{Ty}
use Rattle.gib_types.specs.Table.{fields_at, con_at}
use Rattle.gib_types.specs.Layout.{LaidOut, is_among, layout_at, head_size, packed_count}
use Rattle.gib_types.specs.Tree.{list_of, Datum, con, Data}
use Rattle.gib_syntax.specs.Meaning.{Environment, value_in, Outcome}
use Rattle.gib_mem.specs.Memory.{Store, byte, Holds}
use Rattle.gib_packed.specs.Scalars.{scalars}
use Rattle.gib_packed.specs.Head.{offset_bytes, head_bytes}
use Rattle.gib_packed.specs.Decoding as d
use Rattle.gib_packed.specs.Decoding.{Dec, Decs}
use Rattle.gib_packed.proofs.HeadLemmas.{offsets-length}
use Rattle.gib_core.specs.declared.atom.Variable.{Variable}
use Rattle.gib_core.specs.declared.atom.Atom.{Atom}
use Rattle.gib_core.specs.declared.atom.Atom.TheVariants as atom
use Rattle.gib_core.specs.Tree.{Term, CaseTerm, Branches, CoreTree}
use Rattle.gib_core.specs.Meaning.{bind, core_calls, mean_branches}
use Rattle.gib_code.specs.declared.instruction.Arm.{Arm}
use Rattle.gib_code.specs.Instruction as i
use Rattle.gib_code.specs.Program.{CodeTree, IsAt, AreAt}
use Rattle.gib_core.specs.Low.{LeafAt, no_leaf, leaf, LowArms, slot_of, Field as StoredField, scalar_reads, first_reach, arm_opening, Over, arm_end, arm_overs, with_over, is_over}
use Rattle.gib_machine.specs.State.{told, end_at, Slots, slot, Frame, Open as OpenRegion, State}
use Rattle.gib_machine.specs.Machine.{label_of, arms_of}
use Rattle.gib_weave.proofs.Basics.{set_both}
use Rattle.gib_core.specs.Cost.{Cost, plus, cost_branches, call_costs}
use Rattle.gib_core.specs.Fits.{Line as FitsLine, arm_line, is_leaf, is_settled, put, Sort, Outside, Absent, Scalar, Held, Placed, Loose, AtHead, Field, Scope, is_there, has_slot, tree_type, Dest, Fits, BranchesFit, cased, branches_cased, is_of, AreNew, arm_scope}
use Rattle.gib_weave.specs.Environment.{Closes, AllClose, Ctx, StandsAt, IsAtHead, Has}
use Rattle.gib_weave.specs.EndWords.{IsTold}
use Rattle.gib_weave.specs.Continuing.{Plain, KSide, KLast, Kont, KEnd, KHere, KRegion, KScalar, KCall, KCallScalar, KPart, KSeveral, given_of, end_of, needs_of, Goes, Under, AllUnder, branches_nest, IsCode, Agrees}
use Rattle.gib_weave.specs.Owing.{costs, Owed, resume, means}
use Rattle.gib_weave.specs.Paying.{Share, Counted, left_costs, later_costs}
use Rattle.gib_weave.specs.Places.{Owned}
use Rattle.gib_weave.specs.Sound.{AtTerm, at_term, Safe, rests, Moves, OnLine}
use Rattle.gib_weave.specs.Starting.{AreBodies}
use Rattle.gib_weave.proofs.Basics.{by_test, put-same, set-same, both_is}
use Rattle.gib_weave.specs.Groups.{Group}
use Rattle.gib_weave.proofs.Groups.{same_held}
use Rattle.gib_weave.proofs.Move.{settled_there, tree_settled, with_line, Matches-line, keeps_line, end_kept, MovedOne, Moved, moved_same, AllMoved, goes-there}
use Rattle.gib_weave.proofs.Sorts.{goes-refl, given_keeps, agrees_put}
use Rattle.gib_weave.proofs.Readings.{get_one, looks, known_below}
use Rattle.gib_types.specs.declared.table.ConId.{ConId}
use Rattle.gib_types.specs.declared.table.Ty.TheVariants.{Whole, Truth, Tree}
use Rattle.gib_core.specs.Ending.{Within, last_packed}
use Rattle.gib_weave.proofs.Tolds.{Tells, told_known, told_now, moved_told, all_moved_told, settled_slot, settled_not_held, tree_slot, tree_not_held, tree_end, moved_end}
use Rattle.gib_weave.proofs.EndWords.{Walked}
use Rattle.gib_weave.proofs.Opens.{size_small}
use Rattle.gib_weave.proofs.CallFrames.{tree_of}
use Rattle.gib_weave.proofs.Arms.{with_sort, StaysHead, Line, line_sort}
use Rattle.gib_weave.proofs.Cases.{BeforeIs, number_of_var, no_tree_end, parts, scalar_slots, first_slots, scalar_kept, first_kept, scalar_long, first_long, scalar_ends, first_ends, scalar_even, first_even, slots_fit, run_scalars, run_first, extend, agrees_arm, find}
use Rattle.gib_weave.proofs.Ends.{at_rest, step_is, silently}
use Rattle.gib_packed.proofs.StoredLemmas.{Holds-front, Holds-behind}
use Rattle.gib_packed.proofs.HoldsLemmas.{Holds-rest, Holds-first}
use Rattle.gib_weave.proofs.Lines.{line_less, line_moved}

-- Slots that no line relies on.

moved_there : (laid : LaidOut) (s : Store) (so : Sort) (w w' : ℕ) (v : Datum) → (is_there so ≡ true → w' ≡ w) → MovedOne laid s so w w' v
moved_there laid s Outside w w' v h = tt
moved_there laid s Absent w w' v h = tt
moved_there laid s (Scalar ty) w w' v h = h refl
moved_there laid s Held w w' v h = h refl
moved_there laid s (Placed t) w w' v h = h refl
moved_there laid s (Loose t) w w' v h = moved_same laid s (Loose t) w w' v (h refl)
moved_there laid s (AtHead t) w w' v h = h refl
moved_there laid s (Field t z x k p) w w' v h = tt

there_bound : (so : Sort) → is_there so ≡ true → so ≡ Absent → ⊥
there_bound so h e = true≢false (sym h ∙ ap is_there e)

-- all slots but those of new variables are as they were
pub record OnlyNew (sl F : Slots) (sc : Scope) : Type 0 where
  pub same : (q : ℕ) → (sc q ≡ Absent → ⊥) → slot F q ≡ slot sl q
  pub long : length F.vars ≡ length sl.vars
  pub ends : (q : ℕ) → (sc q ≡ Absent → ⊥) → end_at F q ≡ end_at sl q
  pub same_ends : length F.ends ≡ length sl.ends

moved_new : (laid : LaidOut) (s : Store) (sl F : Slots) (c : Ctx) → OnlyNew sl F c.scope → Moved laid s sl F c
moved_new laid s sl F c o = record {
  one = λ q. moved_there laid s (c.scope q) (slot sl q) (slot F q) (value_in c.env q) (λ h. o.same q (there_bound (c.scope q) h));
  long = o.long;
  ends = λ q. end_kept laid s (c.scope q) (slot sl q) (slot F q) (end_at sl q) (end_at F q) (value_in c.env q) (c.pl q) (λ h. o.same q (there_bound (c.scope q) h)) (λ h. o.ends q (there_bound (c.scope q) h));
  same_ends = o.same_ends;
  kept = λ q st p. subst (λ (z : ℕ). 0 < z) (sym (o.ends q (there_bound (c.scope q) (settled_there (c.scope q) st)))) p;
}

moved_under : (laid : LaidOut) (s : Store) (sl F : Slots) (sc : Scope) (env : Environment) (o : Ctx) → OnlyNew sl F sc → Under o sc env → Moved laid s sl F o
moved_under laid s sl F sc env o n u = record {
  one = λ q. moved_there laid s (o.scope q) (slot sl q) (slot F q) (value_in o.env q) (λ h. n.same q (there_bound (sc q) (goes-there (o.scope q) (sc q) (u.sorts q) h)));
  long = n.long;
  ends = λ q. end_kept laid s (o.scope q) (slot sl q) (slot F q) (end_at sl q) (end_at F q) (value_in o.env q) (o.pl q) (λ h. n.same q (there_bound (sc q) (goes-there (o.scope q) (sc q) (u.sorts q) h))) (λ h. n.ends q (there_bound (sc q) (goes-there (o.scope q) (sc q) (u.sorts q) h)));
  same_ends = n.same_ends;
  kept = λ q st p. subst (λ (z : ℕ). 0 < z) (sym (n.ends q (there_bound (sc q) (goes-there (o.scope q) (sc q) (u.sorts q) (settled_there (o.scope q) st))))) p;
}

held_bound : (so : Sort) → so ≡ Held → so ≡ Absent → ⊥
held_bound so h e = there_bound so (ap is_there h) e

all_moved_new : (laid : LaidOut) (s : Store) (sl F : Slots) (sc : Scope) (env : Environment) (k : Kont) → OnlyNew sl F sc → AllUnder sc env k → AllMoved laid s sl F k
all_moved_new laid s sl F sc env (KEnd ty) n u = tt
all_moved_new laid s sl F sc env (KSide b) n u = tt
all_moved_new laid s sl F sc env (KLast l0 y0 s0) n u = n.same y0 (held_bound (sc y0) u)
all_moved_new laid s sl F sc env (KHere l x t v c k) n u = (both_is (slot F x) (end_at F x) (slot sl x) (end_at sl x) (n.same x (held_bound (sc x) u.0)) (n.ends x (held_bound (sc x) u.0)), moved_under laid s sl F sc env c n u.1, all_moved_new laid s sl F sc env k n u.2)
all_moved_new laid s sl F sc env (KRegion l x t v c k) n u = (both_is (slot F x) (end_at F x) (slot sl x) (end_at sl x) (n.same x (held_bound (sc x) u.0)) (n.ends x (held_bound (sc x) u.0)), moved_under laid s sl F sc env c n u.1, all_moved_new laid s sl F sc env k n u.2)
all_moved_new laid s sl F sc env (KScalar l x ty v c k) n u = (moved_under laid s sl F sc env c n u.0, all_moved_new laid s sl F sc env k n u.1)
all_moved_new laid s sl F sc env (KCall gs wc k) n u = tt
all_moved_new laid s sl F sc env (KCallScalar x ty gs v c k) n u = tt
all_moved_new laid s sl F sc env (KPart l i t tys ss vs ps c k) n u = (moved_under laid s sl F sc env c n u.0, all_moved_new laid s sl F sc env k n u.1)
all_moved_new laid s sl F sc env (KSeveral l xs tys v c k) n u =
    (same_held sl F sc tys xs (λ x h. both_is (slot F x) (end_at F x) (slot sl x) (end_at sl x) (n.same x (held_bound (sc x) h)) (n.ends x (held_bound (sc x) h))) u.0, moved_under laid s sl F sc env c n u.1, all_moved_new laid s sl F sc env k n u.2)

-- The subject.

goes_head : (so : Sort) (t : ℕ) → tree_type so ≡ Some t → Goes so (AtHead t)
goes_head Outside t h = tt
goes_head Absent t h = tt
goes_head (Scalar ty) t h = absurd (none-some _ h)
goes_head Held t h = absurd (none-some _ h)
goes_head (Placed u) t h = sym h
goes_head (Loose u) t h = sym h
goes_head (AtHead u) t h = ap AtHead (sym (same_Some _ _ h))
goes_head (Field u z x k p) t h = absurd (none-some _ h)

-- what inner lines rely on, where the variable's slot is its head's place now
moved_tree : (laid : LaidOut) (s : Store) (o i : Sort) (t w a : ℕ) (v : Datum) → Goes o i → tree_type i ≡ Some t → ((u : ℕ) → o ≡ Placed u → ⊥) → ((u : ℕ) → i ≡ AtHead u → a ≡ w) → (is_there o ≡ true → StandsAt laid s t a v) → MovedOne laid s o w a v
moved_tree laid s Outside i t w a v g e np ah st = tt
moved_tree laid s Absent i t w a v g e np ah st = tt
moved_tree laid s (Scalar ty) i t w a v g e np ah st = absurd (none-some _ (sym (ap tree_type g) ∙ e))
moved_tree laid s Held i t w a v g e np ah st = absurd (none-some _ (sym (ap tree_type g) ∙ e))
moved_tree laid s (Placed u) i t w a v g e np ah st = absurd (np u refl)
moved_tree laid s (Loose u) i t w a v g e np ah st = λ h. subst (λ (q : ℕ). StandsAt laid s q a v) (same_Some _ _ (sym e ∙ g)) (st refl)
moved_tree laid s (AtHead u) i t w a v g e np ah st = ah u g
moved_tree laid s (Field u z x k p) i t w a v g e np ah st = tt

size_some : (laid : LaidOut) (k : ℕ) → 0 < head_size laid k
size_some laid k = omega arith

end_arm : (w : Within) (core : CoreTree) (x : ℕ) (c : ConId) (ys : List Variable) (u : Term) (os : List Over) (k : Kont) → arm_end w core x c ys u (end_of os k) ≡ end_of (arm_overs w core x c ys u os) k
end_arm w core x c ys u os (KEnd ty) = refl
end_arm w core x c ys u os (KSide b) = refl
end_arm w core x c ys u os (KLast l y s) = refl
end_arm w core x c ys u os (KHere l y s r o k) = refl
end_arm w core x c ys u os (KRegion l y s r o k) = refl
end_arm w core x c ys u os (KScalar l y ty r o k) = refl
end_arm w core x c ys u os (KCall gs o k) = refl
end_arm w core x c ys u os (KCallScalar y ty gs r o k) = refl
end_arm w core x c ys u os (KPart l i t tys ss vs ps o k) = refl
end_arm w core x c ys u os (KSeveral l xs tys r o k) = refl

closes_over : (laid : LaidOut) (s : Store) (c : Ctx) (x : ℕ) (os : List Over) (o : Option Variable) (b : Bool) → ((y : Variable) → o ≡ Some y → Closes laid s c (record { tree = x; field = y.0 })) → AllClose laid s c os → AllClose laid s c (with_over x o b os)
closes_over laid s c x os None b f h = h
closes_over laid s c x os (Some y) true f h = (f y refl, h)
closes_over laid s c x os (Some y) false f h = h

some_last : (y : Variable) (ts : List Ty) (ys : List Variable) → is_leaf (last_packed (Some y) ts ys) ≡ false
some_last y [] ys = refl
some_last y (t ∷ ts) [] = refl
some_last y (Whole ∷ ts) (z ∷ ys) = some_last y ts ys
some_last y (Truth ∷ ts) (z ∷ ys) = some_last y ts ys
some_last y (Tree t ∷ ts) (z ∷ ys) = some_last z ts ys

no_last : (sc : Scope) (ts : List Ty) (ys : List Variable) → AreNew sc ts ys → is_leaf (last_packed None ts ys) ≡ true → packed_count ts ≡ 0
no_last sc [] ys n h = refl
no_last sc (t ∷ ts) [] n h = absurd n
no_last sc (Whole ∷ ts) (y ∷ ys) n h = no_last (put sc y.0 Held) ts ys n.1 h
no_last sc (Truth ∷ ts) (y ∷ ys) n h = no_last (put sc y.0 Held) ts ys n.1 h
no_last sc (Tree t ∷ ts) (y ∷ ys) n h = absurd (true≢false (sym h ∙ some_last y ts ys))

told_arm : (a lf : Bool) (F : Slots) (sc : Scope) (q x : ℕ) → is_settled (sc x) ≡ true → (a ≡ true → IsTold F sc q) → (lf ≡ true → 0 < end_at F x) → (a || (lf && q == x)) ≡ true → IsTold F sc q
told_arm true lf F sc q x st f g h = f refl
told_arm false false F sc q x st f g h = absurd (true≢false (sym h))
told_arm false true F sc q x st f g h = by_test q x (λ b. b ≡ true → IsTold F sc q) (λ e i. subst (λ (y : ℕ). IsTold F sc y) (sym e) (record { settled = st; some = g refl })) (λ e i. absurd (true≢false (sym i))) h

-- what is told, and which ends are to be told
line_line : {core : CoreTree} {code : CodeTree} {s : Store} {sl : Slots} {fs : List Frame} {rs : List OpenRegion} {c : Ctx} {k : Kont} {m : ℕ → Bool} (ln : FitsLine) → ((q : ℕ) → ln.told q ≡ true → IsTold sl c.scope q) → AllClose code.laid s c ln.overs → OnLine core code s sl fs rs c k m → OnLine core code s sl fs rs (with_line c ln) k m
line_line {c = c} {k = k} ln told closes l = record {
  kind = l.kind;
  matches = Matches-line ln told closes l.matches;
  stack = l.stack;
  under = l.under;
  given = given_keeps c (with_line c ln) 0 (given_of k) (keeps_line c ln) (λ y. goes-refl (c.scope y)) l.given;
  calm = l.calm;
}

module _ (core : CoreTree) (code : CodeTree) (owed : Owed) (own : Owned) (sh : Share) (s : Store) (m : State) (c : Ctx) (k : Kont) (cs : ℕ → Bool) where
  -- a leaf tells where it ends
  run_leaf : (F : Slots) (x t size many l z : ℕ) (must lf : Bool) → LeafAt code must x size many l z → tree_type (c.scope x) ≡ Some t → slot F x + size < 2 ^ 64
      → (many ≡ 0 → Dec code.laid s (slot F x) t (value_in c.env x) (slot F x + size)) → 0 < size → (lf ≡ true → (must ≡ true) × (many ≡ 0)) → OnLine core code s F m.frames m.regions c k cs
      → ((F' : Slots) → OnLine core code s F' m.frames m.regions c k cs → (lf ≡ true → 0 < end_at F' x) → Safe core code owed own sh s (at_rest m z F')) → Safe core code owed own sh s (at_rest m l F)
  run_leaf F x t size many l _ must lf (no_leaf never) sort small dec p g ln go = go F ln (λ h. absurd (never (g h).0 (g h).1))
  run_leaf F x t size many l _ must lf (leaf mst h e) sort small dec p g ln go =
      let z = (slot F x + size) % 2 ^ 64 in
      let q : (slot F x + size) % 2 ^ 64 ≡ slot F x + size = omega (arith, small) in
      let st = tree_settled (c.scope x) t sort in
      let lt : x < length F.ends = let w = ln.matches.vars.wide x (settled_slot (c.scope x) st) in let ev = ln.matches.vars.even in omega (arith, w, ev) in
      let tl : Tells code.laid s (c.scope x) (slot F x) (value_in c.env x) z = λ u2 so r. subst (λ (y : ℕ). Dec code.laid s (slot F x) y (value_in c.env x) z) (same_Some _ _ (sym sort ∙ so)) (subst (λ (y : ℕ). Dec code.laid s (slot F x) t (value_in c.env x) y) (sym q) (dec h)) in
      silently {m = at_rest m l F} refl e refl
      (go (told F x z) (line_moved (moved_told code.laid s F c x z lt (told_known code.laid s (c.scope x) (c.scope x) (slot F x) (end_at F x) z (value_in c.env x) (value_in c.env x) (c.pl x) (goes-refl (c.scope x)) (λ r. refl) tl))
      (all_moved_told code.laid s F c.scope c.env k x z lt (settled_not_held (c.scope x) st) tl ln.under) ln) (λ r. told_now F x z lt (omega (arith, p, q))))

module _ (core : CoreTree) (code : CodeTree) (ok : AreBodies core code) (owed : Owed) (own : Owned) (sh : Share) where
  case_of : {s : Store} {m : State} {c : Ctx} {k : Kont} (until : ℕ) (x : Variable) (bs : Branches) (arms : List Arm) (stored : List StoredField) → Agrees stored c.scope
      → IsAt code m.ip (i.Switch x.0 arms) → LowArms core code c.line.within stored x.0 (m.ip + 1) arms bs (end_of c.line.overs k) until
      → AtTerm core code owed own sh s m (CaseTerm (atom.Variable x) bs) c k → Moves core code owed own sh s m
  case_of {s} {m} {c} {k} until x bs arms stored ag e low at =
      let lk = looks core code owed own sh s m x.0 arms (slot m.words x.0) t stands.end (value_in c.env x.0) (let lt = at.line.matches.vars.wide x.0 (tree_slot (c.scope x.0) t sort) in let ev = at.line.matches.vars.even in omega (arith, lt, ev)) (ap arms_of e) stands.dec (record { at_head = at_head }) in
      get_one core code owed own sh (step_is code m (i.Switch x.0 arms) at.ready e) lk.known lk.goes
    where
      t : ℕ
      t = at.fits.0

      whole : Term
      whole = CaseTerm (atom.Variable x) bs

      same_x : at.fits.1.variable.0 ≡ x.0
      same_x = ap slot_of (sym at.fits.1.atom)

      sort : tree_type (c.scope x.0) ≡ Some at.fits.0
      sort = subst (λ (q : ℕ). tree_type (c.scope q) ≡ Some at.fits.0) same_x at.fits.1.sort

      fits : BranchesFit core (needs_of k) bs x.0 (put c.scope x.0 (AtHead at.fits.0)) c.dest c.line
      fits = subst (λ (q : ℕ). BranchesFit core (needs_of k) bs q (put c.scope q (AtHead at.fits.0)) c.dest c.line) same_x at.fits.3

      stands : StandsAt code.laid s at.fits.0 (slot m.words x.0) (value_in c.env x.0)
      stands = tree_of code.laid s m.words c x.0 at.fits.0 at.line.matches.vars sort

      head_of : (u : ℕ) → c.scope x.0 ≡ AtHead u → IsAtHead code.laid s u (slot m.words x.0) (c.hd x.0) (value_in c.env x.0)
      head_of u h = subst (λ (so : Sort). Has code.laid s c so (slot m.words x.0) (value_in c.env x.0) (c.pl x.0) (c.hd x.0)) h (at.line.matches.vars.has x.0)

      at_head : (es : List ℕ) (a kk z : ℕ) (vs : Data) (places : List ℕ) → Walked code.laid s at.fits.0 (slot m.words x.0) a (value_in c.env x.0) m.words.ends es x.0 → value_in c.env x.0 ≡ con kk vs → kk < 254 → con_at code.laid.table at.fits.0 kk ≡ Some kk → Holds s a (head_bytes code.laid kk places vs)
          → Decs code.laid s (a + head_size code.laid kk) (fields_at code.laid.table kk) vs places z → ((tag : ℕ) → s (slot m.words x.0) ≡ byte tag → tag < 254 → a ≡ slot m.words x.0)
          → Safe core code owed own sh s (at_rest m (label_of arms kk) (record { vars = slice_set m.words.vars x.0 a; ends = es }))
      at_head es a kk z vs places wk ev sm kc hb ds start =
          subst (λ (q : List ℕ). Safe core code owed own sh s (at_rest m (label_of arms kk) (record { vars = slice_set m.words.vars x.0 a; ends = q }))) (sym wk.told) (
          let here : StandsAt code.laid s t a (value_in c.env x.0) = subst (λ (v : Datum). StandsAt code.laid s t a v) (sym ev) (record { end = z; dec = d.head sm kc hb ds }) in
          let same_slot : (u : ℕ) → c.scope x.0 ≡ AtHead u → a ≡ slot m.words x.0 = λ u h. let hx = head_of u h in start hx.tag (subst (λ (q : ℕ). s q ≡ byte hx.tag) (sym hx.same) hx.known) hx.is_head in
          let stays : StaysHead c x.0 (AtHead t) a = record { there = refl; slot = tree_slot (c.scope x.0) t sort; same = λ o h. (ap AtHead (sym (same_Some _ _ (sym (ap tree_type h) ∙ sort))), same_slot o h ∙ (head_of o h).same) } in
          let c1 = with_sort c x.0 (AtHead t) a in
          let sl1 = set_both m.words x.0 a wk.last in
          let l1 : Line core code own s sl1 m.frames m.regions m.tails c1 k (cased whole) = line_sort x.0 a wk.last (AtHead t) a (record { on = at.line; memory = at.memory }) (record {
            stays = stays;
            unheld = tree_not_held (c.scope x.0) t sort;
            has = record { same = refl; tag = kk; known = Holds-first hb; is_head = sm; stands = here };
            ends = wk.keeps (c.pl x.0) (tree_end code.laid s (c.scope x.0) t (slot m.words x.0) (end_at m.words x.0) (value_in c.env x.0) (c.pl x.0) sort (at.line.matches.vars.ends x.0));
            settled = refl;
            kept = λ g p. wk.stays p;
            goes = goes_head (c.scope x.0) t sort;
            follow = λ o un ca. record {
              kept = λ g p. wk.stays p;
              end_of = moved_end code.laid s (o.scope x.0) (c.scope x.0) t (slot m.words x.0) a (end_at m.words x.0) wk.last (value_in c.env x.0) (value_in o.env x.0) (o.pl x.0) (un.sorts x.0) sort (λ h. sym (un.same x.0 h)) (wk.keeps (o.pl x.0));
              one = moved_tree code.laid s (o.scope x.0) (c.scope x.0) t (slot m.words x.0) a (value_in o.env x.0) (un.sorts x.0) sort (λ u h. ca.calm x.0 u (or_left (eqb x.0 x.0) (branches_cased bs x.0) (eq-eqb x.0 x.0 refl)) h) same_slot
                  (λ h. subst (λ (v : Datum). StandsAt code.laid s t a v) (un.same x.0 h) here);
            };
          }) in
          let kc' : con_at core.table t kk ≡ Some kk = subst (λ (q : LaidOut). con_at q.table t kk ≡ Some kk) ok.laid kc in
          let found = find core code c.line.within (needs_of k) c.line stored x.0 (end_of c.line.overs k) c1.scope c.dest m.depth m.level vs c.env (cased whole) (branches_nest bs) kk (m.ip + 1) until bs arms low fits (at.fits.2 kk kc') (λ y h. or_right (is_of (atom.Variable x) y) (branches_cased bs y) h) (omega arith) in
          let ts = fields_at code.laid.table kk in
          let ys = found.variables in
          let nw : AreNew c1.scope ts ys = subst (λ (q : LaidOut). AreNew c1.scope (fields_at q.table kk) ys) (sym ok.laid) found.new in
          let op : AreAt code (label_of arms kk) (arm_opening code.laid x.0 kk ys) found.start = subst (λ (q : LaidOut). AreAt code (label_of arms kk) (arm_opening q x.0 kk ys) found.start) (sym ok.laid) found.opening in
          let p0 = 1 + (layout_at code.laid.table code.laid.with_offsets kk).offsets in
          let w = a + head_size code.laid kk in
          let slS = scalar_slots ts ys vs sl1 in
          let F = first_slots w ts ys slS in
          let not_x : c1.scope x.0 ≡ Absent → ⊥ = λ h. there_bound (c1.scope x.0) (ap is_there (put-same c.scope x.0 (AtHead t))) h in
          let at_x : slot sl1 x.0 ≡ a = set-same m.words x.0 a (at.line.matches.vars.wide x.0 (tree_slot (c.scope x.0) t sort)) in
          let only : OnlyNew sl1 F c1.scope = record {
            same = λ q h. first_kept c1.scope w ts ys slS q nw h ∙ scalar_kept c1.scope ts ys vs sl1 q nw h;
            long = first_long w ts ys slS ∙ scalar_long ts ys vs sl1;
            ends = λ q h. first_ends c1.scope w ts ys slS q nw h ∙ scalar_ends c1.scope ts ys vs sl1 q nw h;
            same_ends = first_even w ts ys slS ∙ scalar_even ts ys vs sl1;
          } in
          let l2 : Line core code own s F m.frames m.regions m.tails c1 k (cased whole) = record { on = line_moved (moved_new code.laid s sl1 F c1 only) (all_moved_new code.laid s sl1 F c1.scope c1.env k only l1.on.under) l1.on; memory = l1.memory } in
          let wide : (q : ℕ) → c1.scope q ≡ Absent → q < length sl1.vars = λ q h. l1.on.matches.vars.wide q (ap has_slot h) in
          let behind_tag : Holds s (a + 1) (offset_bytes (is_among code.laid.with_offsets kk) places ++ scalars vs) = Holds-rest hb in
          let al = extend core code own s F m.frames m.regions m.tails k (cased whole) x.0 kk t w ts ys vs places w z 1 None c1 c1.scope nw (λ q h. h) ds (slots_fit c1.scope w ts ys vs sl1 nw wide l1.on.matches.vars.even) refl
          (λ h. subst (λ (q : ℕ). Holds s (q + 1) (offset_bytes true places)) (sym (put-same c.hd x.0 a)) (subst (λ (b : Bool). Holds s (a + 1) (offset_bytes b places)) h (Holds-front (a + 1) (offset_bytes (is_among code.laid.with_offsets kk) places) (scalars vs) behind_tag)))
          (put-same c.scope x.0 (AtHead t)) l2 in
          let final_scope : al.ctx.scope ≡ arm_scope x.0 kk 1 None (fields_at core.table kk) ys c1.scope = al.scope ∙ ap (λ (q : LaidOut). arm_scope x.0 kk 1 None (fields_at q.table kk) ys c1.scope) ok.laid in
          let cid : ConId = record { 0 = kk } in
          let L : FitsLine = arm_line core x.0 cid ys found.term c.line in
          let fc = with_line al.ctx L in
          let is_code : IsCode core code c.line.within al.ctx.scope found.after found.term (end_of L.overs k) = record {
            fields = _;
            until = found.until;
            low = subst (λ (q : Rattle.gib_core.specs.Low.End). Rattle.gib_core.specs.Low.Low core code c.line.within (Rattle.gib_core.specs.Low.with_fields x.0 (fields_at core.table kk) ys stored) found.after found.term q found.until) (end_arm c.line.within core x.0 cid ys found.term c.line.overs k) found.low;
            agree = subst (λ (sc : Scope). Agrees (Rattle.gib_core.specs.Low.with_fields x.0 (fields_at core.table kk) ys stored) sc) (sym final_scope) (agrees_arm x.0 kk (fields_at core.table kk) ys stored c1.scope (agrees_put stored c.scope x.0 (AtHead t) refl ag));
          } in
          let fit : Fits core (needs_of k) found.term al.ctx.scope al.ctx.dest L = subst (λ (sc : Scope). Fits core (needs_of k) found.term sc al.ctx.dest L) (sym final_scope) (subst (λ (g : Dest). Fits core (needs_of k) found.term (arm_scope x.0 kk 1 None (fields_at core.table kk) ys c1.scope) g L) (sym al.goal) found.fits) in
          let whole_tree : Dec code.laid s (al.ctx.hd x.0) t (value_in al.ctx.env x.0) z = subst (λ (q : ℕ). Dec code.laid s q t (value_in al.ctx.env x.0) z) (sym (al.place ∙ put-same c.hd x.0 a)) (subst (λ (q : Datum). Dec code.laid s a t q z) (sym (al.worth ∙ ev)) (d.head sm kc hb ds)) in
          let closes : AllClose code.laid s al.ctx L.overs =
          closes_over code.laid s al.ctx x.0 c.line.overs (last_packed None (fields_at core.table kk) ys) (is_over c.line.within core cid ys found.term)
          (λ y e. let b : BeforeIs code.laid s al.ctx z w (Some y.0) = subst (λ (o : Option Variable). BeforeIs code.laid s al.ctx z w (number_of_var o)) e (subst (λ (q : LaidOut). BeforeIs code.laid s al.ctx z w (number_of_var (last_packed None (fields_at q.table kk) ys))) ok.laid al.last) in
          record { tx = t; head = al.head; there = b.0; ty = b.1.0; end = z; tree = whole_tree; field = b.1.1 })
          (subst (λ (l : FitsLine). AllClose code.laid s al.ctx l.overs) al.ends al.line.on.matches.vars.closes) in
          let owes : resume core m.depth k (means core m.depth found.term al.ctx.env) ≡ owed.all =
          ap (λ (q : Environment). resume core m.depth k (means core m.depth found.term q)) al.values
          ∙ ap (resume core m.depth k) (sym found.meaning)
          ∙ ap (λ (q : Datum). resume core m.depth k (mean_branches core.table (core_calls core m.depth) bs q c.env)) (sym ev) ∙ at.owes in
          let counted : Counted m.regions (left_costs core m.depth m.level (Plain found.term) al.ctx.env k) sh =
          subst (λ (q : Environment). Counted m.regions (plus (costs core m.depth m.level found.term q) (later_costs core m.depth m.level k (means core m.depth found.term q))) sh) (sym al.values)
          (subst (λ (q : Cost). Counted m.regions (plus q (later_costs core m.depth m.level k (means core m.depth found.term (bind found.variables (list_of vs) c.env)))) sh) found.cost
          (subst (λ (q : Outcome). Counted m.regions (plus (cost_branches core.table (core_calls core m.depth) (call_costs core m.depth) m.level bs (con kk vs) c.env) (later_costs core m.depth m.level k q)) sh) found.meaning
          (subst (λ (q : Datum). Counted m.regions (plus (cost_branches core.table (core_calls core m.depth) (call_costs core m.depth) m.level bs q c.env) (later_costs core m.depth m.level k (mean_branches core.table (core_calls core m.depth) bs q c.env))) sh) ev at.counted))) in
          let x_slot : slot F x.0 ≡ a = first_kept c1.scope w ts ys slS x.0 nw not_x ∙ scalar_kept c1.scope ts ys vs sl1 x.0 nw not_x ∙ at_x in
          let size = head_size code.laid kk in
          let done : Safe core code owed own sh s (at_rest m found.start F) =
          run_leaf core code owed own sh s m al.ctx k (cased whole) F x.0 t size (packed_count ts) found.start found.after c.line.within.ends (c.line.within.ends && is_leaf (last_packed None (fields_at core.table kk) ys))
          (subst (λ (q : LaidOut). LeafAt code c.line.within.ends x.0 (head_size q kk) (packed_count (fields_at q.table kk)) found.start found.after) (sym ok.laid) found.leaf)
          (ap tree_type al.head) (subst (λ (q : ℕ). q + size < 2 ^ 64) (sym x_slot) (let i = known_below at.memory.small (Holds-first hb) in let j = size_small code.laid ok.table kk in omega (arith, i, j)))
          (λ h. subst (λ (q : ℕ). Dec code.laid s q t (value_in al.ctx.env x.0) (q + size)) (sym x_slot) (subst (λ (q : Datum). Dec code.laid s a t q (a + size)) (sym al.worth) (subst (λ (q : ℕ). Dec code.laid s a t (value_in c.env x.0) q) (no_tree_end h ds) (subst (λ (q : Datum). Dec code.laid s a t q z) (sym ev) (d.head sm kc hb ds)))))
          (size_some code.laid kk)
          (λ h. ((and_parts c.line.within.ends _ h).0, subst (λ (q : LaidOut). packed_count (fields_at q.table kk) ≡ 0) (sym ok.laid) (no_last c1.scope (fields_at core.table kk) ys found.new (and_parts c.line.within.ends _ h).1)))
          al.line.on
          (λ F' l lf. rests (at_term {u = Plain found.term} {c = fc} {k = k} record {
            ready = refl;
            group = subst (λ (d : Dest). Group code.laid s d [] m.regions) (sym al.goal) at.group;
            low = is_code;
            fits = fit;
            line = line_less found.calm (line_line L
                (λ q h. told_arm (c.line.told q) (c.line.within.ends && is_leaf (last_packed None (fields_at core.table kk) ys)) F' al.ctx.scope q x.0 (ap is_settled al.head) (λ g. l.matches.vars.told q (subst (λ (m : FitsLine). m.told q ≡ true) (sym al.ends) g)) lf h) closes l);
            memory = al.line.memory;
            ties = at.ties;
            owes = owes;
            counted = counted;
            room = record { free = at.room.free; narrow = let h = at.room.narrow in let g = found.nests in omega (arith, h, g); nests = let h = at.room.nests in let g = found.nests in omega (arith, h, g); all_room = at.room.all_room };
          })) in
          let split = parts (label_of arms kk) (scalar_reads x.0 p0 ts ys) (first_reach x.0 (head_size code.laid kk) ts ys) found.start op in
          let q0 : a + 1 + length (offset_bytes (is_among code.laid.with_offsets kk) places) ≡ a + p0 = let g = offsets-length {laid = code.laid} {s = s} kk ds in omega (arith, g) in
          let sbytes : Holds s (a + p0) (scalars vs) = subst (λ (q : ℕ). Holds s q (scalars vs)) q0 (Holds-behind (a + 1) (offset_bytes (is_among code.laid.with_offsets kk) places) (scalars vs) behind_tag) in
          run_scalars core code owed own sh s m x.0 a split.middle c1.scope ts ys vs places w z p0 (label_of arms kk) sl1 nw not_x ds sbytes at_x split.left
          (run_first core code owed own sh s m x.0 a found.start (head_size code.laid kk) ts ys split.middle slS (let i = known_below at.memory.small (Holds-first hb) in let j = size_small code.laid ok.table kk in omega (arith, i, j)) (scalar_kept c1.scope ts ys vs sl1 x.0 nw not_x ∙ at_x) split.right done))

  pub does_case : {s : Store} {m : State} {c : Ctx} {k : Kont} (until : ℕ) (x : Atom) (bs : Branches) (arms : List Arm) (stored : List StoredField) → Agrees stored c.scope
      → IsAt code m.ip (i.Switch (slot_of x) arms) → LowArms core code c.line.within stored (slot_of x) (m.ip + 1) arms bs (end_of c.line.overs k) until
      → AtTerm core code owed own sh s m (CaseTerm x bs) c k → Moves core code owed own sh s m
  does_case {s} {m} {c} {k} until x bs arms stored ag e low at =
      subst (λ (y : Atom). IsAt code m.ip (i.Switch (slot_of y) arms) → LowArms core code c.line.within stored (slot_of y) (m.ip + 1) arms bs (end_of c.line.overs k) until → AtTerm core code owed own sh s m (CaseTerm y bs) c k → Moves core code owed own sh s m)
      (sym at.fits.1.atom) (case_of until at.fits.1.variable bs arms stored ag) e low at
