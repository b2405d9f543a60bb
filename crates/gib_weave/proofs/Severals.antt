-- Several variables: a region is begun for each packed one, and the term of the parts is next.
use Rattle.std.proofs.Common.{◌≡◌, ℕ, zero, suc, ◌+◌, ◌≤◌, Bool, true, false, List, [], ◌∷◌, Option, length, drop, cond, refl, sym, ap, subst, ◌∙◌, arith}
use Rattle.std.proofs.lemmas.Bool.{true≢false, or_left, or_right}
use Rattle.gib_types.specs.declared.table.Ty.{Ty}
use Rattle.gib_types.specs.declared.table.Ty.TheVariants.{Whole, Truth, Tree}
use Rattle.gib_types.specs.Layout.{LaidOut}
use Rattle.gib_syntax.specs.Meaning.{parts}
use Rattle.gib_mem.specs.Memory.{Store, Grows}
use Rattle.gib_core.specs.declared.atom.Variable.{Variable}
use Rattle.gib_core.specs.Tree.{Term, Several, CoreTree}
use Rattle.gib_core.specs.Meaning.{bind}
use Rattle.gib_core.specs.Cost.{Cost, plus}
use Rattle.gib_core.specs.Ending.{Within}
use Rattle.gib_code.specs.Instruction.{Instruction}
use Rattle.gib_code.specs.Program.{CodeTree, AreAt, none, one_more}
use Rattle.gib_core.specs.Low.{End, ToParts, begin_all, done_all, packed_slots, scalar_slots, Field as StoredField}
use Rattle.gib_core.specs.Fits.{Scope, Absent, Held, Dest, InParts, AreNew, cased, hold_all, is_there, new_line, packed_due, put}
use Rattle.gib_machine.specs.State.{Open as OpenRegion, Slots, State, cursor, nesting, set, times}
use Rattle.gib_weave.specs.EndWords.{WithEnd, both}
use Rattle.gib_weave.specs.Environment.{AreGiven, Ctx, Given, HasAll}
use Rattle.gib_weave.specs.Groups.{nth, Group, Holds, Starts}
use Rattle.gib_weave.specs.Continuing.{Agrees, AllUnder, AreHeld, IsCode, Kont, KSeveral, Part, Plain, Rest, RestCode, Under, end_of, given_of, made, rest_cased}
use Rattle.gib_weave.specs.Owing.{Owed, rest_means, side_gives}
use Rattle.gib_weave.specs.Paying.{Share, Counted, left_costs}
use Rattle.gib_weave.specs.Places.{AllRoom, HasRoom, Owned, freed, heads}
use Rattle.gib_weave.specs.Stacks.{SeveralWaits, Stack}
use Rattle.gib_weave.specs.Sound.{AtRest, AtTerm, InMemory, Moves, OnLine, Safe, at_term, moves as goes, rests}
use Rattle.gib_weave.proofs.Basics.{both-other, both-same, by_test, put-same}
use Rattle.gib_weave.proofs.Counts.{goes_on_counted}
use Rattle.gib_weave.proofs.Groups.{Group-grows}
use Rattle.gib_weave.proofs.Move.{absent_slot, held, not_there, put_held}
use Rattle.gib_weave.proofs.Sorts.{agrees_put, code_put, given_keeps, goes_new, under_goes}
use Rattle.gib_weave.proofs.Lines.{HasAll-held, HasAll-own, all_calm_less, all_under_hold, calm_loosened, holding, keeps_holding, line_grows, line_set, loosened, several_waits, resume-with, under_scalar}
use Rattle.gib_weave.proofs.Opens.{begins_region}
use Rattle.gib_weave.proofs.Filling.{drop_next, slots_many, types_many}
use Rattle.gib_weave.proofs.Gives.{regions_at}
use Rattle.gib_weave.proofs.Ends.{resting}

nth_next : (n : ℕ) (rs : List OpenRegion) (r : OpenRegion) (qs : List OpenRegion) → drop n rs ≡ r ∷ qs → nth n rs ≡ r
nth_next zero [] r qs e = absurd (let h = ap (λ (z : List OpenRegion). length z) e in omega (arith, h))
nth_next zero (p ∷ rs) r qs e = ap first e
  where
    first : List OpenRegion → OpenRegion
    first [] = p
    first (q ∷ qs) = q
nth_next (suc n) [] r qs e = absurd (let h = ap (λ (z : List OpenRegion). length z) e in omega (arith, h))
nth_next (suc n) (p ∷ rs) r qs e = nth_next n rs r qs e

put_absent : (sc : Scope) (x y : ℕ) → put sc x Held y ≡ Absent → sc y ≡ Absent
put_absent sc x y = by_test y x (λ b. cond b Held (sc y) ≡ Absent → sc y ≡ Absent) (λ e h. absurd (true≢false (ap is_there h))) (λ e h. h)

-- Each slot is of a variable that is not bound, and of no other one's.
abbrev AreFree : Scope → List ℕ → Type 0
AreFree sc [] = Unit {0}
AreFree sc (d ∷ ds) = (sc d ≡ Absent) × AreFree (put sc d Held) ds

free_less : (sc sc' : Scope) (ds : List ℕ) → ((y : ℕ) → sc y ≡ Absent → sc' y ≡ Absent) → AreFree sc ds → AreFree sc' ds
free_less sc sc' [] f n = tt
free_less sc sc' (d ∷ ds) f n = (f d n.0, free_less (put sc d Held) (put sc' d Held) ds (λ y. by_test y d (λ b. cond b Held (sc y) ≡ Absent → cond b Held (sc' y) ≡ Absent) (λ e h. h) (λ e h. f y h)) n.1)

slots_free : (sc : Scope) (tys : List Ty) (xs : List Variable) → AreNew sc tys xs → AreFree sc (packed_slots tys xs)
slots_free sc [] xs n = tt
slots_free sc (ty ∷ tys) [] n = absurd n
slots_free sc (Whole ∷ tys) (x ∷ xs) n = free_less (put sc x.0 Held) sc (packed_slots tys xs) (put_absent sc x.0) (slots_free (put sc x.0 Held) tys xs n.1)
slots_free sc (Truth ∷ tys) (x ∷ xs) n = free_less (put sc x.0 Held) sc (packed_slots tys xs) (put_absent sc x.0) (slots_free (put sc x.0 Held) tys xs n.1)
slots_free sc (Tree t ∷ tys) (x ∷ xs) n = (n.0, slots_free (put sc x.0 Held) tys xs n.1)

-- where none is made, only the number of parts is relied on
holds_none : (laid : LaidOut) (s : Store) (rs : List OpenRegion) (ts us : List ℕ) → length ts ≡ length us → Holds laid s ts [] rs → Holds laid s us [] rs
holds_none laid s rs ts [] e h = tt
holds_none laid s rs [] (u ∷ us) e h = absurd (omega (arith, e))
holds_none laid s rs (t ∷ ts) (u ∷ us) e h =
    let n : length ts ≡ length us = omega (arith, e) in
    (subst (λ (z : ℕ). (nth z rs).cur ≡ (nth z rs).start) n h.0, holds_none laid s rs ts us n h.1)

module _ (core : CoreTree) (code : CodeTree) (owed : Owed) (m : State) (c : Ctx) (k : Kont) (cases : ℕ → Bool) (hs : ℕ → ℕ) (left : Cost) where
  -- The regions of these slots are begun, upon others.
  record Begun (sc : Scope) (ds : List ℕ) (s : Store) (sl : Slots) (rs : List OpenRegion) (room : ℕ) (own' : Owned) (sh' : Share) (room' : ℕ) (s' : Store) (sl' : Slots) (rs' : List OpenRegion) (ts' : List ℕ) : Type 0 where
    pub grows : Grows s s'
    pub line : OnLine core code s' sl' m.frames m.regions c k cases
    pub behind : drop (length ds) rs' ≡ rs
    pub long : length rs' ≡ length ds + length rs
    pub less : room ≡ length ds + room'
    pub starts : Starts sl' ds rs'
    pub fresh : Holds code.laid s' ds [] rs'
    pub kept : (y : ℕ) → sc y ≡ Held → both sl' y ≡ both sl y
    pub memory : InMemory own' s' hs rs' ts'
    pub counted : Counted rs' left sh'

  -- a task goes on that begins the regions of these slots, as a claim or as the next steps
  abbrev Begins : List ℕ → (Owned → Share → Store → State → Type 0) → Type 0
  Begins ds To =
      (sc : Scope) (own : Owned) (sh : Share) (room : ℕ) (s : Store) (ip z : ℕ) (sl : Slots) (rs : List OpenRegion) (ts : List ℕ) → AreAt code ip (begin_all ds) z → AreFree sc ds → ((y : ℕ) → sc y ≡ Absent → c.scope y ≡ Absent) → length ds ≤ room
      → OnLine core code s sl m.frames m.regions c k cases → InMemory own s hs rs ts → Counted rs (plus (record { regions = length ds; items = 0 }) left) sh
      → ((own' : Owned) (sh' : Share) (room' : ℕ) (s' : Store) (sl' : Slots) (rs' : List OpenRegion) (ts' : List ℕ) → Begun sc ds s sl rs room own' sh' room' s' sl' rs' ts' → Safe core code owed own' sh' s' (regions_at m room' z sl' rs' ts'))
      → To own sh s (regions_at m room ip sl rs ts)

  -- once the region at a is begun, the others are
  begun_more : {sc : Scope} {d : ℕ} {ds : List ℕ} {s s1 s' : Store} {sl sl' : Slots} {rs rs' : List OpenRegion} {room room' : ℕ} {own' : Owned} {sh' : Share} {ts' : List ℕ} (a : ℕ) → c.scope d ≡ Absent → sc d ≡ Absent → OnLine core code s sl m.frames m.regions c k cases → Grows s s1
      → Begun (put sc d Held) ds s1 (set sl d a) (record { start = a; cur = a } ∷ rs) room own' sh' room' s' sl' rs' ts' → Begun sc (d ∷ ds) s sl rs (suc room) own' sh' room' s' sl' rs' ts'
  begun_more {sc = sc} {d = d} {ds = ds} {sl = sl} {rs = rs} {rs' = rs'} a absent new line grows g =
      let r : OpenRegion = record { start = a; cur = a } in
      let it : nth (length ds) rs' ≡ r = nth_next (length ds) rs' r rs g.behind in
      let long = g.long in
      let less = g.less in record {
        grows = record { kept = λ q b h. g.grows.kept q b (grows.kept q b h) };
        line = g.line;
        behind = drop_next (length ds) rs' r rs g.behind;
        long = omega (arith, long);
        less = omega (arith, less);
        starts = (g.kept d (put-same sc d Held) ∙ both-same sl d a (line.matches.vars.wide d (absent_slot c.scope d absent)) line.matches.vars.even ∙ ap (λ (q : OpenRegion). at_start q.start) (sym it), g.starts);
        fresh = (ap (λ (q : OpenRegion). q.cur) it ∙ ap (λ (q : OpenRegion). q.start) (sym it), g.fresh);
        kept = λ y h. g.kept y (put_held sc d y h) ∙ both-other sl d y a 0 (held sc d y h (not_there sc d new));
        memory = g.memory;
        counted = g.counted;
      }
    where
      at_start : ℕ → WithEnd
      at_start w = record { word = w; last = 0 }

  begins_first : (d : ℕ) (ds : List ℕ) → Begins ds (Safe core code owed) → Begins (d ∷ ds) (Moves core code owed)
  begins_first d ds others sc own sh zero s ip z sl rs ts e free absent le line memory counted go = absurd (omega (arith, le))
  begins_first d ds others sc own sh (suc room) s ip z sl rs ts (one_more e es) free absent le line memory counted go =
      begins_region core code owed own sh room (regions_at m room ip sl rs ts) d hs (plus (record { regions = length (d ∷ ds); items = 0 }) left) (plus (record { regions = length ds; items = 0 }) left) refl e (record { regions = omega arith; items = omega arith }) memory counted
      (λ own1 sh1 s1 a ts1 grows memory1 counted1.
      others (put sc d Held) own1 sh1 room s1 (ip + 1) z (set sl d a) (record { start = a; cur = a } ∷ rs) ts1 es free.1 (λ y h. absent y (put_absent sc d y h)) (omega (arith, le)) (line_set d a (absent d free.0) (line_grows grows line)) memory1 counted1
      (λ own' sh' room' s' sl' rs' ts' g. go own' sh' room' s' sl' rs' ts' (begun_more a (absent d free.0) free.0 line grows g)))

  begins_all : (ds : List ℕ) → Begins ds (Safe core code owed)
  begins_all [] sc own sh room s ip _ sl rs ts none free absent le line memory counted go = go own sh room s sl rs ts record {
    grows = record { kept = λ q b h. h };
    line = line;
    behind = refl;
    long = omega arith;
    less = omega arith;
    starts = tt;
    fresh = tt;
    kept = λ y h. refl;
    memory = memory;
    counted = goes_on_counted (record { regions = omega arith; items = omega arith }) counted;
  }
  begins_all (d ∷ ds) sc own sh room s ip z sl rs ts e free absent le line memory counted go = goes (begins_first d ds (begins_all ds) sc own sh room s ip z sl rs ts e free absent le line memory counted go)

-- The line of the parts, where all the variables are held.
abbrev pub held_line : Within → Ctx → List Variable → Dest → Ctx
held_line wi c xs d = record { scope = hold_all xs c.scope; env = c.env; pl = c.pl; hd = c.hd; dest = d; front = 0; head = 0; line = new_line wi }

-- what is said of a line whose variables are held, one after another
record Holding (core : CoreTree) (code : CodeTree) (s : Store) (sl : Slots) (k : Kont) (wi : Within) (ip : ℕ) (t : Term) (e : End) (o : Ctx) (gs : List (Option Given)) (c : Ctx) : Type 0 where
  pub vars : HasAll code.laid s sl c
  pub under : AllUnder c.scope c.env k
  pub over : Under o c.scope c.env
  pub given : AreGiven c 0 gs
  pub low : IsCode core code wi c.scope ip t e

all_held : {core : CoreTree} {code : CodeTree} {s : Store} {sl : Slots} {k : Kont} {wi : Within} {ip : ℕ} {t : Term} {e : End} {o : Ctx} {gs : List (Option Given)} (tys : List Ty) (xs : List Variable) (d : Dest) (c : Ctx) → AreNew c.scope tys xs
    → Holding core code s sl k wi ip t e o gs c → Holding core code s sl k wi ip t e o gs (held_line wi c xs d)
all_held {wi = wi} [] [] d c n h = record { vars = HasAll-own wi d 0 h.vars; under = h.under; over = h.over; given = h.given; low = h.low }
all_held [] (x ∷ xs) d c n h = absurd n
all_held (ty ∷ tys) [] d c n h = absurd n
all_held {code = code} {s = s} {sl = sl} {k = k} {wi = wi} {gs = gs} (ty ∷ tys) (x ∷ xs) d c n h = all_held tys xs d (holding wi c x.0 d 0 0) n.1 (record {
  vars = HasAll-held wi code.laid s sl c x.0 d 0 0 n.0 h.vars;
  under = all_under_hold c.scope c.env k x.0 n.0 h.under;
  over = under_goes (goes_new c.scope x.0 Held n.0) (λ y t. refl) h.over;
  given = given_keeps c (holding wi c x.0 d 0 0) 0 gs (keeps_holding wi c x.0 d 0 0 n.0) (goes_new c.scope x.0 Held n.0) h.given;
  low = code_put x.0 Held refl h.low;
})

hold_held : (xs : List Variable) (sc : Scope) (x : ℕ) → sc x ≡ Held → hold_all xs sc x ≡ Held
hold_held [] sc x h = h
hold_held (y ∷ xs) sc x h = hold_held xs (put sc y.0 Held) x (put_held sc y.0 x h)

are_held : (xs : List Variable) (sc : Scope) → AreHeld (hold_all xs sc) xs
are_held [] sc = tt
are_held (x ∷ xs) sc = (hold_held xs (put sc x.0 Held) x.0 (put-same sc x.0 Held), are_held xs (put sc x.0 Held))

pub agrees_hold : (fs : List StoredField) (xs : List Variable) (sc : Scope) → Agrees fs sc → Agrees fs (hold_all xs sc)
agrees_hold fs [] sc h = h
agrees_hold fs (x ∷ xs) sc h = agrees_hold fs xs (put sc x.0 Held) (agrees_put fs sc x.0 Held refl h)

are_none : {code : CodeTree} (ip b : ℕ) (is : List Instruction) → is ≡ [] → AreAt code ip is b → b ≡ ip
are_none ip _ [] e none = refl
are_none ip b (i ∷ is) e h = absurd (let a = ap (λ (q : List Instruction). length q) e in omega (arith, a))

-- what is left to do behind the regions
abbrev left_behind : CoreTree → State → Rest → Ctx → Kont → List Variable → List Ty → Term → (l : ℕ) → Cost
left_behind core m u c k xs tys t l = left_costs core m.depth m.level (Plain t) c.env (KSeveral l xs tys u (loosened (cased t) c) k)

-- the regions of a line's packed variables are begun
abbrev BegunHere : CoreTree → CodeTree → Owed → Store → State → Rest → Ctx → Kont → List Variable → List Ty → Term → Within → (l : ℕ) → (own' : Owned) (sh' : Share) (room' : ℕ) (s' : Store) (sl' : Slots) (rs' : List OpenRegion) (ts' : List ℕ) → Type 0
BegunHere core code owed s m u c k xs tys t wi l own' sh' room' s' sl' rs' ts' =
    Begun core code owed m c k (rest_cased (Part wi (Several xs tys t) u)) (heads code.laid c.head c.dest k) (left_behind core m u c k xs tys t l) c.scope (packed_slots tys xs) s m.words m.regions m.room own' sh' room' s' sl' rs' ts'

module _ (core : CoreTree) (code : CodeTree) (owed : Owed) (own : Owned) (sh : Share) {s : Store} {m : State} {u : Rest} {c : Ctx} {k : Kont} (xs : List Variable) (tys : List Ty) (t : Term) (wi : Within) (b l z : ℕ) where
  -- the regions are begun, and the term of the parts is next
  several_at : AreAt code l (done_all (packed_slots tys xs)) z → IsCode core code wi c.scope b t (ToParts l (scalar_slots tys xs)) → RestCode core code c.line.within c.scope z u (end_of c.line.overs k) → (at : AtRest core code owed own sh s m (Part wi (Several xs tys t) u) c k)
      → {own' : Owned} {sh' : Share} (room' : ℕ) {s' : Store} {sl' : Slots} {rs' : List OpenRegion} {ts' : List ℕ} → BegunHere core code owed s m u c k xs tys t wi l own' sh' room' s' sl' rs' ts'
      → AtTerm core code owed own' sh' s' (regions_at m room' b sl' rs' ts') t (held_line wi c xs (InParts tys)) (KSeveral l xs tys u (loosened (cased t) c) k)
  several_at done low behind at room' {s' = s'} {sl' = sl'} {rs' = rs'} g =
      let new = at.fits.1 in
      let whole = Part wi (Several xs tys t) u in
      let o = loosened (cased t) c in
      let n = length (packed_slots tys xs) in
      let h = all_held {core = core} {code = code} {s = s'} {sl = sl'} {k = k} {wi = wi} {ip = b} {t = t} {e = ToParts l (scalar_slots tys xs)} {o = o} {gs = given_of k} tys xs (InParts tys) c new (record { vars = g.line.matches.vars; under = g.line.under; over = under_scalar (cased t) c; given = g.line.given; low = low }) in
      let many = slots_many c.scope tys xs new in
      let long = g.long in
      let less = g.less in record {
        ready = refl;
        low = h.low;
        fits = at.fits.2;
        line = record {
          kind = refl;
          matches = record { vars = h.vars; dest = tt };
          stack = (
            g.starts,
            z,
            done,
            subst (λ (q : List OpenRegion). SeveralWaits core code s' sl' z xs tys u o (cursor q) k) (sym g.behind)
                (several_waits t g.line (λ y h. or_right (cased t y) (rest_cased u y) h) at.room.free.0 at.room.free.1 (let h = at.room.narrow in omega (arith, h)) at.fits.0.1 new behind at.fits.3),
            subst (λ (q : List OpenRegion). Stack core code s' k sl' m.frames c.front q) (sym g.behind) g.line.stack,
            subst (λ (q : List OpenRegion). Group code.laid s' c.dest (made u) q) (sym g.behind) (Group-grows code.laid c.dest (made u) m.regions g.grows at.group),
          );
          under = (are_held xs c.scope, h.over, h.under);
          given = h.given;
          calm = (calm_loosened (cased t) c, all_calm_less (rest_cased whole) (cased t) k (λ y h. or_left (cased t y) (rest_cased u y) h) g.line.calm);
        };
        group = (omega (arith, long, many), holds_none code.laid s' rs' (packed_slots tys xs) (packed_due tys) many g.fresh);
        memory = g.memory;
        ties = at.ties;
        owes = sym (resume-with core m.depth k (side_gives core m.depth (Several xs tys t) c.env) (λ v. rest_means core m.depth u (bind xs (parts v) c.env))) ∙ at.owes;
        counted = g.counted;
        room = record {
          free = tt;
          narrow = let h = at.room.narrow in omega (arith, h);
          nests = let h = at.room.nests.0 in omega (arith, h, less);
          all_room = (subst (λ (q : ℕ). HasRoom (times m.depth (nesting code)) u q) less at.room.nests.1, subst (λ (q : ℕ). AllRoom (nesting code) m.depth (freed u q) k) less at.room.all_room);
        };
      }

  -- Regions are begun, or, where no part is packed, the term of the parts is next.
  pub several_or : (A : State → Type 0) → AreAt code m.ip (begin_all (packed_slots tys xs)) b → IsCode core code wi c.scope b t (ToParts l (scalar_slots tys xs)) → AreAt code l (done_all (packed_slots tys xs)) z → RestCode core code c.line.within c.scope z u (end_of c.line.overs k)
      → AtRest core code owed own sh s m (Part wi (Several xs tys t) u) c k → (Moves core code owed own sh s m → A m)
      → (AtTerm core code owed own sh s (regions_at m m.room b m.words m.regions m.tails) t (held_line wi c xs (InParts tys)) (KSeveral l xs tys u (loosened (cased t) c) k) → A (regions_at m m.room b m.words m.regions m.tails)) → A m
  several_or A begin low done behind at steps go = by_slots (packed_slots tys xs) refl
    where
      here : (P : State → Type 0) → P (regions_at m m.room m.ip m.words m.regions m.tails) → P m
      here P = subst P (resting m at.ready)

      slots : length (packed_slots tys xs) ≡ length (packed_due tys)
      slots = slots_many c.scope tys xs at.fits.1

      first : (d : ℕ) (ds : List ℕ) → packed_slots tys xs ≡ d ∷ ds → Begins core code owed m c k (rest_cased (Part wi (Several xs tys t) u)) (heads code.laid c.head c.dest k) (left_behind core m u c k xs tys t l) (packed_slots tys xs) (Moves core code owed)
      first d ds e = subst (λ (q : List ℕ). Begins core code owed m c k (rest_cased (Part wi (Several xs tys t) u)) (heads code.laid c.head c.dest k) (left_behind core m u c k xs tys t l) q (Moves core code owed)) (sym e)
          (begins_first core code owed m c k (rest_cased (Part wi (Several xs tys t) u)) (heads code.laid c.head c.dest k) (left_behind core m u c k xs tys t l) d ds (begins_all core code owed m c k (rest_cased (Part wi (Several xs tys t) u)) (heads code.laid c.head c.dest k) (left_behind core m u c k xs tys t l) ds))

      by_slots : (ds : List ℕ) → packed_slots tys xs ≡ ds → A m
      by_slots [] e =
          let same : b ≡ m.ip = are_none m.ip b (begin_all (packed_slots tys xs)) (ap begin_all e) begin in
          let n = ap (λ (q : List ℕ). length q) e in
          here A (subst (λ (q : ℕ). A (regions_at m m.room q m.words m.regions m.tails)) same (go (several_at done low behind at {own' = own} {sh' = sh} m.room {s' = s} {sl' = m.words} {rs' = m.regions} {ts' = m.tails} record {
            grows = record { kept = λ q b h. h };
            line = at.line;
            behind = ap (λ (q : List ℕ). drop (length q) m.regions) e;
            long = omega (arith, n);
            less = omega (arith, n);
            starts = subst (λ (q : List ℕ). Starts m.words q m.regions) (sym e) tt;
            fresh = subst (λ (q : List ℕ). Holds code.laid s q [] m.regions) (sym e) tt;
            kept = λ y h. refl;
            memory = at.memory;
            counted = goes_on_counted (record { regions = omega arith; items = omega arith }) at.counted;
          })))
      by_slots (d ∷ ds) e =
          let types = types_many tys in
          steps (here (λ (q : State). Moves core code owed own sh s q) (first d ds e c.scope own sh m.room s m.ip b m.words m.regions m.tails begin (slots_free c.scope tys xs at.fits.1) (λ y h. h) (let h = at.room.nests.0 in omega (arith, h)) at.line at.memory
          (goes_on_counted (record { regions = omega (arith, slots, types); items = omega arith }) at.counted)
          (λ own' sh' room' s' sl' rs' ts' g. rests (at_term {u = Plain t} {c = held_line wi c xs (InParts tys)} {k = KSeveral l xs tys u (loosened (cased t) c) k} (several_at done low behind at {own' = own'} {sh' = sh'} room' {s' = s'} {sl' = sl'} {rs' = rs'} {ts' = ts'} g)))))
