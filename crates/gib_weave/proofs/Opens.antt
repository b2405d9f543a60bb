-- Fields and regions are begun, and heads placed.
use Rattle.std.proofs.Common.{◌≡◌, ℕ, zero, suc, ◌+◌, ◌*◌, ◌≤◌, Bool, true, false, List, [], ◌∷◌, length, nat_le, Option, Some, None, refl, sym, ap, subst, ◌∙◌, arith}
use Rattle.std.proofs.lemmas.Bool.Decides.{nat_tests}
use Rattle.std.proofs.lemmas.Bool.{or_left, or_right}
use Rattle.gib_types.specs.declared.table.Ty.{Ty}
use Rattle.gib_types.specs.declared.table.Ty.TheVariants.{Whole, Truth, Tree}
use Rattle.gib_types.specs.declared.table.ConId.{ConId}
use Rattle.gib_types.specs.Table.{fields_at, con_at, IsTable}
use Rattle.gib_types.specs.Layout.{LaidOut, is_among, layout_of, packed_count, scalar_size, offset_size, head_size}
use Rattle.gib_mem.specs.Memory.{Store, open_chunk, Grows}
use Rattle.gib_types.proofs.LayoutLemmas.{head_long}
use Rattle.gib_core.specs.Cost.{Cost, one_region, plus}
use Rattle.gib_region.specs.Region.{rest, pointer, HasRoom}
use Rattle.gib_packed.specs.Decoding.{Points}
use Rattle.gib_core.specs.declared.atom.Variable.{Variable}
use Rattle.gib_core.specs.declared.atom.Kind.TheVariants as kind
use Rattle.gib_core.specs.Tree.{Term, Then, On, Past, CoreTree}
use Rattle.gib_code.specs.Instruction.{Here, Begin, Done}
use Rattle.gib_code.specs.Instruction as i
use Rattle.gib_code.specs.Program.{CodeTree, IsAt}
use Rattle.gib_core.specs.Low.{To}
use Rattle.gib_machine.specs.State.{set, Open as OpenRegion, sets, cursor, latest, HeadOf, Ready, State}
use Rattle.gib_machine.specs.Machine.{next, begins, places}
use Rattle.gib_weave.proofs.Counts.{goes_on_counted, Paid, item_counted, turn_counted, turned_counted, tail_counted, chunk_counted}
use Rattle.gib_core.specs.Fits.{Held, Dest, Empty, Open, dest_type, packed_due, cased, put, Inner, new_line, none_of, side_tells}
use Rattle.gib_weave.specs.Environment.{Ctx, Fields, none, IsDest}
use Rattle.gib_packed.specs.Reaching.{Turns, there, turn as redirected}
use Rattle.gib_weave.specs.Stacks.{no_tree}
use Rattle.gib_weave.proofs.Groups.{Group-grows}
use Rattle.gib_weave.specs.Continuing.{made, given_of, Rest, Plain, Part, RestCode, rest_cased, Kont, KHere, KRegion, end_of, due, IsCode}
use Rattle.gib_weave.specs.Owing.{Owed, rest_means, means}
use Rattle.gib_weave.specs.Paying.{AtMost, Share, Counted, left_costs}
use Rattle.gib_weave.specs.Places.{within, Owned, with_chunk, rest_covers, tail_covers, Apart, put_all, AllFresh, heads, kont_covers}
use Rattle.gib_weave.specs.Sound.{counts, AtRest, AtTerm, at_term, Safe, rests, Moves, silent, draws, InMemory}
use Rattle.gib_weave.specs.Starting.{AreBodies}
use Rattle.gib_weave.proofs.Basics.{put-same, set-same, put_all-holds, put_all-grows, put_all-small, both-same}
use Rattle.gib_weave.proofs.Items.{safe_turning}
use Rattle.gib_weave.proofs.Grow.{Matches-grows}
use Rattle.gib_weave.proofs.Move.{absent_slot}
use Rattle.gib_weave.proofs.Sorts.{given_keeps, goes_new, code_put}
use Rattle.gib_weave.proofs.Places.{Apart-less, Apart-put_all, Apart-fresh, Apart-open, open-grows, open-small, within_front, within_redirect, within_chunk, chunk_room, rest_room, Splits, SplitsAt, splits}
use Rattle.gib_weave.proofs.Lines.{opening, keeps_opening, HasAll-open, pend, keeps_holding, loosened, holding, HasAll-hold, all_under_hold, under_holding, all_calm_less, calm_loosened, resume-with, waiting, line_grows, line_set}
use Rattle.gib_core.specs.Ending.{Within}
use Rattle.gib_weave.proofs.Tolds.{unheld, side_settled}
use Rattle.gib_weave.proofs.Turns.{some_region, Stack-turn}
use Rattle.gib_weave.proofs.Ends.{step_is}
use Rattle.gib_core.proofs.Fine.{few_fields}

module _ (core : CoreTree) (code : CodeTree) (owed : Owed) (own : Owned) (sh : Share) where
  pub does_here : {s : Store} {m : State} {u : Rest} {c : Ctx} {k : Kont} (x : Variable) (xt : Ty) (l : ℕ) (wi : Within) (t : Term) → IsAt code m.ip (Here x.0) → IsCode core code wi c.scope (m.ip + 1) t (To l 0) → RestCode core code c.line.within c.scope l u (end_of c.line.overs k)
      → AtRest core code owed own sh s m (Part wi (On kind.Here x xt t) u) c k → Moves core code owed own sh s m
  does_here {s} {m} {u} {c} {k} x xt l wi t e lt lu at =
      let w = cursor m.regions in
      let st = at.fits.0 in
      let new = at.fits.3 in
      let told = side_tells wi core t in
      let set_line = line_set x.0 w new at.line in
      silent (step_is code m (Here x.0) at.ready e) (rests (at_term {u = Plain t} {c = holding wi c x.0 (Empty st) w 0} {k = KHere l x.0 st u (loosened (cased t) (pend told none_of c)) k} record {
        ready = refl;
        group = tt;
        low = code_put x.0 Held refl lt;
        fits = at.fits.4;
        line = record {
          kind = refl;
          matches = record { vars = HasAll-hold wi code.laid s m.words c x.0 w (Empty st) w 0 new at.line.matches.vars; dest = refl };
          stack = (
            both-same m.words x.0 w (at.line.matches.vars.wide x.0 (absent_slot c.scope x.0 new)) at.line.matches.vars.even,
            at.fits.2,
            waiting t none_of set_line (λ y h. or_right (cased t y) (rest_cased u y) h) at.room.free.0.0 (let h = at.room.narrow in omega (arith, h)) new lu at.fits.5 (λ q e. unheld c.scope x.0 q (side_settled wi core (Inner told) t (put c.scope x.0 Held) (Empty st) (new_line wi) at.fits.4 q e)),
            set_line.stack,
          );
          under = (put-same c.scope x.0 Held, under_holding (cased t) (pend told none_of c) x.0 new, all_under_hold c.scope c.env k x.0 new at.line.under);
          given = given_keeps c (holding wi c x.0 (Empty st) w 0) 0 (given_of k) (keeps_holding wi c x.0 (Empty st) w 0 new) (goes_new c.scope x.0 Held new) at.line.given;
          calm = (calm_loosened (cased t) (pend told none_of c), all_calm_less (rest_cased (Part wi (On kind.Here x xt t) u)) (cased t) k (λ y h. or_left (cased t y) (rest_cased u y) h) at.line.calm);
        };
        memory = at.memory;
        ties = at.ties;
        owes = sym (resume-with core m.depth k (means core m.depth t c.env) (λ v. rest_means core m.depth u ((x.0, v) ∷ c.env))) ∙ at.owes;
        counted = goes_on_counted (record { regions = omega arith; items = omega arith }) at.counted;
        room = record { free = tt; narrow = let h = at.room.narrow in omega (arith, h); nests = let h = at.room.nests.0 in omega (arith, h); all_room = (at.room.nests.1, at.room.all_room) };
      }))

module _ (core : CoreTree) (code : CodeTree) (owed : Owed) (own : Owned) (sh : Share) where
  -- A region is begun: at the latest tail, or in a new chunk.
  pub begins_region : (rm : ℕ) (m : State) {s : Store} (x : ℕ) (hs : ℕ → ℕ) (before left : Cost) → m.doing ≡ Ready → IsAt code m.ip (Begin x) → AtMost (plus one_region left) before → InMemory own s hs m.regions m.tails → Counted m.regions before sh
      → ((own' : Owned) (sh' : Share) (s' : Store) (a : ℕ) (ts : List ℕ) → Grows s s' → InMemory own' s' hs (record { start = a; cur = a } ∷ m.regions) ts → Counted (record { start = a; cur = a } ∷ m.regions) left sh'
      → Safe core code owed own' sh' s' (record m { ip = m.ip + 1; words = set m.words x a; regions = record { start = a; cur = a } ∷ m.regions; tails = ts; room = rm; doing = Ready }))
      → Moves core code owed own sh s (record m { room = suc rm })
  begins_region rm m {s} x hs before left ready e most memory counted go = by_tail (latest m.tails) refl (splits m.tails)
    where
      here : State
      here = record m { room = suc rm }

      in_chunk : (d : ℕ) → Paid (record { start = 4096 * d; cur = 4096 * d } ∷ m.regions) left sh 1
      in_chunk d = chunk_counted (record { start = 4096 * d; cur = 4096 * d }) m.regions before left sh d refl most counted

      in_tail : (a : ℕ) → Paid (record { start = a; cur = a } ∷ m.regions) left sh 0
      in_tail a = tail_counted (record { start = a; cur = a }) m.regions before left sh most counted

      asks : (o : Option (List ℕ × ℕ)) → latest m.tails ≡ o → next code here ≡ begins (record m { room = rm }) (λ t a. sets t x a) o
      asks o q = step_is code here (Begin x) ready e ∙ ap (begins (record m { room = rm }) (λ t a. sets t x a)) q

      by_tail : (o : Option (List ℕ × ℕ)) → latest m.tails ≡ o → SplitsAt m.tails (latest m.tails) → Moves core code owed own sh s here
      by_tail None q h =
          let none_left : m.tails ≡ [] = subst (λ (z : Option (List ℕ × ℕ)). SplitsAt m.tails z) q h in
          draws (λ d. (in_chunk d).share) (asks None q) (λ d new. (in_chunk d).spends) (λ d new.
          go (with_chunk own d) (in_chunk d).share (open_chunk s d) (4096 * d) [] (open-grows s d new)
          (record {
            places = Apart-open d new memory.places (λ q. let i : rest (4096 * d) ≡ 4096 = omega arith in let j = ap (λ (z : ℕ). within (4096 * d) z q) i in let f = ap (λ (z : List ℕ). tail_covers z q) none_left in omega (arith, j, f));
            rooms = (omega arith, memory.rooms);
            tail_rooms = tt;
            small = open-small s d new memory.small;
          })
          (in_chunk d).counted)
      by_tail (Some p) q h =
          let sp : Splits m.tails p = subst (λ (z : Option (List ℕ × ℕ)). SplitsAt m.tails z) q h in
          let ro = sp.rooms memory.tail_rooms in
          silent (asks (Some p) q)
          (counts (in_tail p.1).spends (go own (in_tail p.1).share s p.1 p.0 (record { kept = λ q b h. h })
          (record { places = Apart-less memory.places (λ q. let i = sp.covers q in omega (arith, i)); rooms = (ro.1, memory.rooms); tail_rooms = ro.0; small = memory.small })
          (in_tail p.1).counted))

module _ (core : CoreTree) (code : CodeTree) (owed : Owed) (own : Owned) (sh : Share) {u : Rest} {c : Ctx} {k : Kont} (x : Variable) (xt : Ty) (l : ℕ) (wi : Within) (t : Term) where
  -- a region begins at a
  region_at : {own' : Owned} {sh' : Share} {s s' : Store} (m : State) (rm : ℕ) (ts : List ℕ) (a : ℕ) → IsCode core code wi c.scope (m.ip + 1) t (To l 0) → IsAt code l Done → RestCode core code c.line.within c.scope (l + 1) u (end_of c.line.overs k)
      → (at : AtRest core code owed own sh s (record m { room = suc rm }) (Part wi (On kind.Region x xt t) u) c k) → Grows s s' → InMemory own' s' (heads code.laid c.head c.dest k) (record { start = a; cur = a } ∷ m.regions) ts
      → Counted (record { start = a; cur = a } ∷ m.regions) (left_costs core m.depth m.level (Plain t) c.env (KRegion l x.0 at.fits.0 u (loosened (cased t) (pend (side_tells wi core t) none_of c)) k)) sh'
      → Safe core code owed own' sh' s' (record m { ip = m.ip + 1; words = set m.words x.0 a; regions = record { start = a; cur = a } ∷ m.regions; tails = ts; room = rm; doing = Ready })
  region_at {s' = s'} m rm ts a lt ed lu at g memory counted =
      let st = at.fits.0 in
      let new = at.fits.2 in
      let told = side_tells wi core t in
      let line = line_grows g at.line in
      let set_line = line_set x.0 a new line in
      rests (at_term {u = Plain t} {c = holding wi c x.0 (Empty st) a 0} {k = KRegion l x.0 st u (loosened (cased t) (pend told none_of c)) k} record {
        ready = refl;
        group = tt;
        low = code_put x.0 Held refl lt;
        fits = at.fits.3;
        line = record {
          kind = refl;
          matches = record { vars = HasAll-hold wi code.laid s' m.words c x.0 a (Empty st) a 0 new line.matches.vars; dest = refl };
          stack = (
            both-same m.words x.0 a (at.line.matches.vars.wide x.0 (absent_slot c.scope x.0 new)) at.line.matches.vars.even,
            refl,
            ed,
            waiting t none_of set_line (λ y h. or_right (cased t y) (rest_cased u y) h) at.room.free.0.0 (let h = at.room.narrow in omega (arith, h)) new lu at.fits.4 (λ q e. unheld c.scope x.0 q (side_settled wi core (Inner told) t (put c.scope x.0 Held) (Empty st) (new_line wi) at.fits.3 q e)),
            set_line.stack,
            Group-grows code.laid c.dest (made u) m.regions g at.group,
          );
          under = (put-same c.scope x.0 Held, under_holding (cased t) (pend told none_of c) x.0 new, all_under_hold c.scope c.env k x.0 new at.line.under);
          given = given_keeps c (holding wi c x.0 (Empty st) a 0) 0 (given_of k) (keeps_holding wi c x.0 (Empty st) a 0 new) (goes_new c.scope x.0 Held new) at.line.given;
          calm = (calm_loosened (cased t) (pend told none_of c), all_calm_less (rest_cased (Part wi (On kind.Region x xt t) u)) (cased t) k (λ y h. or_left (cased t y) (rest_cased u y) h) at.line.calm);
        };
        memory = memory;
        ties = at.ties;
        owes = sym (resume-with core m.depth k (means core m.depth t c.env) (λ v. rest_means core m.depth u ((x.0, v) ∷ c.env))) ∙ at.owes;
        counted = counted;
        room = record { free = tt; narrow = let h = at.room.narrow in omega (arith, h); nests = let h = at.room.nests.0 in omega (arith, h); all_room = (at.room.nests.1, at.room.all_room) };
      })

  -- by the room that is left
  pub does_region : (rm : ℕ) (m : State) {s : Store} → IsAt code m.ip (Begin x.0) → IsCode core code wi c.scope (m.ip + 1) t (To l 0) → IsAt code l Done → RestCode core code c.line.within c.scope (l + 1) u (end_of c.line.overs k)
      → AtRest core code owed own sh s (record m { room = rm }) (Part wi (On kind.Region x xt t) u) c k → Moves core code owed own sh s (record m { room = rm })
  does_region zero m e lt ed lu at = absurd (let h = at.room.nests.0 in omega (arith, h))
  does_region (suc rm) m e lt ed lu at =
      begins_region core code owed own sh rm m x.0 (heads code.laid c.head c.dest k) (left_costs core m.depth m.level (Part wi (On kind.Region x xt t) u) c.env k) (left_costs core m.depth m.level (Plain t) c.env (KRegion l x.0 at.fits.0 u (loosened (cased t) (pend (side_tells wi core t) none_of c)) k))
      at.ready e (record { regions = omega arith; items = omega arith }) at.memory at.counted (λ own' sh' s' a ts g memory counted. region_at m rm ts a lt ed lu at g memory counted)

-- Heads are small.

pub no_room : (a b : ℕ) → nat_le a b ≡ false → a ≤ b → ⊥
no_room a b e h = grind (arith, nat_tests)

pub few_packed : (ts : List Ty) → packed_count ts ≤ length ts
few_packed [] = omega arith
few_packed (Whole ∷ ts) = let i = few_packed ts in omega (arith, i)
few_packed (Truth ∷ ts) = let i = few_packed ts in omega (arith, i)
few_packed (Tree t ∷ ts) = let i = few_packed ts in omega (arith, i)

few_scalars : (ts : List Ty) → scalar_size ts ≤ 8 * length ts
few_scalars [] = omega arith
few_scalars (Whole ∷ ts) = let i = few_scalars ts in omega (arith, i)
few_scalars (Truth ∷ ts) = let i = few_scalars ts in omega (arith, i)
few_scalars (Tree t ∷ ts) = let i = few_scalars ts in omega (arith, i)

few_offsets : (b : Bool) (n : ℕ) → offset_size b n ≤ 8 * n
few_offsets false n = omega arith
few_offsets true n = omega arith

small_layout : (b : Bool) (ts : List Ty) → length ts ≤ 8 → (layout_of b ts).head + 9 ≤ 4096
small_layout b ts h = let i = few_packed ts in let j = few_scalars ts in let k = few_offsets b (packed_count ts) in omega (arith, h, i, j, k)

pub size_few : (laid : LaidOut) → IsTable laid.table → (k : ℕ) → head_size laid k ≤ 65
size_few laid t k = head_long (is_among laid.with_offsets k) (fields_at laid.table k) (few_fields laid.table t k)

pub size_small : (laid : LaidOut) → IsTable laid.table → (k : ℕ) → head_size laid k + 9 ≤ 4096
size_small laid t k = small_layout (is_among laid.with_offsets k) (fields_at laid.table k) (few_fields laid.table t k)

module _ (core : CoreTree) (code : CodeTree) (ok : AreBodies core code) (owed : Owed) (own : Owned) (sh : Share) where
  -- a head is placed at a: what is known then
  record HeadPlaced (s : Store) (r : OpenRegion) (rs : List OpenRegion) (ts : List ℕ) (n : ℕ) (hs : ℕ → ℕ) (left : Cost) (own' : Owned) (sh' : Share) (s' : Store) (r' : OpenRegion) (a : ℕ) : Type 0 where
    pub grows : Grows s s'
    pub start : r'.start ≡ r.start
    pub end : r'.cur ≡ a + n
    pub leads : Turns s' r.cur a
    pub memory : InMemory own' s' hs (r' ∷ rs) ts
    pub counted : Counted (r' ∷ rs) left sh'

  head_at : {own' : Owned} {sh' : Share} {s s' : Store} (m : State) {c : Ctx} {k : Kont} {r r' : OpenRegion} {rs : List OpenRegion} (h : Variable) (kk : ConId) (a : ℕ) (t : Term) → IsCode core code c.line.within c.scope (m.ip + 1) t (end_of c.line.overs k)
      → (at : AtTerm core code owed own sh s (record m { regions = r ∷ rs }) (Then (Past h kk) t) c k) → HeadPlaced s r rs m.tails (head_size code.laid kk.0) (heads code.laid a (Open at.fits.0 h.0 kk.0 [] (packed_due (fields_at core.table kk.0))) k) (left_costs core m.depth m.level (Plain t) c.env k) own' sh' s' r' a
      → Safe core code owed own' sh' s' (record m { ip = m.ip + 1; words = set m.words h.0 a; regions = r' ∷ rs; doing = Ready })
  head_at {s = s} {s' = s'} m {c = c} {k = k} {r = r} {r' = r'} {rs = rs} h kk a t lt at p =
      let st = at.fits.0 in
      let new = at.fits.3 in
      let dues = packed_due (fields_at core.table kk.0) in
      let line = line_set h.0 a new (line_grows p.grows at.line) in
      let packed : no_tree (due k) ≡ false = sym (ap no_tree at.line.kind) ∙ ap (λ (z : Dest). no_tree (dest_type z)) at.fits.1 in
      let front : c.front ≡ r.cur = subst (λ (z : Dest). IsDest code.laid s m.words c z r.cur) at.fits.1 at.line.matches.dest in
      rests (at_term {u = Plain t} {c = opening c h.0 (Open st h.0 kk.0 [] dues) c.front a} {k = k} record {
        ready = refl;
        group = tt;
        low = code_put h.0 Held refl lt;
        fits = at.fits.4;
        line = record {
          kind = sym (ap dest_type at.fits.1) ∙ at.line.kind;
          matches = record {
            vars = HasAll-open code.laid s' m.words c h.0 a (Open st h.0 kk.0 [] dues) c.front a new (Matches-grows p.grows at.line.matches).vars;
            dest = record {
              con = subst (λ (z : LaidOut). con_at z.table st kk.0 ≡ Some kk.0) (sym ok.laid) at.fits.2;
              slot = set-same m.words h.0 a (at.line.matches.vars.wide h.0 (absent_slot c.scope h.0 new));
              sort = put-same c.scope h.0 Held;
              leads = subst (λ (z : ℕ). Turns s' z a) (sym front) p.leads;
              types = [];
              all = ap (λ (z : LaidOut). packed_due (fields_at z.table kk.0)) (sym ok.laid);
              fields = subst (λ (z : ℕ). Fields code.laid s' (opening c h.0 (Open st h.0 kk.0 [] dues) c.front a) (a + head_size code.laid kk.0) [] [] z) (sym p.end) none;
            };
          };
          stack = Stack-turn core code s' k (set m.words h.0 a) m.frames c.front r r' rs p.start packed line.stack;
          under = all_under_hold c.scope c.env k h.0 new at.line.under;
          given = given_keeps c (opening c h.0 (Open st h.0 kk.0 [] dues) c.front a) 0 (given_of k) (keeps_opening c h.0 (Open st h.0 kk.0 [] dues) c.front a new) (goes_new c.scope h.0 Held new) at.line.given;
          calm = at.line.calm;
        };
        memory = p.memory;
        ties = at.ties;
        owes = at.owes;
        counted = p.counted;
        room = record { free = at.room.free; narrow = let h = at.room.narrow in omega (arith, h); nests = let h = at.room.nests in omega (arith, h); all_room = at.room.all_room };
      })

  -- by the open regions
  pub does_past : (rs : List OpenRegion) (m : State) {s : Store} {c : Ctx} {k : Kont} (h : Variable) (kk : ConId) (t : Term) → IsAt code m.ip (i.Past h.0 kk.0) → IsCode core code c.line.within c.scope (m.ip + 1) t (end_of c.line.overs k)
      → AtTerm core code owed own sh s (record m { regions = rs }) (Then (Past h kk) t) c k → Moves core code owed own sh s (record m { regions = rs })
  does_past [] m {s} {c} {k} h kk t e lt at = absurd (some_region core code s k m.words m.frames c.front (sym (ap no_tree at.line.kind) ∙ ap (λ (z : Dest). no_tree (dest_type z)) at.fits.1) at.line.stack)
  does_past (r ∷ rs) m {s} {c} {k} h kk t e lt at = go (nat_le (sz + 9) (rest r.cur)) refl
    where
      here : State
      here = record m { regions = r ∷ rs }

      sz : ℕ
      sz = head_size code.laid kk.0

      asks : (b : Bool) → nat_le (sz + 9) (rest r.cur) ≡ b → next code here ≡ places code.laid here h.0 kk.0 b
      asks b q = step_is code here (i.Past h.0 kk.0) at.ready e ∙ ap (places code.laid here h.0 kk.0) q

      few : sz ≤ 65
      few = size_few code.laid ok.table kk.0

      before : Cost
      before = left_costs core m.depth m.level (Plain (Then (Past h kk) t)) c.env k

      left : Cost
      left = left_costs core m.depth m.level (Plain t) c.env k

      start : ℕ → OpenRegion
      start d = record { start = r.start; cur = 4096 * d }

      goes_here : HasRoom r.cur sz → Paid (record { start = r.start; cur = r.cur + sz } ∷ rs) (left_costs core m.depth m.level (Plain t) c.env k) sh 0
      goes_here room = item_counted r (record { start = r.start; cur = r.cur + sz }) rs before left sh sz few room refl (record { regions = omega arith; items = omega arith }) at.counted

      turn_first : (d : ℕ) → (HasRoom r.cur sz → ⊥) → Paid (start d ∷ rs) before sh 1
      turn_first d full = turn_counted r (start d) rs before sh sz d few full refl at.counted

      then_here : (d : ℕ) (full : HasRoom r.cur sz → ⊥) → Paid (record { start = r.start; cur = 4096 * d + sz } ∷ rs) (left_costs core m.depth m.level (Plain t) c.env k) (turn_counted r (start d) rs before sh sz d few full refl at.counted).share 0
      then_here d full = turned_counted r (start d) (record { start = r.start; cur = 4096 * d + sz }) rs before left sh sz d few full refl refl (record { regions = omega arith; items = omega arith }) at.counted

      no_head : (q : ℕ) → heads code.laid c.head c.dest k q ≡ kont_covers code.laid k q
      no_head q = ap (λ (z : Dest). heads code.laid c.head z k q) at.fits.1

      go : (b : Bool) → nat_le (sz + 9) (rest r.cur) ≡ b → Moves core code owed own sh s here
      go true e' =
          let fits9 : sz + 9 ≤ rest r.cur = grind (arith, nat_tests) in
          silent (asks true e')
          (counts (goes_here fits9).spends (head_at m h kk r.cur t lt at (record {
            grows = record { kept = λ q b h. h };
            start = refl;
            end = refl;
            leads = there;
            memory = record { places = Apart-less at.memory.places (λ q. let i = within_front r.cur sz q fits9 in let z = no_head q in omega (arith, i, z)); rooms = (rest_room r.cur sz fits9, at.memory.rooms.1); tail_rooms = at.memory.tail_rooms; small = at.memory.small };
            counted = (goes_here fits9).counted;
          })))
      go false e' =
          let full9 : HasRoom r.cur sz → ⊥ = λ room. absurd (no_room (sz + 9) (rest r.cur) e' room) in
          draws (λ d. (turn_first d full9).share) (asks false e') (λ d new. (turn_first d full9).spends) (λ d new.
          let o = open_chunk s d in
          let bs = pointer 255 (4096 * d) in
          let room9 : 9 ≤ rest r.cur = at.memory.rooms.0 in
          let n1 : ℕ → ℕ = λ q. (heads code.laid c.head c.dest k q + (rest_covers (r ∷ rs) q + tail_covers m.tails q)) + within (4096 * d) 4096 q in
          let own' : Owned = with_chunk own d in
          let a1 : Apart own' o n1 = Apart-open d new at.memory.places (λ q. omega arith) in
          let f : AllFresh own' o r.cur 9 = Apart-fresh r.cur 9 a1 (λ q. let i = within_redirect r.cur q room9 in omega (arith, i)) in
          let s' = put_all o r.cur bs in
          let g1 = open-grows s d new in
          let g2 = put_all-grows o r.cur bs f in
          let pt : Points s' r.cur 255 (4096 * d) = record { bytes = put_all-holds o r.cur bs; fits = let k = new.small in omega (arith, k) } in
          let small9 = size_small code.laid ok.table kk.0 in
          safe_turning core code owed own' (turn_first d full9).share bs o here (HeadOf h.0 kk.0) d r.cur f
          (counts (then_here d full9).spends (head_at m h kk (4096 * d) t lt at (record {
            grows = record { kept = λ q b h. g2.kept q b (g1.kept q b h) };
            start = refl;
            end = refl;
            leads = redirected pt there;
            memory = record {
              places = Apart-put_all r.cur bs a1 (λ q.
                  let i = within_redirect r.cur q room9 in
                  let j = within_chunk d sz q small9 in
                  let z = no_head q in
                  omega (arith, i, j, z));
              rooms = (chunk_room d sz small9, at.memory.rooms.1);
              tail_rooms = at.memory.tail_rooms;
              small = put_all-small o r.cur bs f (open-small s d new at.memory.small);
            };
            counted = (then_here d full9).counted;
          }))))
