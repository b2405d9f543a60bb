-- What a task owes at a join.
use Rattle.std.proofs.Common.{◌≡◌, ℕ, suc, ◌+◌, Bool, true, false, List, [], ◌∷◌, Some, None, length, map, cond, refl, sym, ap, subst, ◌∙◌, arith}
use Rattle.std.specs.Int.{w64, cast_unsigned}
use Rattle.std.proofs.lemmas.Bool.{true≢false, or_right}
use Rattle.gib_types.specs.declared.table.Ty.{Ty}
use Rattle.gib_types.specs.declared.table.Ty.TheVariants.{Whole, Truth, Tree}
use Rattle.gib_types.specs.Tree.{Datum, whole, truth}
use Rattle.gib_syntax.specs.Results as results
use Rattle.gib_syntax.specs.Typing.{one_type}
use Rattle.gib_syntax.specs.Meaning.{Environment, is_scalar, Outcome, Gives, Stops, tuple, with_value}
use Rattle.gib_mem.specs.Memory.{Store}
use Rattle.gib_packed.specs.Scalars.{bit}
use Rattle.gib_packed.specs.Decoding as d
use Rattle.gib_core.specs.declared.atom.Variable.{Variable}
use Rattle.gib_core.specs.declared.atom.Kind.{Kind}
use Rattle.gib_core.specs.declared.atom.Kind.TheVariants as kind
use Rattle.gib_core.specs.Tree.{Term, Side, On, Several, CoreTree}
use Rattle.gib_core.specs.Meaning.{bind_side}
use Rattle.gib_code.specs.declared.instruction.Kind.{Kind as CodeKind}
use Rattle.gib_code.specs.declared.instruction.Kind.TheVariants as code_kind
use Rattle.gib_code.specs.declared.answer.Answer.{Answer}
use Rattle.gib_code.specs.declared.answer.Answer.TheVariants as answer
use Rattle.gib_code.specs.Program.{CodeTree}
use Rattle.gib_core.specs.Low.{kind_of, side_kind, side_slots}
use Rattle.gib_machine.specs.State.{set, Open as OpenRegion, State, Doing, Ready, Joining, Par, cursor, doing}
use Rattle.gib_machine.specs.Machine.{unwound}
use Rattle.gib_machine.specs.Sides.{taken, joined, answered, sets_all}
use Rattle.gib_core.specs.Cost.{Cost, nothing, own_side, plus, one_item}
use Rattle.gib_weave.proofs.Counts.{goes_on_counted, joins_counted}
use Rattle.gib_core.specs.Ending.{within_par}
use Rattle.gib_weave.proofs.Lines.{pend, loosened, resume-stop, waiting, several_waits, all_follow, line_grows, line_set}
use Rattle.gib_weave.proofs.Indirects.{pointed}
use Rattle.gib_weave.proofs.Forks.{par_tells, own_most, right_costs, right_at, bound_comes, field_comes}
use Rattle.gib_weave.proofs.Move.{with_var, moved_set, Paused-moved, not_there, absent_slot, covers_more, with_dest, with_line}
use Rattle.gib_weave.proofs.Sorts.{is_field}
use Rattle.gib_core.specs.Fits.{none_of, tell_line, side_tells, put, Sort, Absent, Scalar, Placed, Dest, more, cased, loosen, Fits}
use Rattle.gib_packed.specs.Reaching.{there}
use Rattle.gib_weave.specs.Environment.{Ctx, IsScalar, StandsAt, Has}
use Rattle.gib_weave.specs.EndWords.{HasEnd}
use Rattle.gib_weave.specs.Continuing.{Plain, Part, Meet, Leave, pars_of, Kont, end_of, needs_of, due, IsCode}
use Rattle.gib_weave.specs.Bound.{bound_of, bound_type}
use Rattle.gib_weave.specs.Owing.{debt_of, kind_link, link, side_costs, side_gives, side_owes, Owed, sides_of, Debt, means, resume}
use Rattle.gib_weave.specs.Paying.{Share, Counted, with_side, with_count, cost_after, left_costs}
use Rattle.gib_weave.specs.Places.{Owned, heads}
use Rattle.gib_weave.specs.Stacks.{Waits, no_tree}
use Rattle.gib_machine.specs.Levels.{lefts}
use Rattle.gib_weave.specs.Sound.{AtRest, IsUnwinding, Meets, IsAnswer, PartsAnswer, at_term, Safe, rests, moves, IsTied, ties_of}
use Rattle.gib_weave.proofs.Basics.{both-same}
use Rattle.gib_weave.proofs.Turns.{some_region, Stack-turn, due-packed}
use Rattle.gib_weave.proofs.Readings.{dec_small}
use Rattle.gib_weave.proofs.EndWords.{turns_dec}
use Rattle.gib_weave.proofs.Ends.{lefts_sides, unwound_safe, heads_less}
use Rattle.gib_weave.proofs.Groups.{group_more}
use Rattle.gib_weave.proofs.Filling.{not_one, same_types}
use Rattle.gib_weave.proofs.SideParts.{owed_binds, owes_none}
use Rattle.gib_weave.proofs.Comes.{answer_comes as parts_come}
use Rattle.gib_types.specs.declared.reason.Reason.{Reason}
use Rattle.gib_packed.proofs.Grow.{Dec-grows}

packed_scalar : (t : ℕ) (xt : Ty) → is_scalar xt ≡ true → xt ≡ Tree (record { 0 = t }) → ⊥
packed_scalar t xt h e = true≢false (sym h ∙ ap is_scalar e)

scalar_packed : (t : ℕ) (xt so : Ty) → xt ≡ Tree (record { 0 = t }) → xt ≡ so → is_scalar so ≡ true → ⊥
scalar_packed t xt so e f h = true≢false (sym h ∙ ap is_scalar (sym f ∙ e))

free_link : {rs : List OpenRegion} {a : Cost} {sh : Share} → Counted rs (plus nothing a) sh → Counted rs a sh
free_link c = goes_on_counted (record { regions = omega arith; items = omega arith }) c

-- The machine behind a join, what its task owes then, and the line that waits for the right side.
abbrev after_join : State → Par → Kont → (ip : ℕ) → State
after_join m p k z = record m { ip = z; level = p.level; pars = pars_of k; room = suc m.room; doing = Ready }

abbrev left_owed : CoreTree → Owed → State → Par → Kont → Owed
left_owed core owed m p k = record { ty = owed.ty; all = owed.all; sides = sides_of core m.depth p.level k }

abbrev behind_par : CoreTree → Term → Ctx → Ctx
behind_par core t c = loosened (cased t) (pend (side_tells (within_par c.line.within) core t) none_of c)

module _ (core : CoreTree) (code : CodeTree) (owed : Owed) (own : Owned) (sh : Share) (s : Store) (m : State) (p : Par) {r : Side} {u : Term} (c : Ctx) (k : Kont) (at : AtRest core code owed own sh s m (Meet p r u) c k) where
  -- the meaning, once the side's value is known
  comes_to : (o : Outcome) → side_gives core m.depth r c.env ≡ o → resume core m.depth k (with_value o (λ v. means core m.depth u (bind_side r v c.env))) ≡ owed.all
  comes_to o e = ap (λ (q : Outcome). resume core m.depth k (with_value q (λ v. means core m.depth u (bind_side r v c.env)))) (sym e) ∙ at.owes

  -- what the task has left
  ties_left : IsTied (left_owed core owed m p k) (pars_of k) m.side m.result (ties_of core m.depth p.level (Plain u) c.env k)
  ties_left = record { sides = refl; pars = refl; side = at.ties.side; result = at.ties.result; type = at.ties.type }

  -- what is left once the side's value is known
  side_came : {sh' : Share} (v : Datum) → side_gives core m.depth r c.env ≡ Gives v → Counted m.regions (right_costs core m.depth m.level p.level r u c.env k (link r)) sh' → Counted m.regions (plus (link r) (left_costs core m.depth p.level (Plain u) (bind_side r v c.env) k)) sh'
  side_came {sh'} v mn count = subst (λ (o : Outcome). Counted m.regions (plus (link r) (cost_after o (λ v. left_costs core m.depth p.level (Plain u) (bind_side r v c.env) k))) sh') mn count

  -- without a value the task unwinds
  unwinds_at : {sh' : Share} (z : ℕ) (why : Reason) → side_gives core m.depth r c.env ≡ Stops why → Safe core code (left_owed core owed m p k) own sh' s (unwound why (after_join m p k z) (pars_of k))
  unwinds_at {sh'} z why h = unwound_safe core code (left_owed core owed m p k) own sh' why s (after_join m p k z) (pars_of k) (sym (comes_to (Stops why) h) ∙ resume-stop core m.depth k why) (lefts_sides core m.depth p.level k)

-- A side of one variable.
module _ (core : CoreTree) (code : CodeTree) (owed : Owed) (own : Owned) (sh : Share) (s : Store) (m : State) (p : Par) {kd : Kind} {y : Variable} {xt : Ty} {t u : Term} (c : Ctx) (k : Kont) (at : AtRest core code owed own sh s m (Meet p (On kd y xt t) u) c k) where
  -- the line behind the right side waits for its value
  waits_at : {so : Sort} {after : Dest} {z : ℕ} → c.scope y.0 ≡ Absent → Fits core (needs_of k) u (put (loosen (cased t) c.scope) y.0 so) after (tell_line (side_tells (within_par c.line.within) core t) c.line) → IsCode core code c.line.within c.scope z u (end_of c.line.overs k)
      → Waits core code s m.words z y.0 so (Plain u) (behind_par core t c) after (cursor m.regions) k
  waits_at {so} {after} {z} new fit low = waiting {at = z} {x = y.0} {so = so} t {f = side_tells (within_par c.line.within) core t} none_of {u = Plain u} {after = after} at.line (λ q h. or_right (cased t q) (cased u q) h) at.room.free (let h = at.room.narrow in omega (arith, h)) new low fit (λ q e. absurd (par_tells c.line.within core t q e))

  -- a scalar's or a region's variable is set in the join itself
  sets_at : {sh' : Share} (z : ℕ) (so : Sort) (w pl : ℕ) (v : Datum) → c.scope y.0 ≡ Absent → Fits core (needs_of k) u (put (loosen (cased t) c.scope) y.0 so) c.dest (tell_line (side_tells (within_par c.line.within) core t) c.line) → is_field so ≡ false
      → Has code.laid s (with_var (behind_par core t c) y.0 so v pl) so w v pl (c.hd y.0) → HasEnd code.laid s so w 0 v pl → means core m.depth t c.env ≡ Gives v → Counted m.regions (left_costs core m.depth p.level (Plain u) ((y.0, v) ∷ c.env) k) sh' → IsCode core code c.line.within c.scope z u (end_of c.line.overs k)
      → Safe core code (left_owed core owed m p k) own sh' s (record (after_join m p k z) { words = set m.words y.0 w })
  sets_at {sh'} z so w pl v new fit nf has he mn count low =
      rests (at_term {u = Plain u} {c = with_line (with_var (behind_par core t c) y.0 so v pl) (tell_line (side_tells (within_par c.line.within) core t) c.line)} {k = k} (bound_comes core code (left_owed core owed m p k) own sh' {m = record (after_join m p k z) { words = set m.words y.0 w }} {sl = m.words} {x = y.0} {so = so} {u = Plain u} {c = behind_par core t c} {k = k} w pl v refl (λ q e. par_tells c.line.within core t q e) nf (waits_at new fit low) has he (record {
        ready = refl;
        stack = (line_set y.0 w new at.line).stack;
        group = at.group;
        memory = at.memory;
        ties = ties_left core code owed own sh s m p c k at;
        owes = comes_to core code owed own sh s m p c k at (Gives v) mn;
        counted = count;
        room = (at.room.nests.1, at.room.all_room);
      })))

-- A side of several variables.
module _ (core : CoreTree) (code : CodeTree) (owed : Owed) (own : Owned) (sh : Share) (s : Store) (m : State) (p : Par) {xs : List Variable} {tys : List Ty} {t u : Term} (c : Ctx) (k : Kont) (at : AtRest core code owed own sh s m (Meet p (Several xs tys t) u) c k) where
  -- its variables are set in the join itself
  sets_parts : {sh' : Share} (ws : List ℕ) (vs : List Datum) → side_owes core m.depth (Several xs tys t) c.env ≡ Gives (tuple vs) → PartsAnswer code.laid s tys ws vs
      → Counted m.regions (right_costs core m.depth m.level p.level (Several xs tys t) u c.env k nothing) sh' → Safe core code (left_owed core owed m p k) own sh' s (sets_all (after_join m p k at.low.until) (map (λ (x : Variable). x.0) xs) ws)
  sets_parts {sh'} ws vs owes words count =
      let b = owed_binds xs (side_gives core m.depth (Several xs tys t) c.env) vs c.env owes in
      let left = side_came core code owed own sh s m p c k at b.0 b.1 count in
      parts_come core code (left_owed core owed m p k) own sh' s (after_join m p k at.low.until) (at.low.until + 1) (Plain u) k m.words tys xs (loosened (cased t) c) ws vs (record {
        waits = several_waits t at.line (λ q h. or_right (cased t q) (cased u q) h) (all_follow u k xs at.room.free) at.room.free (let h = at.room.narrow in omega (arith, h)) at.fits.0.1 at.fits.1 at.low.next at.fits.3;
        stack = at.line.stack;
        group = at.group;
        memory = at.memory;
        ties = ties_left core code owed own sh s m p c k at;
        owes = ap (λ (q : Environment). resume core m.depth k (means core m.depth u q)) (sym b.2) ∙ comes_to core code owed own sh s m p c k at (Gives b.0) b.1;
        counted = subst (λ (q : Environment). Counted m.regions (left_costs core m.depth p.level (Plain u) q k) sh') b.2 (free_link left);
        room = (at.room.nests.1, at.room.all_room);
      }) words

  -- by the answer
  parts_comes : {sh' : Share} (a : Answer) → Counted m.regions (right_costs core m.depth m.level p.level (Several xs tys t) u c.env k nothing) sh' → IsAnswer code.laid s (results.Several tys) (side_owes core m.depth (Several xs tys t) c.env) a
      → Safe core code (left_owed core owed m p k) own sh' s (answered (after_join m p k at.low.until) code_kind.Several (map (λ (x : Variable). x.0) xs) a)
  parts_comes (answer.NoValue why) count h = unwinds_at core code owed own sh s m p c k at at.low.until why (owes_none xs (side_gives core m.depth (Several xs tys t) c.env) why h)
  parts_comes (answer.Whole z) count h = absurd (not_one _ _ tys h.0 refl)
  parts_comes (answer.Truth b) count h = absurd (not_one _ _ tys h.0 refl)
  parts_comes (answer.At a) count h = absurd (not_one _ _ tys h.2 refl)
  parts_comes (answer.Parts ws) count h = sets_parts ws h.1 h.3 (subst (λ (q : List Ty). PartsAnswer code.laid s q ws h.1) (sym (same_types tys h.0 h.2)) h.4) count

module _ (core : CoreTree) (code : CodeTree) (owed : Owed) (own : Owned) (sh : Share) (s : Store) where
  -- a field's variable is set to the cursor, and an indirection is put there.
  points_at : {sh' : Share} (m : State) (p : Par) {y : Variable} {xt : Ty} {t u : Term} (c : Ctx) (k : Kont) (rs : List OpenRegion) (z b : ℕ) (v : Datum)
      → (at : AtRest core code owed own sh s (record m { regions = rs }) (Meet p (On kind.Here y xt t) u) c k) → StandsAt code.laid s at.fits.0 b v → means core m.depth t c.env ≡ Gives v → Counted rs (plus one_item (left_costs core m.depth p.level (Plain u) ((y.0, v) ∷ c.env) k)) sh' → IsCode core code c.line.within c.scope (z + 1) u (end_of c.line.overs k)
      → Safe core code (left_owed core owed m p k) own sh' s (doing (after_join (record m { regions = rs }) p k z) (Joining y.0 b))
  points_at m p c k [] z b v at st mn count low = absurd (some_region core code s k m.words m.frames c.front (sym (ap no_tree at.line.kind) ∙ due-packed c.dest at.fits.0 at.fits.2) at.line.stack)
  points_at {sh'} m p {y} {xt} {t} {u} c k (r ∷ rs) z b v at st mn count low =
      let open_m = record m { regions = r ∷ rs } in
      let x = at.fits.0 in
      let new = at.fits.3 in
      let left = left_owed core owed m p k in
      let left_cost = left_costs core m.depth p.level (Plain u) ((y.0, v) ∷ c.env) k in
      let here = record (after_join m p k z) { words = set m.words y.0 r.cur; regions = r ∷ rs; doing = Joining y.0 b } in
      let packed : no_tree (due k) ≡ false = sym (ap no_tree at.line.kind) ∙ due-packed c.dest x at.fits.2 in
      let w0 = waits_at core code owed own sh s open_m p c k at {so = Placed x} {after = more c.dest y.0} {z = z + 1} new at.fits.5 low in
      let w1 : Waits core code s (set m.words y.0 r.cur) (z + 1) y.0 (Placed x) (Plain u) (behind_par core t c) (more c.dest y.0) r.cur k = record { line = Paused-moved (moved_set y.0 r.cur (not_there (behind_par core t c).scope y.0 w0.new)) w0.line; fits = w0.fits; asked = w0.asked; new = w0.new; free = w0.free } in
      moves (pointed core code left own sh' s r rs b (heads code.laid c.head c.dest k) left_cost (doing (after_join (record m { regions = r ∷ rs }) p k z) (Joining y.0 b)) here (plus one_item left_cost) (record { regions = omega arith; items = omega arith }) count refl (dec_small at.memory.small st.dec) at.memory
      (λ own' sh2 s' r' a q. rests (at_term {u = Plain u} {c = with_dest (with_line (with_var (behind_par core t c) y.0 (Placed x) v r.cur) (tell_line (behind_par core t c).line.pending (behind_par core t c).line)) (more c.dest y.0)} {k = k} (field_comes core code left own' sh2 {m = record here { ip = z + 1; regions = r' ∷ rs; doing = Ready }} {x = y.0} {t = x} {u = Plain u} {c = behind_par core t c} {k = k} {a = r.cur} v (λ q e. par_tells c.line.within core t q e) (Rattle.gib_weave.proofs.Grow.Waits-grows q.grows w1)
      (both-same m.words y.0 r.cur (at.line.matches.vars.wide y.0 (absent_slot c.scope y.0 new)) at.line.matches.vars.even) at.fits.2
      (turns_dec q.leads (d.indirect q.points (Dec-grows q.grows st.dec) q.end))
      (record {
        ready = refl;
        stack = Stack-turn core code s' k (set m.words y.0 r.cur) m.frames c.front r r' rs q.start packed (line_grows q.grows (line_set y.0 r.cur new at.line)).stack;
        group = group_more code.laid s' c.dest y.0 x [] (r' ∷ rs) at.fits.2;
        memory = heads_less (λ q. let e = covers_more code.laid c.head c.dest y.0 k q in omega (arith, e)) q.memory;
        ties = ties_left core code owed own sh s open_m p c k at;
        owes = comes_to core code owed own sh s open_m p c k at (Gives v) mn;
        counted = q.counted;
        room = (at.room.nests.1, at.room.all_room);
      })))))

  -- by the answer
  answer_comes : {sh' : Share} (m : State) (p : Par) (kd : Kind) {y : Variable} {xt : Ty} {t u : Term} (c : Ctx) (k : Kont) (a : Answer) → (at : AtRest core code owed own sh s m (Meet p (On kd y xt t) u) c k)
      → Counted m.regions (right_costs core m.depth m.level p.level (On kd y xt t) u c.env k (kind_link kd)) sh' → IsAnswer code.laid s (results.One xt) (means core m.depth t c.env) a → Safe core code (left_owed core owed m p k) own sh' s (answered (after_join m p k at.low.until) (kind_of kd) (y.0 ∷ []) a)
  answer_comes m p kd c k (answer.NoValue why) at count h = unwinds_at core code owed own sh s m p c k at at.low.until why h
  answer_comes m p kind.Here {xt = xt} c k (answer.Whole z) at count h = absurd (scalar_packed at.fits.0 xt Whole at.fits.1 (ap one_type h.0) refl)
  answer_comes m p kind.Region {xt = xt} c k (answer.Whole z) at count h = absurd (scalar_packed at.fits.0 xt Whole at.fits.1 (ap one_type h.0) refl)
  answer_comes m p kind.Scalar {xt = xt} c k (answer.Whole z) at count h =
      sets_at core code owed own sh s m p c k at (at.low.until + 1) (Scalar xt) (cast_unsigned w64 z) 0 (whole z) at.fits.1 at.fits.3 refl (subst (λ (q : Ty). IsScalar q (cast_unsigned w64 z) (whole z)) (sym (ap one_type h.0)) (z, refl, h.1, refl)) tt h.2 (free_link (side_came core code owed own sh s m p c k at (whole z) h.2 count)) at.low.next
  answer_comes m p kind.Here {xt = xt} c k (answer.Truth b) at count h = absurd (scalar_packed at.fits.0 xt Truth at.fits.1 (ap one_type h.0) refl)
  answer_comes m p kind.Region {xt = xt} c k (answer.Truth b) at count h = absurd (scalar_packed at.fits.0 xt Truth at.fits.1 (ap one_type h.0) refl)
  answer_comes m p kind.Scalar {xt = xt} c k (answer.Truth b) at count h =
      sets_at core code owed own sh s m p c k at (at.low.until + 1) (Scalar xt) (bit b) 0 (truth b) at.fits.1 at.fits.3 refl (subst (λ (q : Ty). IsScalar q (bit b) (truth b)) (sym (ap one_type h.0)) (b, refl, refl)) tt h.1 (free_link (side_came core code owed own sh s m p c k at (truth b) h.1 count)) at.low.next
  answer_comes m p kind.Here c k (answer.At a) at count h =
      points_at m p c k m.regions at.low.until a h.1 at (subst (λ (i : ℕ). StandsAt code.laid s i a h.1) (Rattle.gib_weave.proofs.Ends.same_tree h.0 at.fits.0 (sym (ap one_type h.2) ∙ at.fits.1)) h.4) h.3 (side_came core code owed own sh s m p c k at h.1 h.3 count) at.low.next
  answer_comes m p kind.Region c k (answer.At a) at count h =
      sets_at core code owed own sh s m p c k at (at.low.until + 1) (Placed at.fits.0) a a h.1 at.fits.2 at.fits.4 refl
      (record { same = refl; stands = subst (λ (i : ℕ). StandsAt code.laid s i a h.1) (Rattle.gib_weave.proofs.Ends.same_tree h.0 at.fits.0 (sym (ap one_type h.2) ∙ at.fits.1)) h.4 }) (record { near = λ q. there; ends = λ q. absurd (omega (arith, q)) }) h.3 (free_link (side_came core code owed own sh s m p c k at h.1 h.3 count)) at.low.next
  answer_comes m p kind.Scalar {xt = xt} c k (answer.At a) at count h = absurd (packed_scalar h.0 xt at.fits.0 (ap one_type h.2))
  answer_comes m p kd {xt = xt} c k (answer.Parts ws) at count h = absurd (not_one xt _ h.0 refl h.2)

module _ (core : CoreTree) (code : CodeTree) (owed : Owed) (own : Owned) (sh : Share) where
  -- by the right side
  side_comes : {sh' : Share} {s : Store} {m : State} {p : Par} (r : Side) {u : Term} {c : Ctx} {k : Kont} (a : Answer) → (at : AtRest core code owed own sh s m (Meet p r u) c k) → Counted m.regions (right_costs core m.depth m.level p.level r u c.env k (link r)) sh'
      → IsAnswer code.laid s (bound_type (bound_of r)) (side_owes core m.depth r c.env) a → Safe core code (left_owed core owed m p k) own sh' s (answered (after_join m p k at.low.until) (side_kind r) (side_slots r) a)
  side_comes {s = s} {m} {p} (On kd y xt t) {c = c} {k = k} a at count h = answer_comes core code owed own sh s m p kd c k a at count h
  side_comes {s = s} {m} {p} (Several xs tys t) {c = c} {k = k} a at count h = parts_comes core code owed own sh s m p c k at a count h

  -- at the join of a `par` whose left side runs here
  pub meets : {s : Store} {m : State} {p : Par} (r : Side) {u : Term} {c : Ctx} {k : Kont} → p.left ≡ true → AtRest core code owed own sh s m (Meet p r u) c k → Meets core code owed own sh s m
  meets {s} {m} {p} r {u} {c} {k} le at =
      let debt : Debt = debt_of core m.depth m.level r c.env in
      let after = left_owed core owed m p k in
      let p' : Par = record p { left = false } in
      let low = at.low in
      let pars : m.pars ≡ p ∷ pars_of k = at.ties.pars in
      let sides : cond p.left (debt ∷ sides_of core m.depth p.level k) (sides_of core m.depth p.level k) ≡ owed.sides = at.ties.sides in
      let left : Counted m.regions (right_costs core m.depth m.level p.level r u c.env k (link r)) sh =
      subst (λ (b : Bool). Counted m.regions (right_costs core m.depth m.level p.level r u c.env k (cond b (link r) (plus (own_side r) (side_costs core m.depth m.level r c.env)))) sh) le at.counted in
      let own_here = own_most core m.depth m.level r c.env in
      let here_counted : Counted m.regions (left_costs core m.depth m.level (Part (within_par c.line.within) r (Leave p' u)) c.env k) (with_side sh debt.most) = record {
        balanced = left.balanced;
        cursors = left.cursors;
        left = record { regions = let a = own_here.regions in let b = left.left.regions in omega (arith, a, b); items = let a = own_here.items in let b = left.left.items in omega (arith, a, b) };
      } in
      record {
        debt = debt;
        others = sides_of core m.depth p.level k;
        sides = sym sides ∙ ap (λ (b : Bool). cond b (debt ∷ sides_of core m.depth p.level k) (sides_of core m.depth p.level k)) le;
        take = subst (λ (q : Doing). Safe core code after own (with_side sh debt.most) s (taken m (Rattle.gib_machine.specs.Sides.unwinding q) m.pars)) (sym at.ready) (subst (λ (q : List Par). Safe core code after own (with_side sh debt.most) s (taken m None q)) (sym pars)
            (rests (at_term {u = Part (within_par c.line.within) r (Leave p' u)} {c = c} {k = k} (right_at core code own {owed = owed} {sh = sh} {sh' = with_side sh debt.most} {s = s} {m = m} {p = p} {r = r} {u = u} {c = c} {k = k} (sides_of core m.depth p.level k) (p' ∷ pars_of k) p' refl refl refl here_counted at))));
        join = λ a done h b. subst (λ (q : Doing). Safe core code after own (with_count sh done) s (joined m (Rattle.gib_machine.specs.Sides.unwinding q) m.pars a)) (sym at.ready) (subst (λ (q : List Par). Safe core code after own (with_count sh done) s (joined m None q a)) (sym pars)
            (subst (λ (q : CodeKind). Safe core code after own (with_count sh done) s (answered (after_join m p k p.back) q p.variables a)) (sym low.kind)
            (subst (λ (q : List ℕ). Safe core code after own (with_count sh done) s (answered (after_join m p k p.back) (side_kind r) q a)) (sym low.variables)
            (subst (λ (q : ℕ). Safe core code after own (with_count sh done) s (answered (after_join m p k q) (side_kind r) (side_slots r) a)) (sym low.label)
            (side_comes r a at (joins_counted m.regions (right_costs core m.depth m.level p.level r u c.env k (link r)) sh done b left) h)))));
      }

-- An unwinding task.

one_of : (ds : List Debt) (n : ℕ) → suc n ≡ length ds → (d : Debt) × (es : List Debt) × (ds ≡ d ∷ es) × (n ≡ length es)
one_of [] n h = absurd cc
one_of (d ∷ es) n h = (d, es, refl, cc)

pub meets_unwinding : (core : CoreTree) (code : CodeTree) (owed : Owed) (own : Owned) (sh : Share) (s : Store) (m : State) → IsUnwinding owed m → Meets core code owed own sh s m
meets_unwinding core code owed own sh s m h =
    let o = one_of owed.sides (lefts h.outer) h.count in
    let after : Owed = record { ty = owed.ty; all = owed.all; sides = o.1 } in
    let safe : (q : Share) → Safe core code after own q s (unwound h.why m h.outer) = λ q. unwound_safe core code after own q h.why s m h.outer h.owes o.3 in
    record {
      debt = o.0;
      others = o.1;
      sides = o.2;
      take = subst (λ (q : Doing). Safe core code after own (with_side sh o.0.most) s (taken m (Rattle.gib_machine.specs.Sides.unwinding q) m.pars)) (sym h.unwinding) (subst (λ (q : List Par). Safe core code after own (with_side sh o.0.most) s (taken m (Some h.why) q)) (sym h.pars) (safe (with_side sh o.0.most)));
      join = λ a done i b. subst (λ (q : Doing). Safe core code after own (with_count sh done) s (joined m (Rattle.gib_machine.specs.Sides.unwinding q) m.pars a)) (sym h.unwinding) (subst (λ (q : List Par). Safe core code after own (with_count sh done) s (joined m (Some h.why) q a)) (sym h.pars) (safe (with_count sh done)));
    }
