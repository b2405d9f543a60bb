-- Each micro-step keeps a task sound.
use Rattle.std.proofs.Common.{[], length, ◌≡◌, ℕ, zero, suc, ◌+◌, ◌-◌, Bool, true, false, List, ◌∷◌, Option, cond, refl, sym, ap, subst, ◌∙◌, arith}
use Rattle.gib_types.specs.declared.table.Ty.{Ty}
use Rattle.gib_types.specs.Table.{scalar_types}
use Rattle.gib_mem.specs.Memory.{Store}
use Rattle.gib_core.specs.declared.atom.Access.TheVariants as by
use Rattle.gib_core.specs.Tree.{Term, Then, Both, One, Side, PartTerms, CoreTree, parts_count, variables_of}
use Rattle.gib_core.specs.Meaning.{bind_side, core_calls}
use Rattle.gib_code.specs.Instruction as i
use Rattle.gib_code.specs.Program.{CodeTree, IsAt, AreAt}
use Rattle.gib_core.specs.Ending.{Within, within_par}
use Rattle.gib_weave.proofs.Cases.{parts}
use Rattle.gib_core.specs.Low as low
use Rattle.gib_core.specs.Low.{Low, LowParts, LowSide, End, To, ToParts, call_ending, ending, giving, giving_parts, operand, operands, scalar_slots, side_kind, side_slots, side_type, Field as StoredField}
use Rattle.gib_machine.specs.State.{State, Ask, Silent, Get, Put, Draw, AtFork, AtJoin, Ended, went}
use Rattle.gib_machine.specs.Machine.{next, goes_on, joins_at, forks_at}
use Rattle.gib_machine.specs.Sides.{left_starts, right_of}
use Rattle.gib_types.specs.Tree.{Datum}
use Rattle.gib_syntax.specs.Meaning.{Outcome, Stops, Gives, with_value}
use Rattle.gib_core.specs.Cost.{Cost, call_costs}
use Rattle.gib_weave.proofs.Costs.{part_costs, line_costs, place_costs, fork_costs}
use Rattle.gib_weave.proofs.Counts.{goes_on_counted, most_then, no_spending, spends_then}
use Rattle.gib_core.specs.Fits.{AtomsFit, InParts, cased, packed_due, side_cased}
use Rattle.gib_weave.specs.Environment.{Ctx}
use Rattle.gib_weave.specs.Continuing.{Rest, Plain, Part, Meet, Leave, Last, Fills, RestCode, AllFollow, IsInBody, Kont, KSeveral, end_of, Agrees, IsCode}
use Rattle.gib_weave.specs.Owing.{debt_of, costs, Owed, Debt, resume, means, side_gives}
use Rattle.gib_weave.specs.Paying.{Share, AtMost, Counted, Spends, with_rest, left_costs, later_costs}
use Rattle.gib_weave.specs.Places.{Owned}
use Rattle.gib_weave.specs.Sound.{counts, AtRest, unwinds, AtTerm, at_term, over, Safe, rests, moves, Moves, silent, get, puts, draws, ended, After}
use Rattle.gib_weave.specs.Starting.{AreBodies}
use Rattle.gib_weave.proofs.Lines.{all_follow, loosened, side_means, line_less}
use Rattle.gib_weave.proofs.Writes.{does_write}
use Rattle.gib_weave.proofs.Opens.{does_here, does_region, does_past}
use Rattle.gib_weave.proofs.Indirects.{does_point}
use Rattle.gib_weave.proofs.Binds.{does_prim, does_give, into_scalar, does_call, does_scalar_call}
use Rattle.gib_weave.proofs.Arms.{does_skip, does_offset, does_if}
use Rattle.gib_weave.proofs.Switches.{does_case}
use Rattle.gib_weave.proofs.Telling.{does_end}
use Rattle.gib_weave.proofs.Uses.{both_is, both_costs}
use Rattle.gib_weave.proofs.Ends.{first_at, rest_at, step_is}
use Rattle.gib_weave.proofs.Forks.{par_at, side_safe, does_leave, does_meet, does_last, or_assoc, ParCode, right_code, par_of}
use Rattle.gib_weave.proofs.Joins.{meets, meets_unwinding}
use Rattle.gib_core.specs.declared.atom.Atom.{Atom}
use Rattle.gib_core.specs.declared.atom.Variable.{Variable}
use Rattle.gib_weave.proofs.Filling.{terms_many}
use Rattle.gib_weave.proofs.Tuples.{does_into, tuple_at}
use Rattle.gib_weave.proofs.Gives.{does_gives, regions_at}
use Rattle.gib_weave.proofs.Severals.{agrees_hold, held_line, several_or}

-- What is next behind a side follows behind several variables.
all_in_turn : (w : Within) (r : Side) (u : Term) (k : Kont) (xs : List Variable) → IsInBody k → AllFollow xs (Part w r (Plain u)) k
all_in_turn w r u k [] h = tt
all_in_turn w r u k (x ∷ xs) h = ((all_follow u k (variables_of r) h, h), all_in_turn w r u k xs h)

with_ext : (o : Outcome) (f g : Datum → Outcome) → ((v : Datum) → f v ≡ g v) → with_value o f ≡ with_value o g
with_ext (Stops why) f g h = refl
with_ext (Gives v) f g h = h v

after_moves : {core : CoreTree} {code : CodeTree} {owed : Owed} {own : Owned} {sh : Share} {s : Store} {m : State} → Moves core code owed own sh s m → After core code owed own sh s m (next code m)
after_moves {core} {code} {owed} {own} {sh} {s} {m} (silent e g) = subst (After core code owed own sh s m) (sym e) (sh, no_spending sh, g)
after_moves {core} {code} {owed} {own} {sh} {s} {m} (get {x = x} e known g) = subst (After core code owed own sh s m) (sym e) (x, known, (sh, no_spending sh, g))
after_moves {core} {code} {owed} {own} {sh} {s} {m} (puts e f g) = subst (After core code owed own sh s m) (sym e) (f, (sh, no_spending sh, g))
after_moves {core} {code} {owed} {own} {sh} {s} {m} (draws sh' e d g) = subst (After core code owed own sh s m) (sym e) (λ c new. (sh' c, d c new, g c new))
after_moves {core} {code} {owed} {own} {sh} {s} {m} (ended e d a) = subst (After core code owed own sh s m) (sym e) (d, a)

-- once something was counted anew
after_counts : (core : CoreTree) (code : CodeTree) (owed : Owed) (own : Owned) (sh sh' : Share) (s : Store) (m : State) (a : Ask) → Spends sh sh' 0 → After core code owed own sh' s m a → After core code owed own sh s m a
after_counts core code owed own sh sh' s m (Silent m') p h = (h.0, spends_then p h.1, h.2)
after_counts core code owed own sh sh' s m (Get a n k) p h = (h.0, h.1, (h.2.0, spends_then p h.2.1, h.2.2))
after_counts core code owed own sh sh' s m (Put a b bs m') p h = (h.0, (h.1.0, spends_then p h.1.1, h.1.2))
after_counts core code owed own sh sh' s m (Draw k) p h = λ c new. ((h c new).0, spends_then p (h c new).1, (h c new).2)
after_counts core code owed own sh sh' s m AtFork p h = (h.0, spends_then p h.1, h.2)
after_counts core code owed own sh sh' s m AtJoin p h = (h.0, spends_then p h.1, h.2)
after_counts core code owed own sh sh' s m (Ended a) p h = h

module _ (core : CoreTree) (code : CodeTree) (owed : Owed) (own : Owned) (sh : Share) where
  -- the level left decides whether the `par` forks
  forks_or : (f rm : ℕ) (m : State) {s : Store} {c : Ctx} {k : Kont} {j z : ℕ} (l right : Side) (u : Term) → IsAt code m.ip (i.Fork (j + 1) (z + 1) (side_kind right) (side_slots right) (side_type right)) → ParCode core code l right u c k m.ip j z
      → AtTerm core code owed own sh s (record m { room = suc rm }) (Then (Both true l right) u) c k → m.level ≡ f
      → After core code owed own sh s (record m { room = suc rm }) (forks_at (record m { room = suc rm }) (j + 1) (z + 1) (side_kind right) (side_slots right) f)
  forks_or zero rm m {s} {c} {k} {j} {z} l right u ef pc at e =
      let p = par_of false m.level j z right in
      let before : Counted m.regions (left_costs core m.depth 0 (Plain (Then (Both true l right) u)) c.env k) sh = subst (λ (q : ℕ). Counted m.regions (left_costs core m.depth q (Plain (Then (Both true l right) u)) c.env k) sh) e at.counted in
      let counted : Counted m.regions (left_costs core m.depth 0 (Part (within_par c.line.within) l (Meet p right u)) c.env k) sh = goes_on_counted (place_costs (within_par c.line.within) core m.depth p l right u c.env (λ n o. later_costs core m.depth n k o) at.fits.0 refl e) before in
      (sh, no_spending sh, rests (at_term {u = Part (within_par c.line.within) l (Meet p right u)} {c = c} {k = k} (par_at core code own right u m false 0 rm pc counted at)))
  forks_or (suc f) rm m {s} {c} {k} {j} {z} l right u ef pc at e =
      let here = record m { room = suc rm } in
      let p = par_of true m.level j z right in
      let below = m.level - 1 in
      let up : m.level ≡ suc below = omega (arith, e) in
      let debt : Debt = debt_of core m.depth below right c.env in
      let forked : Owed = record { ty = owed.ty; all = owed.all; sides = debt ∷ owed.sides } in
      let rest : Cost = left_costs core m.depth below (Part (within_par c.line.within) l (Meet p right u)) c.env k in
      let before : Counted m.regions (left_costs core m.depth (suc below) (Plain (Then (Both true l right) u)) c.env k) sh = subst (λ (q : ℕ). Counted m.regions (left_costs core m.depth q (Plain (Then (Both true l right) u)) c.env k) sh) up at.counted in
      let counted : Counted m.regions rest (with_rest sh rest) = record { balanced = before.balanced; cursors = before.cursors; left = record { regions = omega arith; items = omega arith } } in (
        sh,
        no_spending sh,
        record {
          room = omega arith;
          debt = debt;
          rest = rest;
          pays = most_then (fork_costs (within_par c.line.within) core m.depth below p l right u c.env (λ n o. later_costs core m.depth n k o) at.fits.0 refl up) before.left;
          left = subst (λ (q : Option i.Instruction). Safe core code forked own (with_rest sh rest) s (left_starts here q)) (sym ef)
              (rests (at_term {u = Part (within_par c.line.within) l (Meet p right u)} {c = c} {k = k} (par_at core code own right u m true below rm pc counted at)));
          right = subst (λ (q : Option i.Instruction). Rattle.gib_weave.specs.Sound.SideSafe core code debt s (right_of here q)) (sym ef)
              (side_safe core code m.depth below right (right_code core code pc) at.line.matches.vars (let h = at.room.narrow in omega (arith, h)) at.fits.1);
        },
      )

  -- by the room that is left
  by_room : (rm : ℕ) (m : State) {s : Store} {c : Ctx} {k : Kont} {j z : ℕ} (l right : Side) (u : Term) → IsAt code m.ip (i.Fork (j + 1) (z + 1) (side_kind right) (side_slots right) (side_type right)) → ParCode core code l right u c k m.ip j z
      → AtTerm core code owed own sh s (record m { room = rm }) (Then (Both true l right) u) c k → After core code owed own sh s (record m { room = rm }) (forks_at (record m { room = rm }) (j + 1) (z + 1) (side_kind right) (side_slots right) m.level)
  by_room zero m l right u ef pc at = absurd (let h = at.room.nests in omega (arith, h))
  by_room (suc rm) m l right u ef pc at = forks_or m.level rm m l right u ef pc at refl

module _ (core : CoreTree) (code : CodeTree) (ok : AreBodies core code) (owed : Owed) (own : Owned) (sh : Share) where
  code_is : {stored : List StoredField} {at until : ℕ} {t : Term} {e : End} (c : Ctx) (k : Kont) → end_of c.line.overs k ≡ e → Agrees stored c.scope → Low core code c.line.within stored at t e until → IsCode core code c.line.within c.scope at t (end_of c.line.overs k)
  code_is {stored} {at} {until} {t} c k q ag l = record { fields = stored; until = until; low = subst (λ (z : End). Low core code c.line.within stored at t z until) (sym q) l; agree = ag }

  -- two sides one after the other are a line of two parts
  in_turn_at : {s : Store} {m : State} {l r : Side} {u : Term} {c : Ctx} {k : Kont} {j z : ℕ} {stored : List StoredField} → LowSide core code (within_par c.line.within) stored m.ip l j → LowSide core code (within_par c.line.within) stored j r z → Agrees stored c.scope → IsCode core code c.line.within c.scope z u (end_of c.line.overs k)
      → AtTerm core code owed own sh s m (Then (Both false l r) u) c k → AtRest core code owed own sh s m (Part (within_par c.line.within) l (Part (within_par c.line.within) r (Plain u))) c k
  in_turn_at {m = m} {l = l} {r = r} {u = u} {c = c} {k = k} {j = j} {z = z} {stored = stored} ll lr ag lu at = record {
    ready = at.ready;
    group = at.group;
    low = (stored, j, ll, ag, (stored, z, lr, ag, lu));
    fits = at.fits.1;
    line = line_less (λ y h. or_assoc (side_cased l y) (side_cased r y) (cased u y) h) at.line;
    memory = at.memory;
    ties = at.ties;
    owes = sym (ap (resume core m.depth k) (side_means core m.depth l (Then (One r) u) c.env ∙ with_ext (side_gives core m.depth l c.env) _ _ (λ v. side_means core m.depth r u (bind_side l v c.env)))) ∙ sym (ap (resume core m.depth k) (both_is core.table (core_calls core m.depth) false l r u c.env at.fits.0)) ∙ at.owes;
    counted = goes_on_counted (part_costs (within_par c.line.within) core m.depth m.level l (Part (within_par c.line.within) r (Plain u)) (Plain (Then (One r) u)) c.env go (λ v. line_costs (within_par c.line.within) core m.depth m.level r u (bind_side l v c.env) go)) (goes_on_counted (line_costs (within_par c.line.within) core m.depth m.level l (Then (One r) u) c.env go) (goes_on_counted (cheap (both_costs core.table (core_calls core m.depth) (call_costs core m.depth) m.level l r u c.env at.fits.0)) at.counted));
    room = record {
      free = (all_in_turn (within_par c.line.within) r u k (variables_of l) at.room.free, (all_follow u k (variables_of r) at.room.free, at.room.free));
      narrow = let h = at.room.narrow in omega (arith, h);
      nests = (let h = at.room.nests in omega (arith, h), (let h = at.room.nests in omega (arith, h), let h = at.room.nests in omega (arith, h)));
      all_room = at.room.all_room;
    };
  }
    where
      go : ℕ → Outcome → Cost
      go n o = later_costs core m.depth n k o

      after : Outcome → Cost
      after o = later_costs core m.depth m.level k o

      same : after (means core m.depth (Then (Both false l r) u) c.env) ≡ after (means core m.depth (Then (One l) (Then (One r) u)) c.env)
      same = ap after (both_is core.table (core_calls core m.depth) false l r u c.env at.fits.0)

      cheap : AtMost (costs core m.depth m.level (Then (One l) (Then (One r) u)) c.env) (costs core m.depth m.level (Then (Both false l r) u) c.env)
          → AtMost (left_costs core m.depth m.level (Plain (Then (One l) (Then (One r) u))) c.env k) (left_costs core m.depth m.level (Plain (Then (Both false l r) u)) c.env k)
      cheap h =
          let r = ap (λ (x : Cost). x.regions) same in
          let i = ap (λ (x : Cost). x.items) same in
          record { regions = let g = h.regions in omega (arith, r, g); items = let g = h.items in omega (arith, i, g) }

  -- a binding, and the term behind it
  part_at : {s : Store} {m : State} {side : Side} {u : Term} {c : Ctx} {k : Kont} {j : ℕ} {stored : List StoredField} → LowSide core code c.line.within stored m.ip side j → Agrees stored c.scope → IsCode core code c.line.within c.scope j u (end_of c.line.overs k)
      → AtTerm core code owed own sh s m (Then (One side) u) c k → AtRest core code owed own sh s m (Part c.line.within side (Plain u)) c k
  part_at {m = m} {side = side} {u = u} {c = c} {k = k} {j = j} {stored = stored} ls ag lu at = record {
    ready = at.ready;
    group = at.group;
    low = (stored, j, ls, ag, lu);
    fits = at.fits;
    line = at.line;
    memory = at.memory;
    ties = at.ties;
    owes = sym (ap (resume core m.depth k) (side_means core m.depth side u c.env)) ∙ at.owes;
    counted = goes_on_counted (line_costs c.line.within core m.depth m.level side u c.env (λ n o. later_costs core m.depth n k o)) at.counted;
    room = record { free = (all_follow u k (variables_of side) at.room.free, at.room.free); narrow = at.room.narrow; nests = (let h = at.room.nests in omega (arith, h), let h = at.room.nests in omega (arith, h)); all_room = at.room.all_room };
  }

  -- by the next packed part
  by_parts : (s : Store) (m : State) (stored : List StoredField) (behind until n : ℕ) (tys : List Ty) (ss : List Atom) (vs : List Datum) (ps : PartTerms) (c : Ctx) (k : Kont) (many : ℕ) → many ≡ length (packed_due tys) → LowParts core code c.line.within stored m.ip n many ps behind
      → AreAt code behind (giving_parts (operands ss) (end_of c.line.overs k)) until → Agrees stored c.scope → AtRest core code owed own sh s m (Fills n tys ss vs ps) c k → After core code owed own sh s m (next code m)
  by_parts s m stored _ until n tys ss vs _ c k many e low.no_part g ag at = after_moves (does_gives core code owed own sh k m.frames m n tys ss vs until g at)
  by_parts s m stored behind until n tys ss vs _ c k many e (low.part {m = l} {u = u} {ps = ps} into lu out lp) g ag at =
      after_moves (does_into core code owed own sh n tys ss vs u ps l (subst (λ (q : ℕ). IsAt code m.ip (i.Into n q)) e into) (record { fields = stored; until = l; low = lu; agree = ag }) (subst (λ (q : ℕ). IsAt code l (i.Out n q)) e out)
      (record { fields = stored; behind = behind; parts = subst (λ (q : ℕ). LowParts core code c.line.within stored (l + 1) (suc n) q ps behind) e lp; until = until; gives = g; agree = ag }) at)

  mutual
    -- by the running term
    by_term : (s : Store) (m : State) (stored : List StoredField) (until : ℕ) (t : Term) (e : End) (c : Ctx) (k : Kont) → Low core code c.line.within stored m.ip t e until → end_of c.line.overs k ≡ e → Agrees stored c.scope
        → AtTerm core code owed own sh s m t c k → After core code owed own sh s m (next code m)
    by_term s m stored until _ e c k (low.write {h = h} {c = con} {ss = ss} {ps = ps} ar) q ag at = after_moves (does_write core code owed own sh ok h con ss ps until (first_at ar) (subst (λ (z : End). AreAt code (m.ip + 1) (ending z) until) (sym q) (rest_at ar)) at)
    by_term s m stored until _ e c k (low.point {x = x} ar) q ag at = after_moves (does_point core code owed own sh m.regions m x until (first_at ar) (subst (λ (z : End). AreAt code (m.ip + 1) (ending z) until) (sym q) (rest_at ar)) at)
    by_term s m stored until _ e c k (low.call {f = f} {xs = xs} ar) q ag at =
        let g = parts (m.ip + 1) (low.gots c.line.within core f.0 xs) (call_ending e) until (rest_at ar) in
        after_moves (does_call core code ok owed own sh m.depth m f xs g.middle until (first_at ar) g.left (subst (λ (z : End). AreAt code g.middle (call_ending z) until) (sym q) g.right) at)
    by_term s m stored until _ e c k (low.give {x = x} ar) q ag at = after_moves (does_give core code owed own sh k m.frames m x until (subst (λ (z : End). AreAt code m.ip (giving (operand x) z) until) (sym q) ar) at)
    by_term s m stored until _ e c k (low.tuple {m = j} {tys = tys} {ss = ss} {ps = ps} lp g) q ag at =
        let many = terms_many core c.line.within ps (packed_due tys) c.scope (λ sc. AtomsFit sc ss (scalar_types tys)) at.fits.1 in
        let gives = subst (λ (z : End). AreAt code j (giving_parts (operands ss) z) until) (sym q) g in
        by_parts s m stored j until 0 tys ss [] ps c k (parts_count ps) many lp gives ag
        (tuple_at core code owed own sh tys ss ps (record { fields = stored; behind = j; parts = subst (λ (n : ℕ). LowParts core code c.line.within stored m.ip 0 n ps j) many lp; until = until; gives = gives; agree = ag }) at)
    by_term s m stored until _ e c k (low.branch {l = l} {x = x} {u = u} {v = v} j lu lv) q ag at = after_moves (does_if core code owed own sh l x u v j (code_is c k q ag lu) (code_is c k q ag lv) at)
    by_term s m stored until _ e c k (low.case {x = x} {bs = bs} {arms = arms} j la) q ag at = after_moves (does_case core code ok owed own sh until x bs arms stored ag j (subst (λ (z : End). low.LowArms core code c.line.within stored (low.slot_of x) (m.ip + 1) arms bs z until) (sym q) la) at)
    by_term s m stored until _ e c k (low.binding {u = u} (low.past {h = h} {c = con} j) lu) q ag at = after_moves (does_past core code ok owed own sh m.regions m h con u j (code_is c k q ag lu) at)
    by_term s m stored until _ e c k (low.binding {u = u} (low.one {s = side} ls) lu) q ag at = by_side s m stored _ c.line.within side (Plain u) c k ls ag (code_is c k q ag lu) (part_at ls ag (code_is c k q ag lu) at)
    by_term s m stored until _ e c k (low.binding {u = u} (low.in_turn {l = l} {r = r} ll lr) lu) q ag at =
        by_side s m stored _ (within_par c.line.within) l (Part (within_par c.line.within) r (Plain u)) c k ll ag (stored, _, lr, ag, code_is c k q ag lu)
        (in_turn_at ll lr ag (code_is c k q ag lu) at)
    by_term s m stored until _ e c k (low.binding {u = u} (low.forked {m = j} {z = z} {l = l} {r = r} a b d f g) lu) q ag at =
        subst (After core code owed own sh s m) (sym (step_is code m (i.Fork (j + 1) (z + 1) (side_kind r) (side_slots r) (side_type r)) at.ready a))
        (by_room core code owed own sh m.room m l r u a (record { stored = stored; left = b; join = d; right = f; back = g; next = code_is c k q ag lu; agree = ag }) at)
    by_term s m stored until _ e c k (low.binding {u = u} (low.prim {x = x} {f = f} {y = y} {v = w} j) lu) q ag at = after_moves (does_prim core code owed own sh x f y w u j (code_is c k q ag lu) at)
    by_term s m stored until _ e c k (low.binding {u = u} (low.reach {y = y} {access = by.Offset} j) lu) q ag at = after_moves (does_offset core code ok owed own sh y u stored ag j (code_is c k q ag lu) at)
    by_term s m stored until _ e c k (low.binding {u = u} (low.reach {y = y} {access = by.Skip z} j) lu) q ag at = after_moves (does_skip core code ok owed own sh y z u j (code_is c k q ag lu) at)
    by_term s m stored until _ e c k (low.binding {u = u} (low.reach {y = y} {access = by.End z} j) lu) q ag at = after_moves (does_end core code owed own sh y z u j (code_is c k q ag lu) at)

    -- by the running part of a line
    by_side : (s : Store) (m : State) (stored : List StoredField) (l : ℕ) (wi : Within) (side : Side) (u : Rest) (c : Ctx) (k : Kont) → LowSide core code wi stored m.ip side l → Agrees stored c.scope → RestCode core code c.line.within c.scope l u (end_of c.line.overs k)
        → AtRest core code owed own sh s m (Part wi side u) c k → After core code owed own sh s m (next code m)
    by_side s m stored l wi _ u c k (low.here {x = x} {ty = xt} {u = t} j lt) ag lu at =
        after_moves (does_here core code owed own sh x xt l wi t j (record { fields = stored; until = l; low = lt; agree = ag }) lu at)
    by_side s m stored _ wi _ u c k (low.region {z = z} {x = x} {ty = xt} {u = t} j lt dn) ag lu at =
        after_moves (does_region core code owed own sh x xt z wi t m.room m j (record { fields = stored; until = z; low = lt; agree = ag }) dn lu at)
    by_side s m stored _ wi _ u c k (low.scalar_call {z = z} {x = x} {ty = xt} {f = f} {xs = xs} ar) ag lu at =
        after_moves (does_scalar_call core code ok owed own sh m.depth m x xt wi f xs z (first_at ar) (rest_at ar) lu at)
    by_side s m stored l wi _ u c k (low.scalar {x = x} {ty = xt} {u = t} nc lt) ag lu at =
        by_term s m stored l t (To l x.0) _ _ lt refl ag (into_scalar core code owed own sh x xt l wi t nc (record { fields = stored; until = l; low = lt; agree = ag }) lu at)
    by_side s m stored _ wi _ u c k (low.several {b = b} {l = l} {z = z} {xs = xs} {tys = tys} {u = t} begin lt done) ag lu at =
        several_or core code owed own sh xs tys t wi b l z (λ (w : State). After core code owed own sh s w (next code w)) begin (record { fields = stored; until = l; low = lt; agree = ag }) done lu at after_moves
        (λ at'. by_term s (regions_at m m.room b m.words m.regions m.tails) stored l t (ToParts l (scalar_slots tys xs)) (held_line wi c xs (InParts tys)) (KSeveral l xs tys u (loosened (cased t) c) k) lt refl (agrees_hold stored xs c.scope ag) at')

  -- by what is next in the line
  by_rest : (u : Rest) {s : Store} {m : State} {c : Ctx} {k : Kont} → AtRest core code owed own sh s m u c k → After core code owed own sh s m (next code m)
  by_rest (Plain t) {s} {m} {c} {k} at = by_term s m at.low.fields at.low.until t (end_of c.line.overs k) c k at.low.low refl at.low.agree at
  by_rest (Part wi side r) {s} {m} {c} {k} at = by_side s m at.low.0 at.low.1 wi side r c k at.low.2 at.low.3 at.low.4 at
  by_rest (Meet p r u) {s} {m} at = go p.left refl
    where
      go : (b : Bool) → p.left ≡ b → After core code owed own sh s m (next code m)
      go false e = after_moves (does_meet core code owed own sh e at)
      go true e =
          subst (After core code owed own sh s m) (sym (step_is code m i.Join at.ready at.low.join ∙ ap (joins_at m) at.ties.pars ∙ ap (λ (b : Bool). cond b AtJoin (Silent (went m))) e))
          (sh, no_spending sh, meets core code owed own sh r e at)
  by_rest (Leave p u) at = after_moves (does_leave core code owed own sh at)
  by_rest (Last b) at = after_moves (does_last core code owed own sh at)
  by_rest (Fills i tys ss vs ps) {s} {m} {c} {k} at = by_parts s m at.low.fields at.low.behind at.low.until i tys ss vs ps c k (length (packed_due tys)) refl at.low.parts at.low.gives at.low.agree at

module _ (core : CoreTree) (code : CodeTree) (ok : AreBodies core code) (owed : Owed) (own : Owned) where
  pub step_keeps : {sh : Share} {s : Store} {m : State} → Safe core code owed own sh s m → After core code owed own sh s m (next code m)
  step_keeps (moves h) = after_moves h
  step_keeps {sh} {s} {m} (counts {sh' = sh'} p h) = after_counts core code owed own sh sh' s m (next code m) p (step_keeps h)
  step_keeps {sh} {s} {m} (rests (over {a = a} e d h)) = after_moves {core = core} {code = code} {owed = owed} {own = own} {sh = sh} {s = s} {m = m} (ended {a = a} (ap (goes_on code m) e) d h)
  step_keeps {sh} {s} {m} (rests (unwinds h)) = subst (After core code owed own sh s m) (sym (ap (goes_on code m) h.unwinding)) (sh, no_spending sh, meets_unwinding core code owed own sh s m h)
  step_keeps {sh} (rests (at_term {u = u} at)) = by_rest core code ok owed own sh u at
