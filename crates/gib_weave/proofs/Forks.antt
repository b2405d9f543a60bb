-- Forks, joins, and sides that other tasks run.
use Rattle.std.proofs.Common.{◌≡◌, ℕ, suc, ◌+◌, ◌*◌, ◌≤◌, Bool, true, false, ◌||◌, List, [], ◌∷◌, cond, map, refl, sym, ap, subst, ◌∙◌, arith, ◌-◌}
use Rattle.std.proofs.lemmas.Bool.{false≢true}
use Rattle.gib_types.specs.declared.table.Ty.{Ty}
use Rattle.gib_types.specs.declared.table.Ty.TheVariants.{Whole, Truth, Tree}
use Rattle.gib_types.specs.Tree.{Datum}
use Rattle.gib_syntax.specs.Meaning.{is_scalar, value_in, Environment, Outcome, Gives, Stops, parts, tuple, with_value}
use Rattle.gib_syntax.specs.Results as results
use Rattle.gib_syntax.specs.Results.{Results}
use Rattle.gib_code.specs.declared.answer.Answer.TheVariants as answer
use Rattle.gib_code.specs.declared.instruction.AnswerType.{AnswerType}
use Rattle.gib_code.specs.declared.instruction.AnswerType.TheVariants as of
use Rattle.gib_mem.specs.Memory.{Store, open_chunk, Grows}
use Rattle.gib_region.specs.Region.{rest}
use Rattle.gib_packed.specs.Decoding.{Dec}
use Rattle.gib_core.specs.declared.atom.Variable.{Variable}
use Rattle.gib_core.specs.declared.atom.Kind.TheVariants as kind
use Rattle.gib_core.specs.Reaching.{side_uses}
use Rattle.gib_core.specs.Tree.{Term, Then, Both, Side, On, Several, CoreTree, variables_of}
use Rattle.gib_core.specs.Meaning.{bind, bind_side, core_calls, from_there, having, Went}
use Rattle.std.specs.List.{AllByRecursion}
use Rattle.gib_code.specs.declared.instruction.Kind.TheVariants as at
use Rattle.gib_code.specs.Instruction.{Here, Join, Back}
use Rattle.gib_code.specs.Program.{CodeTree, IsAt}
use Rattle.gib_core.specs.Low as low
use Rattle.gib_core.specs.Low.{Low, LowSide, To, side_kind, side_slots, side_type, answer_type, Field as StoredField}
use Rattle.gib_machine.specs.State.{times, nesting, widest, Slots, slot, set, State, Par, Silent, AtJoin, cursor, eight, Ready, went}
use Rattle.gib_machine.specs.Machine.{joins_at, backs_at, ends_side, ends_with, next, answer_of}
use Rattle.gib_machine.specs.Sides.{side_start}
use Rattle.gib_weave.specs.EndWords.{WithEnd, both, HasEnd}
use Rattle.gib_core.specs.Cost.{Cost, nothing, own_side, plus, one_region}
use Rattle.gib_weave.proofs.Counts.{Paid, most_then, chunk_counted}
use Rattle.gib_core.specs.Ending.{Within, within_par}
use Rattle.gib_core.specs.Tree as term
use Rattle.gib_weave.proofs.Move.{with_line, HasAll-line, Matches-line, IsDest-line}
use Rattle.gib_core.specs.Fits.{AreApart, param_sort, AtEnd, Line as FitsLine, new_line, none_of, tell_line, side_tells, AloneFits, SideFits, Sort, Scalar, Held, Placed, Scope, Dest, Nowhere, Empty, more, IsDue, cased, side_cased, loosen, Fits}
use Rattle.gib_weave.specs.Environment.{Ctx, IsPlaced, StandsAt, Has, HasAll, Matches}
use Rattle.gib_weave.specs.Continuing.{Rest, Plain, Part, Meet, Leave, Last, KSide, KLast, pars_of, side_of, RestFits, AllFollow, IsInBody, Kont, end_of, needs_of, due, root, nest, side_nest, Agrees, IsCode}
use Rattle.gib_weave.specs.Bound.{Bound, IsBound, Single, Multiple, bound_of, bound_slots, bound_type, bound_value, values_for, values_of}
use Rattle.gib_weave.specs.Owing.{side_owes, debt_of, no_debt, link, costs, side_costs, task_costs, Owed, sides_of, rest_means, side_gives, Debt, means, resume}
use Rattle.gib_weave.specs.Paying.{Share, AtMost, Counted, new_share, cost_after, left_costs, later_costs}
use Rattle.gib_weave.specs.Places.{within, Owned, IsSmall, Apart}
use Rattle.gib_weave.specs.Stacks.{Waits}
use Rattle.gib_weave.specs.Sound.{AtRest, SideSafe, AtTerm, IsAnswer, at_term, over, Safe, rests, moves, Moves, silent, draws}
use Rattle.gib_weave.proofs.Basics.{put-same, set-same}
use Rattle.gib_weave.proofs.Move.{with_var, with_dest, HasAll-set, HasAll-dest, keeps_dest, IsDest-more, absent_slot, bound-same}
use Rattle.gib_weave.proofs.Sorts.{is_field, code_put}
use Rattle.gib_weave.proofs.Places.{Apart-less, Apart-open, open-grows, open-small}
use Rattle.gib_weave.proofs.Lines.{holding, own_line, HasAll-hold, HasAll-own, from_having, line_less}
use Rattle.gib_weave.proofs.SideParts.{are_bound, eight_answer, values_bound, words_of, side_words}
use Rattle.gib_weave.proofs.Uses.{side_apart}
use Rattle.gib_weave.proofs.Binds.{Matches-bind}
use Rattle.gib_weave.proofs.CallFrames.{scalar_answer}
use Rattle.gib_weave.proofs.Ends.{held_end, step_is, silently, Resumes, comes}
use Rattle.gib_core.proofs.TypesKnown.{dest_more}

pub or_assoc : (a b c : Bool) → (a || (b || c)) ≡ true → ((a || b) || c) ≡ true
or_assoc true b c e = refl
or_assoc false b c e = e

-- The right side of a `par` follows behind the variables of its left one.
several_follow : (r : Side) (p : Par) (u : Term) (k : Kont) (xs : List Variable) → AllByRecursion (λ (x : Variable). side_uses r x ≡ false) xs → IsInBody k → AllFollow xs (Meet p r u) k
several_follow r p u k [] e b = tt
several_follow r p u k (x ∷ xs) e b = ((e.0, b), several_follow r p u k xs e.1 b)

apart_follows : (l r : Side) (p : Par) (u : Term) (k : Kont) → AreApart l r → IsInBody k → AllFollow (variables_of l) (Meet p r u) k
apart_follows (On kd x ty t) r p u k e b = ((e, b), tt)
apart_follows (Several xs tys t) r p u k e b = several_follow r p u k xs e b

-- What a `par` means: its left side, then its right side, then the term behind it.
par_means : (wi : Within) (core : CoreTree) (n : ℕ) (p : Par) (l r : Side) (u : Term) (env : Environment) → AreApart l r → means core n (Then (Both true l r) u) env ≡ rest_means core n (Part wi l (Meet p r u)) env
par_means wi core n p l r u env e = of (side_gives core n l env)
  where
    of : (o : Outcome) → from_there (having o (λ v. having (side_gives core n r env) (λ w. Went (bind_side r w (bind_side l v env))))) (λ q. means core n u q)
        ≡ with_value o (λ v. with_value (side_gives core n r (bind_side l v env)) (λ w. means core n u (bind_side r w (bind_side l v env))))
    of (Stops why) = refl
    of (Gives v) =
        from_having r (bind_side l v env) (side_gives core n r env) (λ q. means core n u q)
        ∙ ap (λ (o : Outcome). with_value o (λ w. means core n u (bind_side r w (bind_side l v env)))) (side_apart core.table (core_calls core n) r l v env e)

module _ (core : CoreTree) (code : CodeTree) where
  -- the code of a marked `par` and of the term behind it
  pub record ParCode (l r : Side) (u : Term) (c : Ctx) (k : Kont) (ip j z : ℕ) : Type 0 where
    pub stored : List StoredField
    pub left : LowSide core code (within_par c.line.within) stored (ip + 1) l j
    pub join : IsAt code j Join
    pub right : LowSide core code (within_par c.line.within) stored (j + 1) r z
    pub back : IsAt code z Back
    pub next : IsCode core code c.line.within c.scope (z + 1) u (end_of c.line.overs k)
    pub agree : Agrees stored c.scope

-- The `par` that a fork leaves: its left side runs here as the left one of two tasks, or in place.
abbrev pub par_of : Bool → (level j z : ℕ) → Side → Par
par_of left level j z r = record { left = left; join = (j + 1) - 1; back = (z + 1) - 1; kind = side_kind r; variables = side_slots r; level = level }

-- What is owed then.
abbrev pub owed_at : CoreTree → Owed → Bool → (d n : ℕ) → Side → Environment → Owed
owed_at core owed left d n r env = record { ty = owed.ty; all = owed.all; sides = cond left (debt_of core d n r env ∷ owed.sides) owed.sides }

module _ (core : CoreTree) (code : CodeTree) (own : Owned) (r : Side) (u : Term) where
  -- behind the fork the left side is next, then the join
  pub par_at : (m : State) {owed : Owed} {sh sh' : Share} {s : Store} {l : Side} {c : Ctx} {k : Kont} {j z : ℕ} (left : Bool) (level rm : ℕ) → ParCode core code l r u c k m.ip j z
      → Counted m.regions (left_costs core m.depth level (Part (within_par c.line.within) l (Meet (par_of left m.level j z r) r u)) c.env k) sh'
      → AtTerm core code owed own sh s (record m { room = suc rm }) (Then (Both true l r) u) c k
      → AtRest core code (owed_at core owed left m.depth level r c.env) own sh' s (record m { ip = m.ip + 1; room = rm; level = level; pars = par_of left m.level j z r ∷ m.pars; doing = Ready }) (Part (within_par c.line.within) l (Meet (par_of left m.level j z r) r u)) c k
  par_at m {l = l} {c = c} {k = k} {j = j} {z = z} left level rm pc counted at =
      let p = par_of left m.level j z r in record {
        ready = refl;
        group = at.group;
        low = (pc.stored, j, pc.left, pc.agree, record { fields = pc.stored; until = z; join = pc.join; side = pc.right; back = pc.back; next = pc.next; agree = pc.agree; label = omega arith; kind = refl; variables = refl });
        fits = at.fits.2;
        line = line_less (λ y h. or_assoc (side_cased l y) (side_cased r y) (cased u y) h) at.line;
        memory = at.memory;
        ties = record { sides = ap (λ (ds : List Debt). cond left (debt_of core m.depth level r c.env ∷ ds) ds) at.ties.sides; pars = ap (λ (q : List Par). p ∷ q) at.ties.pars; side = at.ties.side; result = at.ties.result; type = at.ties.type };
        owes = sym (ap (resume core m.depth k) (par_means (within_par c.line.within) core m.depth p l r u c.env at.fits.0)) ∙ at.owes;
        counted = counted;
        room = record {
          free = (apart_follows l r p u k at.fits.0 at.room.free, at.room.free);
          narrow = let h = at.room.narrow in omega (arith, h);
          nests = (let h = at.room.nests in omega (arith, h), (let h = at.room.nests in omega (arith, h), let h = at.room.nests in omega (arith, h)));
          all_room = at.room.all_room;
        };
      }

-- A right side that another task begins.

scalar_sort : (xt : Ty) → is_scalar xt ≡ true → Scalar xt ≡ param_sort xt
scalar_sort Whole h = refl
scalar_sort Truth h = refl
scalar_sort (Tree t) h = absurd cc

-- what a side owes is the value of what it binds
last_means : (core : CoreTree) (w : Within) (n : ℕ) (r : Side) (env : Environment) (sc : Scope) → AloneFits core w r sc → with_value (side_gives core n r env) (λ v. Gives (bound_value (bind_side r v env) (bound_of r))) ≡ side_owes core n r env
last_means core w n (On kd y ty t) env sc fit = of (means core n t env)
  where
    of : (o : Outcome) → with_value o (λ v. Gives (value_in ((y.0, v) ∷ env) y.0)) ≡ o
    of (Stops why) = refl
    of (Gives v) = ap Gives (bound-same env y.0 v)
last_means core w n (Several ys tys t) env sc fit = of (means core n t env)
  where
    of : (o : Outcome) → with_value o (λ v. Gives (tuple (values_of (bind ys (parts v) env) ys))) ≡ with_value o (λ v. Gives (tuple (values_for ys (parts v))))
    of (Stops why) = refl
    of (Gives v) = ap (λ (vs : List Datum). Gives (tuple vs)) (values_bound sc tys ys (parts v) env fit.1)

nothing_owned : (s : Store) → Apart (λ q. 0) s (λ q. 0)
nothing_owned s = record { mine = λ q. omega arith; once = λ q. omega arith; fresh = λ q h. absurd (omega (arith, h)) }

-- what a side may cost as a task is enough for what it costs here
pub own_most : (core : CoreTree) (d n : ℕ) (s : Side) (env : Environment) → AtMost (plus (own_side s) (side_costs core d n s env)) (task_costs core d n s env)
own_most core d n (On kind.Here y ty t) env = record { regions = omega arith; items = omega arith }
own_most core d n (On kind.Region y ty t) env = record { regions = omega arith; items = omega arith }
own_most core d n (On kind.Scalar y ty t) env = record { regions = omega arith; items = omega arith }
own_most core d n (Several ys tys t) env = record { regions = omega arith; items = omega arith }

nothing_more : (a : Cost) (o : Outcome) → AtMost (plus a (cost_after o (λ v. nothing))) a
nothing_more a (Gives v) = record { regions = omega arith; items = omega arith }
nothing_more a (Stops why) = record { regions = omega arith; items = omega arith }

-- a side that is not begun has all that it may cost left
new_counted : (left most : Cost) → AtMost left most → Counted [] left (new_share most)
new_counted left most h = record { balanced = omega arith; cursors = refl; left = h }

module _ (core : CoreTree) (code : CodeTree) where
  -- the code of a side, and the end of its `par`
  pub record SideCode (wi : Within) (a z : ℕ) (stored : List StoredField) (r : Side) (c : Ctx) : Type 0 where
    pub low : LowSide core code wi stored a r z
    pub back : IsAt code z Back
    pub agree : Agrees stored c.scope

  pub right_code : {l r : Side} {u : Term} {c : Ctx} {k : Kont} {ip j z : ℕ} (pc : ParCode core code l r u c k ip j z) → SideCode (within_par c.line.within) (j + 1) z pc.stored r c
  right_code pc = record { low = pc.right; back = pc.back; agree = pc.agree }

  -- a task that begins with a side
  abbrev side_at : Side → (n lv rm a : ℕ) → Slots → State
  side_at r n lv rm a sl = record { ip = a; words = sl; frames = []; gave = []; depth = n; level = lv; pars = []; side = side_slots r; regions = []; tails = []; room = rm; width = widest code.functions; result = side_type r; parts = eight []; doing = Ready }

-- What a side binds has its slots and its type, and nothing follows behind it.
slots_bound : (r : Side) → side_slots r ≡ bound_slots (bound_of r)
slots_bound (On kd y ty t) = refl
slots_bound (Several ys tys t) = refl

type_bound : (r : Side) → side_type r ≡ answer_type (bound_type (bound_of r))
type_bound (On kd y ty t) = refl
type_bound (Several ys tys t) = refl

all_last : (b : Bound) (xs : List Variable) → AllFollow xs (Last b) (KSide b)
all_last b [] = tt
all_last b (x ∷ xs) = (refl, all_last b xs)

ends_follow : (r : Side) → AllFollow (variables_of r) (Last (bound_of r)) (KSide (bound_of r))
ends_follow r = all_last (bound_of r) (variables_of r)

module _ (core : CoreTree) (code : CodeTree) {wi : Within} {s : Store} {a z : ℕ} {sl : Slots} {stored : List StoredField} (n lv : ℕ) where
  -- a side that begins with no region of its own
  bound_side : (rm : ℕ) {r : Side} {c : Ctx} → SideCode core code wi a z stored r c → HasAll code.laid s sl c → IsSmall s → side_nest r ≤ nesting code → side_nest r + times n (nesting code) ≤ rm
      → AloneFits core wi r c.scope → SideFits core wi r c.scope (Nowhere Whole) (new_line wi) (λ sc' d' ln'. RestFits core (AtEnd none_of) (Last (bound_of r)) sc' d' ln')
      → Safe core code (record { ty = bound_type (bound_of r); all = side_owes core n r c.env; sides = [] }) (λ q. 0) (new_share (task_costs core n lv r c.env)) s (side_at core code r n lv rm a sl)
  bound_side rm {r} {c} sc vars sm na le alone_fits fit = rests (at_term {u = Part wi r (Last (bound_of r))} {c = own_line wi c (Nowhere Whole) 0} {k = KSide (bound_of r)} record {
    ready = refl;
    low = (stored, z, sc.low, sc.agree, sc.back);
    fits = fit;
    line = record { kind = refl; matches = record { vars = HasAll-own wi (Nowhere Whole) 0 vars; dest = tt }; stack = tt; under = tt; given = tt; calm = tt };
    group = tt;
    memory = record { places = Apart-less (nothing_owned s) (λ q. omega arith); rooms = tt; tail_rooms = tt; small = sm };
    ties = record { sides = refl; pars = refl; side = slots_bound r; result = type_bound r; type = refl };
    owes = last_means core wi n r c.env c.scope alone_fits;
    counted = new_counted (left_costs core n lv (Part wi r (Last (bound_of r))) c.env (KSide (bound_of r))) (task_costs core n lv r c.env)
        (most_then (nothing_more (plus (own_side r) (side_costs core n lv r c.env)) (side_gives core n r c.env)) (own_most core n lv r c.env));
    room = record { free = (ends_follow r, refl); narrow = let h = na in omega (arith, h); nests = (le, tt); all_room = tt };
  })

  -- a field's side opens a region of its own
  field_side : {y : Variable} {xt : Ty} {t : Term} {c : Ctx} → IsAt code a (Here y.0) → Low core code wi stored (a + 1) t (To z 0) z → SideCode core code wi a z stored (On kind.Here y xt t) c → HasAll code.laid s sl c → IsSmall s → nest t ≤ nesting code
      → AloneFits core wi (On kind.Here y xt t) c.scope
      → Safe core code (record { ty = results.One xt; all = means core n t c.env; sides = [] }) (λ q. 0) (new_share (task_costs core n lv (On kind.Here y xt t) c.env)) s (side_start code (record { start = a; words = sl; depth = n; level = lv; kind = at.Here; variables = y.0 ∷ []; result = of.One xt }))
  field_side {y} {xt} {t} {c} eh lt sc vars sm na fit =
      let most = task_costs core n lv (On kind.Here y xt t) c.env in
      let left = left_costs core n lv (Plain t) c.env (KLast z y.0 fit.0) in
      let paid : (d : ℕ) → Paid (record { start = 4096 * d; cur = 4096 * d } ∷ []) left (new_share most) 1 =
      λ d. chunk_counted (record { start = 4096 * d; cur = 4096 * d }) [] (plus one_region left) left (new_share most) d refl (record { regions = omega arith; items = omega arith }) (new_counted (plus one_region left) most (record { regions = omega arith; items = omega arith })) in
      moves (draws (λ d. (paid d).share) refl (λ d new. (paid d).spends) (λ dr new.
      let a0 = 4096 * dr in
      let q = open_chunk s dr in
      let hs : HasAll code.laid q sl c = Rattle.gib_weave.proofs.Grow.HasAll-grows (open-grows s dr new) vars in
      silently {m = record (side_at core code (On kind.Here y xt t) n lv (times (suc n) (nesting code)) a sl) { regions = record { start = a0; cur = a0 } ∷ [] }} refl eh refl
      (rests (at_term {u = Plain t} {c = holding wi c y.0 (Empty fit.0) a0 0} {k = KLast z y.0 fit.0} record {
        ready = refl;
        group = tt;
        low = code_put y.0 Held refl (record { fields = stored; until = z; low = lt; agree = sc.agree });
        fits = fit.3;
        line = record {
          kind = refl;
          matches = record { vars = HasAll-hold wi code.laid q sl c y.0 a0 (Empty fit.0) a0 0 fit.2 hs; dest = refl };
          stack = (sc.back, set-same sl y.0 a0 (hs.wide y.0 (absent_slot c.scope y.0 fit.2)), refl);
          under = put-same c.scope y.0 Held;
          given = tt;
          calm = tt;
        };
        memory = record {
          places = Apart-open dr new (nothing_owned s) (λ q. let i : rest a0 ≡ 4096 = omega arith in let j = ap (λ (z : ℕ). within a0 z q) i in omega (arith, j));
          rooms = (omega arith, tt);
          tail_rooms = tt;
          small = open-small s dr new sm;
        };
        ties = record { sides = refl; pars = refl; side = refl; result = ap of.One fit.1; type = ap results.One fit.1 };
        owes = refl;
        counted = (paid dr).counted;
        room = record { free = tt; narrow = na; nests = let h = na in omega (arith, h); all_room = tt };
      }))))

module _ (core : CoreTree) (code : CodeTree) where
  pub side_safe : {wi : Within} {s : Store} {a z : ℕ} {sl : Slots} (n lv : ℕ) {stored : List StoredField} (r : Side) {c : Ctx} → SideCode core code wi a z stored r c → HasAll code.laid s sl c → side_nest r ≤ nesting code → AloneFits core wi r c.scope
      → SideSafe core code (debt_of core n lv r c.env) s (record { start = a; words = sl; depth = n; level = lv; kind = side_kind r; variables = side_slots r; result = side_type r })
  side_safe {wi} {s} {a} {z} {sl} n lv {stored} (On kind.Here y xt t) {c} sc vars le fit = record { safe = λ r g sm. here_safe r g sm sc.low }
    where
      here_safe : (r : Store) → Grows s r → IsSmall r → LowSide core code wi stored a (On kind.Here y xt t) z → Safe core code (record { ty = results.One xt; all = means core n t c.env; sides = [] }) (λ q. 0) (new_share (task_costs core n lv (On kind.Here y xt t) c.env)) r (side_start code (record { start = a; words = sl; depth = n; level = lv; kind = at.Here; variables = y.0 ∷ []; result = of.One xt }))
      here_safe r g sm (low.here eh lt) = field_side core code n lv eh lt sc (Rattle.gib_weave.proofs.Grow.HasAll-grows g vars) sm le fit
  side_safe n lv (On kind.Region y xt t) {c} sc vars le fit = record {
    safe = λ r g sm. bound_side core code n lv (suc (times (suc n) (nesting code))) sc (Rattle.gib_weave.proofs.Grow.HasAll-grows g vars) sm le (let h = le in omega (arith, h)) fit
        (fit.0, fit.1, fit.2, fit.3, put-same (loosen (cased t) c.scope) y.0 (Placed fit.0) ∙ ap param_sort (sym fit.1));
  }
  side_safe n lv (On kind.Scalar y xt t) {c} sc vars le fit = record {
    safe = λ r g sm. bound_side core code n lv (suc (times (suc n) (nesting code))) sc (Rattle.gib_weave.proofs.Grow.HasAll-grows g vars) sm le (let h = le in omega (arith, h)) fit
        (fit.0, fit.1, fit.2, put-same (loosen (cased t) c.scope) y.0 (Scalar xt) ∙ scalar_sort xt fit.0);
  }
  side_safe n lv (Several ys tys t) {c} sc vars le fit = record {
    safe = λ r g sm. bound_side core code n lv (suc (times (suc n) (nesting code))) sc (Rattle.gib_weave.proofs.Grow.HasAll-grows g vars) sm le (let h = le in omega (arith, h)) fit
        (fit.0, fit.1, fit.2, (fit.0, are_bound c.scope (loosen (cased t) c.scope) tys ys fit.1));
  }

-- At a join.

-- what a right side and the term behind it cost, where the side costs so much itself, with so many levels behind it
abbrev pub right_costs : CoreTree → (d n m : ℕ) → Side → Term → Environment → Kont → Cost → Cost
right_costs core d n m r u env k a =
    plus a (cost_after (side_gives core d r env) (λ v. plus (costs core d m u (bind_side r v env)) (later_costs core d m k (means core d u (bind_side r v env)))))

-- the term behind a `par` follows behind any variables
leave_follows : (p : Par) (u : Term) (k : Kont) (xs : List Variable) → IsInBody k → AllFollow xs (Leave p u) k
leave_follows p u k [] h = tt
leave_follows p u k (x ∷ xs) h = (h, leave_follows p u k xs h)

-- the same binding, with more said of what is behind it
side_fits_map : (core : CoreTree) (w : Within) (s : Side) (sc : Scope) (dst : Dest) (ln : FitsLine) (A B : Scope → Dest → FitsLine → Type 0) → ((sc' : Scope) (d' : Dest) (ln' : FitsLine) → A sc' d' ln' → B sc' d' ln') → SideFits core w s sc dst ln A → SideFits core w s sc dst ln B
side_fits_map core w (On kind.Here y ty t) sc dst ln A B f h = (h.0, h.1, h.2, h.3, h.4, f _ _ _ h.5)
side_fits_map core w (On kind.Region y ty t) sc dst ln A B f h = (h.0, h.1, h.2, h.3, f _ _ _ h.4)
side_fits_map core w (On kind.Scalar y ty t) sc dst ln A B f h = (h.0, h.1, h.2, f _ _ _ h.3)
side_fits_map core w (Several ys tys t) sc dst ln A B f h = (h.0, h.1, h.2, f _ _ _ h.3)

module _ (core : CoreTree) (code : CodeTree) (own : Owned) where
  -- the right side runs here
  pub right_at : {owed : Owed} {sh sh' : Share} {s : Store} {m : State} {p : Par} {r : Side} {u : Term} {c : Ctx} {k : Kont} (ds : List Debt) (ps : List Par) (p' : Par) → sides_of core m.depth p'.level k ≡ ds → p'.left ≡ false → ps ≡ p' ∷ pars_of k
      → Counted m.regions (left_costs core m.depth m.level (Part (within_par c.line.within) r (Leave p' u)) c.env k) sh'
      → AtRest core code owed own sh s m (Meet p r u) c k → AtRest core code (record { ty = owed.ty; all = owed.all; sides = ds }) own sh' s (record m { ip = m.ip + 1; pars = ps; doing = Ready }) (Part (within_par c.line.within) r (Leave p' u)) c k
  right_at {m = m} {r = r} {u = u} {c = c} {k = k} ds ps p' sd le e counted at = record {
    ready = refl;
    group = at.group;
    low = (at.low.fields, at.low.until, at.low.side, at.low.agree, (at.low.back, at.low.next));
    fits = side_fits_map core (within_par c.line.within) r c.scope c.dest c.line (λ sc' d' ln'. Fits core (needs_of k) u sc' d' ln') (λ sc' d' ln'. RestFits core (needs_of k) (Leave p' u) sc' d' ln') (λ sc' d' ln' h. (le, h)) at.fits;
    line = at.line;
    memory = at.memory;
    ties = record { sides = ap (λ (b : Bool). cond b (no_debt ∷ sides_of core m.depth p'.level k) (sides_of core m.depth p'.level k)) le ∙ sd; pars = e; side = at.ties.side; result = at.ties.result; type = at.ties.type };
    owes = at.owes;
    counted = counted;
    room = record { free = (leave_follows p' u k (variables_of r) at.room.free, at.room.free); narrow = at.room.narrow; nests = at.room.nests; all_room = at.room.all_room };
  }

module _ (core : CoreTree) (code : CodeTree) (owed : Owed) (own : Owned) (sh : Share) where
  -- the `par` is left
  pub does_leave : {s : Store} {m : State} {p : Par} {u : Term} {c : Ctx} {k : Kont} → AtRest core code owed own sh s m (Leave p u) c k → Moves core code owed own sh s m
  does_leave {m = m} {p = p} {u = u} {c = c} {k = k} at = silent (step_is code m Back at.ready at.low.0 ∙ ap (backs_at m) at.ties.pars) (rests (at_term {u = Plain u} {c = c} {k = k} record {
    ready = refl;
    group = at.group;
    low = at.low.1;
    fits = at.fits.1;
    line = at.line;
    memory = at.memory;
    ties = record { sides = ap (λ (b : Bool). cond b (no_debt ∷ sides_of core m.depth p.level k) (sides_of core m.depth p.level k)) (sym at.fits.0) ∙ at.ties.sides; pars = refl; side = at.ties.side; result = at.ties.result; type = at.ties.type };
    owes = at.owes;
    counted = at.counted;
    room = record { free = at.room.free; narrow = at.room.narrow; nests = at.room.nests; all_room = at.room.all_room };
  }))

  -- in place the right side follows
  pub does_meet : {s : Store} {m : State} {p : Par} {r : Side} {u : Term} {c : Ctx} {k : Kont} → p.left ≡ false → AtRest core code owed own sh s m (Meet p r u) c k → Moves core code owed own sh s m
  does_meet {m = m} {p = p} {r = r} {u = u} {c = c} {k = k} le at =
      silent (step_is code m Join at.ready at.low.join ∙ ap (joins_at m) at.ties.pars ∙ ap (λ (b : Bool). cond b AtJoin (Silent (went m))) le)
      (rests (at_term {u = Part (within_par c.line.within) r (Leave p u)} {c = c} {k = k} (right_at core code own owed.sides m.pars p
      (ap (λ (b : Bool). cond b (debt_of core m.depth m.level r c.env ∷ sides_of core m.depth p.level k) (sides_of core m.depth p.level k)) (sym le) ∙ at.ties.sides) le at.ties.pars
      (subst (λ (b : Bool). Counted m.regions (right_costs core m.depth m.level p.level r u c.env k (cond b (link r) (plus (own_side r) (side_costs core m.depth m.level r c.env)))) sh) le at.counted) at)))

  result_scalar : (xt : Ty) (s : Store) (w : ℕ) (v : Datum) (c : Ctx) (at hd : ℕ) (o : Outcome) → Has code.laid s c (param_sort xt) w v at hd → Gives v ≡ o → IsAnswer code.laid s (results.One xt) o (answer_of xt w)
  result_scalar Whole s w v c at hd o h e = scalar_answer code.laid s Whole w v o h e
  result_scalar Truth s w v c at hd o h e = scalar_answer code.laid s Truth w v o h e
  result_scalar (Tree t) s w v c at hd o h e = (t.0, v, refl, sym e, subst (λ (z : ℕ). StandsAt code.laid s t.0 z v) (sym h.same) h.stands)

  -- a stolen side ends
  pub does_last : {s : Store} {m : State} {b : Bound} {c : Ctx} {k : Kont} → AtRest core code owed own sh s m (Last b) c k → Moves core code owed own sh s m
  does_last {s} {m} {b} {c} {k} at = by b at.fits same same2 ow slots
    where
      free : k ≡ KSide b
      free = at.room.free

      same : owed.ty ≡ bound_type b
      same = at.ties.type ∙ ap root free

      same2 : m.result ≡ answer_type (bound_type b)
      same2 = at.ties.result ∙ ap (λ (q : Kont). answer_type (root q)) free

      ow : Gives (bound_value c.env b) ≡ owed.all
      ow = sym (ap (λ (q : Kont). resume core m.depth q (Gives (bound_value c.env b))) free) ∙ at.owes

      sd : owed.sides ≡ []
      sd = sym (sym (ap (λ (q : Kont). sides_of core m.depth m.level q) free) ∙ at.ties.sides)

      slots : m.side ≡ bound_slots b
      slots = at.ties.side ∙ ap side_of free

      back : next code m ≡ ends_side m m.side
      back = step_is code m Back at.ready at.low ∙ ap (backs_at m) (at.ties.pars ∙ ap pars_of free)

      by : (q : Bound) → IsBound c.scope q → owed.ty ≡ bound_type q → m.result ≡ answer_type (bound_type q) → Gives (bound_value c.env q) ≡ owed.all → m.side ≡ bound_slots q → Moves core code owed own sh s m
      by (Single y xt) is ty result o e =
          let has : Has code.laid s c (param_sort xt) (slot m.words y) (value_in c.env y) (c.pl y) (c.hd y) = subst (λ (so : Sort). Has code.laid s c so (slot m.words y) (value_in c.env y) (c.pl y) (c.hd y)) is (at.line.matches.vars.has y) in
          silent (back ∙ ap (ends_side m) e ∙ ap (λ (q : AnswerType). Silent (ends_with m q (slot m.words y ∷ []))) result)
          (rests (over refl sd (subst (λ (q : Results Ty). IsAnswer code.laid s q owed.all (answer_of xt (slot m.words y))) (sym ty) (result_scalar xt s (slot m.words y) (value_in c.env y) c (c.pl y) (c.hd y) owed.all has o))))
      by (Multiple [] []) is ty result o e = absurd is.0.0
      by (Multiple [] (t ∷ tys)) is ty result o e = absurd is.1
      by (Multiple (x ∷ xs) []) is ty result o e = absurd is.1
      by (Multiple (x ∷ xs) (t ∷ tys)) is ty result o e =
          let ws = map (λ (y : Variable). slot m.words y.0) (x ∷ xs) in
          silent (back ∙ ap (ends_side m) e ∙ ap (λ (q : AnswerType). Silent (ends_with m q (map (slot m.words) (bound_slots (Multiple (x ∷ xs) (t ∷ tys)))))) result ∙ ap (λ (q : List ℕ). Silent (ends_with m of.Parts q)) (words_of m.words (x ∷ xs)))
          (rests (over refl sd (subst (λ (q : Results Ty). IsAnswer code.laid s q owed.all (answer.Parts (eight ws))) (sym ty)
          (t ∷ tys, values_of c.env (x ∷ xs), refl, sym o, eight_answer code.laid s (t ∷ tys) ws (values_of c.env (x ∷ xs)) is.0.1 (side_words code.laid s m.words c at.line.matches.vars (t ∷ tys) (x ∷ xs) is.1)))))

-- The value of a right side has come.

or_not : (a b : Bool) → (b ≡ true → ⊥) → (a || b) ≡ true → a ≡ true
or_not true b f e = refl
or_not false b f e = absurd (f e)

-- a side of a `par` tells nothing
pub par_tells : (wi : Within) (core : CoreTree) (t : Term) (q : ℕ) → side_tells (within_par wi) core t q ≡ true → ⊥
par_tells wi core (term.Then b u) q e = false≢true e
par_tells wi core (term.Write v k ss ps) q e = false≢true e
par_tells wi core (term.Point x) q e = false≢true e
par_tells wi core (term.CallTerm f xs) q e = false≢true e
par_tells wi core (term.Give x) q e = false≢true e
par_tells wi core (term.CaseTerm x bs) q e = false≢true e
par_tells wi core (term.IfTerm x u v) q e = false≢true e
par_tells wi core (term.Tuple tys ss ps) q e = false≢true e

module _ (core : CoreTree) (code : CodeTree) (owed : Owed) (own : Owned) (sh : Share) where
  -- a scalar, or a tree in a region
  pub bound_comes : {s : Store} {m : State} {sl : Slots} {x : ℕ} {so : Sort} {u : Rest} {c : Ctx} {k : Kont} (w pl : ℕ) (v : Datum) → m.words ≡ set sl x w → ((q : ℕ) → c.line.pending q ≡ true → ⊥) → is_field so ≡ false → Waits core code s sl m.ip x so u c c.dest (cursor m.regions) k
      → Has code.laid s (with_var c x so v pl) so w v pl (c.hd x) → HasEnd code.laid s so w 0 v pl → Resumes core code owed own sh s m x v u c c.dest k
      → AtRest core code owed own sh s m u (with_line (with_var c x so v pl) (tell_line c.line.pending c.line)) k
  bound_comes {s} {m} {sl} {x} {so} {u} {c} {k} w pl v e np nf wt has he g =
      let hb = Matches-bind x so v w pl wt.new has he wt.line.matches in
      comes core code owed own sh v pl nf refl wt g (subst (λ (q : Slots). Matches code.laid s q (with_line (with_var c x so v pl) (tell_line c.line.pending c.line)) (cursor m.regions)) (sym e)
      (Matches-line (tell_line c.line.pending c.line) (λ q e. hb.vars.told q (or_not (c.line.told q) (c.line.pending q) (np q) e)) hb.vars.closes hb))

  -- a field
  pub field_comes : {s : Store} {m : State} {x t : ℕ} {u : Rest} {c : Ctx} {k : Kont} {a : ℕ} (v : Datum) → ((q : ℕ) → c.line.pending q ≡ true → ⊥) → Waits core code s m.words m.ip x (Placed t) u c (more c.dest x) a k → both m.words x ≡ record { word = a; last = 0 } → IsDue c.dest t → Dec code.laid s a t v (cursor m.regions)
      → Resumes core code owed own sh s m x v u c (more c.dest x) k
      → AtRest core code owed own sh s m u (with_dest (with_line (with_var c x (Placed t) v a) (tell_line c.line.pending c.line)) (more c.dest x)) k
  field_comes {s} {m} {x} {t} {u} {c} {k} {a} v np w sl_x due dec g =
      let ln = tell_line c.line.pending c.line in
      let c1 = with_var c x (Placed t) v a in
      let c1' = with_line c1 ln in
      let c2 = with_dest c1' (more c.dest x) in
      let place : IsPlaced code.laid s t (slot m.words x) a v = record { same = ap (λ (b : WithEnd). b.word) sl_x; stands = record { end = cursor m.regions; dec = dec } } in
      let hs = HasAll-set code.laid s m.words c x (Placed t) v a w.new place (held_end m.words x sl_x) w.line.matches.vars in
      let hl = HasAll-line {c = c1} ln (λ q e. hs.told q (or_not (c.line.told q) (c.line.pending q) (np q) e)) hs.closes hs in
      comes core code owed own sh v a refl (dest_more c.dest x) w g (record {
        vars = HasAll-dest {c = c1'} {c' = c2} refl (keeps_dest c1' (more c.dest x)) hl (λ y. refl) (λ y. refl) (λ y. refl) hl.told hl.closes;
        dest = IsDest-line code.laid s m.words (with_dest c1 (more c.dest x)) (cursor m.regions) (more c.dest x) ln (IsDest-more code.laid s m.words c a (cursor m.regions) x t v c.dest w.new due dec w.line.matches.dest);
      })
