-- Scalars are bound, and functions called.
use Rattle.std.proofs.Common.{◌≡◌, ℕ, zero, suc, ◌+◌, ◌<◌, Bool, true, false, List, [], ◌∷◌, map, Option, Some, length, cond, refl, sym, ap, subst, ◌∙◌, arith, ◌||◌}
use Rattle.std.proofs.lemmas.Bool.{true≢false, false≢true, or_left, or_right}
use Rattle.gib_types.specs.declared.table.Ty.{Ty}
use Rattle.gib_types.specs.declared.table.Ty.TheVariants.{Whole, Truth, Tree}
use Rattle.gib_types.specs.Layout.{LaidOut}
use Rattle.gib_types.specs.Tree.{Datum}
use Rattle.gib_types.specs.declared.operator.Operator.{Operator}
use Rattle.gib_syntax.specs.Meaning.{number_in, operate, outcome_unless, is_by_zero, Outcome, Deep, Trap}
use Rattle.gib_types.specs.Operators.{operator_type}
use Rattle.gib_mem.specs.Memory.{Store}
use Rattle.gib_base.specs.declared.name.Name.{Name}
use Rattle.gib_core.specs.declared.atom.Variable.{Variable}
use Rattle.gib_core.specs.declared.atom.Atom.{Atom}
use Rattle.gib_core.specs.declared.atom.Atom.TheVariants as a
use Rattle.gib_core.specs.declared.atom.Kind.TheVariants as kind
use Rattle.gib_core.specs.Tree.{Term, Then, On, Prim, CallTerm, Give, CoreTree, FunctionTerm, variables_from}
use Rattle.gib_core.specs.Meaning.{value, bind, function_at, of_function, core_calls, mean, from_there, having, Went}
use Rattle.gib_code.specs.Instruction.{Operate, Move, Call, CallScalar}
use Rattle.gib_code.specs.Instruction as i
use Rattle.gib_code.specs.Program.{CodeTree, IsAt, AreAt}
use Rattle.gib_core.specs.Low.{To, call_ending, giving, operand, operands, function_number, IsNoCall, gots}
use Rattle.gib_machine.specs.State.{Over, doing, Slots, set, word, words, Frame, Open as OpenRegion, State, Silent, sets, cursor, frame, Ready}
use Rattle.gib_machine.specs.Machine.{unwound, set_answer, answer_of, word_answer, operated, traps, slots_at}
use Rattle.gib_core.specs.Cost.{Cost, plus, nothing, cost_from}
use Rattle.gib_weave.proofs.Costs.{call_costs_same}
use Rattle.gib_weave.proofs.Counts.{goes_on_counted, same_most, most_then}
use Rattle.gib_core.specs.Fits.{InParts, IsCallPlace, Inner, new_line, none_of, await, await_call, tell_line, side_tells, call_tells, Empty, Open, Sort, Absent, Scalar, CallFits, Dest, Nowhere, dest_type, dest_of, Fits, cased}
use Rattle.gib_weave.specs.Environment.{Given, Gave, givens, Ctx, IsScalar, Has, IsDest, Matches}
use Rattle.gib_weave.specs.EndWords.{HasEnd}
use Rattle.gib_weave.specs.Continuing.{given_of, Rest, Plain, Part, KSide, KLast, pars_of, RestCode, rest_cased, Kont, KEnd, KHere, KRegion, KScalar, KCall, KCallScalar, KPart, KSeveral, end_of, due, IsCode}
use Rattle.gib_weave.specs.Owing.{level_after, costs, Owed, sides_of, rest_means, Debt, resume, means}
use Rattle.gib_weave.specs.Paying.{Share, Counted, cost_after, left_costs, later_costs}
use Rattle.gib_weave.specs.Places.{Owned, heads, kont_covers}
use Rattle.gib_syntax.specs.Results as results
use Rattle.gib_syntax.specs.Results.{Results}
use Rattle.gib_syntax.specs.Typing.{one_type}
use Rattle.gib_code.specs.declared.instruction.AnswerType.{AnswerType}
use Rattle.gib_weave.specs.Groups.{Group}
use Rattle.gib_weave.proofs.Groups.{result_group}
use Rattle.gib_weave.specs.Stacks.{Stack, Waits, one_scalar}
use Rattle.gib_machine.specs.Levels.{lefts}
use Rattle.gib_weave.specs.Sound.{Safe, AtRest, AtTerm, IsAnswer, at_term, over, rests, Moves, silent, OnLine}
use Rattle.gib_weave.specs.Starting.{AreBodies}
use Rattle.gib_weave.proofs.Move.{keeps_line, with_line, HasAll-line, IsDest-line, settled_there, other, with_var, HasAll-bind, IsDest-bind, IsDest-moved, moved_set, all_moved_set, Stack-moved, not_there, bound-other, kont_less}
use Rattle.gib_weave.proofs.Sorts.{given_bind, given_keeps, goes-refl, all_under_bind, code_put}
use Rattle.gib_weave.proofs.Lines.{own_line, HasAll-own, loosened, under_scalar, all_calm_less, calm_loosened, resume-with, resume-stop, waiting, pend, Matches-pend, line_set, room_less}
use Rattle.gib_weave.proofs.Scalars.{scalar_word, operated_is, traps_are}
use Rattle.gib_weave.proofs.Tolds.{gives_back, call_settled}
use Rattle.gib_weave.proofs.Basics.{put-other, set-other, end-other}
use Rattle.gib_core.specs.Ending.{Within, within_function, ended, has_ended}
use Rattle.gib_core.specs.Tree as term
use Rattle.gib_weave.proofs.Ends.{first_at, rest_at, Led, led_less, overs_move, gots_all, told_side, unwound_safe, lefts_sides, lefts_rest, at_rest, step_is, silently, Resumes, comes, heads_less}
use Rattle.gib_weave.proofs.Roots.{no_parts}
use Rattle.gib_core.proofs.Fine.{no_call}
use Rattle.gib_weave.proofs.CallFrames.{IsDest-vars, body_given, body_line, body_vars, packed_scalar, scalar_answer}

pub result_dest : (laid : LaidOut) (s : Store) (sl : Slots) (c : Ctx) (ty : Results Ty) (cur : ℕ) → c.front ≡ cur → IsDest laid s sl c (dest_of ty) cur
result_dest laid s sl c (results.One Whole) cur e = tt
result_dest laid s sl c (results.One Truth) cur e = tt
result_dest laid s sl c (results.One (Tree t)) cur e = e
result_dest laid s sl c (results.Several tys) cur e = tt

pub result_type : (ty : Results Ty) → dest_type (dest_of ty) ≡ ty
result_type (results.One Whole) = refl
result_type (results.One Truth) = refl
result_type (results.One (Tree t)) = refl
result_type (results.Several tys) = refl

pub no_result_cover : (laid : LaidOut) (h : ℕ) (ty : Results Ty) (k : Kont) (q : ℕ) → heads laid h (dest_of ty) k q ≡ kont_covers laid k q
no_result_cover laid h (results.One Whole) k q = refl
no_result_cover laid h (results.One Truth) k q = refl
no_result_cover laid h (results.One (Tree t)) k q = refl
no_result_cover laid h (results.Several tys) k q = refl

-- a call's value is put where its line's is
pub call_dest : (laid : LaidOut) (s : Store) (sl ws : Slots) (c line : Ctx) (d : Dest) (ty : Results Ty) (cur : ℕ) → line.front ≡ c.front → IsCallPlace d → ty ≡ dest_type d → IsDest laid s sl c d cur → IsDest laid s ws line (dest_of ty) cur
call_dest laid s sl ws c line (Nowhere u) ty cur f p e h = absurd p
call_dest laid s sl ws c line (Empty t) ty cur f p e h = subst (λ (q : Results Ty). IsDest laid s ws line (dest_of q) cur) (sym e) (f ∙ h)
call_dest laid s sl ws c line (Open t x k xs dues) ty cur f p e h = absurd p
call_dest laid s sl ws c line (InParts tys) ty cur f p e h = subst (λ (q : Results Ty). IsDest laid s ws line (dest_of q) cur) (sym e) tt

pub call_packed : (d : Dest) → IsCallPlace d → one_scalar (dest_type d) ≡ false
call_packed (Nowhere u) p = absurd p
call_packed (Empty t) p = refl
call_packed (Open t x k xs dues) p = absurd p
call_packed (InParts tys) p = refl

-- a call has its line's parts due
pub call_group : (laid : LaidOut) (s : Store) (d : Dest) (ty : Results Ty) (vs : List Datum) (rs : List OpenRegion) → IsCallPlace d → ty ≡ dest_type d → Group laid s d vs rs → Group laid s (dest_of ty) vs rs
call_group laid s (Nowhere u) ty vs rs p e g = absurd p
call_group laid s (Empty t) ty vs rs p e g = subst (λ (q : Results Ty). Group laid s (dest_of q) vs rs) (sym e) tt
call_group laid s (Open t h k xs dues) ty vs rs p e g = absurd p
call_group laid s (InParts tys) ty vs rs p e g = subst (λ (q : Results Ty). Group laid s (dest_of q) vs rs) (sym e) g

-- a new variable's slot is set
pub Matches-bind : {laid : LaidOut} {s : Store} {sl : Slots} {c : Ctx} {cur : ℕ} (x : ℕ) (so : Sort) (v : Datum) (w pl : ℕ) → c.scope x ≡ Absent → Has laid s (with_var c x so v pl) so w v pl (c.hd x) → HasEnd laid s so w 0 v pl → Matches laid s sl c cur → Matches laid s (set sl x w) (with_var c x so v pl) cur
Matches-bind {laid} {s} {sl} {c} {cur} x so v w pl new has he h = record {
  vars = HasAll-bind laid s sl c x so v w pl new has he h.vars;
  dest = IsDest-bind laid s (set sl x w) c cur x so v pl c.dest new (IsDest-moved laid s sl (set sl x w) c cur c.dest (moved_set x w (not_there c.scope x new)) h.dest);
}

module _ (core : CoreTree) (code : CodeTree) (owed : Owed) (own : Owned) (sh : Share) where
  pub does_prim : {s : Store} {m : State} {c : Ctx} {k : Kont} (x : Variable) (f : Operator) (y z : Atom) (u : Term) → IsAt code m.ip (Operate x.0 f (operand y) (operand z)) → IsCode core code c.line.within c.scope (m.ip + 1) u (end_of c.line.overs k)
      → AtTerm core code owed own sh s m (Then (Prim x f y z) u) c k → Moves core code owed own sh s m
  does_prim {s} {m} {c} {k} x f y z u e lu at =
      silent (step_is code m (Operate x.0 f (operand y) (operand z)) at.ready e)
      (subst (λ (b : Bool). Safe core code owed own sh s (cond b (unwound Trap m m.pars) (sets m x.0 w))) (sym tests) (go (is_by_zero f (number_in (value c.env z))) refl))
    where
      w : ℕ
      w = operated f (word m.words (operand y)) (word m.words (operand z))

      ny : IsScalar Whole (word m.words (operand y)) (value c.env y)
      ny = scalar_word code.laid s m.words c y Whole refl at.line.matches.vars at.fits.1

      nz : IsScalar Whole (word m.words (operand z)) (value c.env z)
      nz = scalar_word code.laid s m.words c z Whole refl at.line.matches.vars at.fits.2

      tests : traps f (word m.words (operand z)) ≡ is_by_zero f (number_in (value c.env z))
      tests = traps_are f nz.0 (word m.words (operand z)) nz.2 nz.3 ∙ ap (λ (q : Datum). is_by_zero f (number_in q)) (sym nz.1)

      val : Datum
      val = operate f (number_in (value c.env y)) (number_in (value c.env z))

      same : operate f ny.0 nz.0 ≡ val
      same = ap (λ (q : Datum). operate f (number_in q) nz.0) (sym ny.1) ∙ ap (λ (q : Datum). operate f (number_in (value c.env y)) (number_in q)) (sym nz.1)

      -- the meaning and the cost, by the divisor
      meant : Bool → Outcome
      meant d = from_there (having (outcome_unless d val) (λ v. Went ((x.0, v) ∷ c.env))) (λ q. means core m.depth u q)

      costs_by : Bool → Cost
      costs_by d = plus (plus nothing (cost_from (having (outcome_unless d val) (λ v. Went ((x.0, v) ∷ c.env))) (λ q. costs core m.depth m.level u q))) (later_costs core m.depth m.level k (meant d))

      so : Sort
      so = Scalar (operator_type f)

      v : Datum
      v = operate f ny.0 nz.0

      has : IsScalar (operator_type f) w v
      has = operated_is f ny.0 nz.0 (word m.words (operand y)) (word m.words (operand z)) ny.2 nz.2 ny.3 nz.3

      set_line : OnLine core code s (set m.words x.0 w) m.frames m.regions c k (cased (Then (Prim x f y z) u))
      set_line = line_set x.0 w at.fits.0 at.line

      go : (d : Bool) → is_by_zero f (number_in (value c.env z)) ≡ d → Safe core code owed own sh s (cond d (unwound Trap m m.pars) (sets m x.0 w))
      go true d = unwound_safe core code owed own sh Trap s m m.pars
          (sym at.owes ∙ ap (λ (b : Bool). resume core m.depth k (meant b)) d ∙ resume-stop core m.depth k Trap)
          (ap lefts at.ties.pars ∙ lefts_sides core m.depth m.level k ∙ ap (λ (q : List Debt). length q) at.ties.sides)
      go false d = rests (at_term {u = Plain u} {c = with_var c x.0 so v 0} {k = k} record {
        ready = refl;
        group = at.group;
        low = code_put x.0 so refl lu;
        fits = at.fits.3;
        line = record {
          kind = at.line.kind;
          matches = Matches-bind x.0 so v w 0 at.fits.0 has tt at.line.matches;
          stack = set_line.stack;
          under = all_under_bind c.scope c.env k x.0 so v at.fits.0 at.line.under;
          given = given_bind c x.0 so v 0 (given_of k) at.fits.0 at.line.given;
          calm = at.line.calm;
        };
        memory = at.memory;
        ties = at.ties;
        owes = ap (resume core m.depth k) (ap (λ (q : Datum). means core m.depth u ((x.0, q) ∷ c.env)) same ∙ sym (ap meant d)) ∙ at.owes;
        counted = goes_on_counted (most_then (same_most _ _ (ap (λ (q : Datum). left_costs core m.depth m.level (Plain u) ((x.0, q) ∷ c.env) k) same))
            (most_then (record { regions = omega arith; items = omega arith }) (same_most _ _ (sym (ap costs_by d))))) at.counted;
        room = room_less (omega arith) at.room;
      })

module _ (core : CoreTree) (code : CodeTree) (owed : Owed) (own : Owned) (sh : Share) where
  -- what is known of the frame once the scalar has come
  came : {s : Store} {sl : Slots} {fs : List Frame} {rs : List OpenRegion} {at x : ℕ} {xt : Ty} {u : Rest} {c : Ctx} {k : Kont} (w : ℕ) (v : Datum) → Waits core code s sl at x (Scalar xt) u c c.dest (cursor rs) k → Stack core code s k sl fs c.front rs → IsScalar xt w v → Led core code s (set sl x w) fs rs (with_var c x (Scalar xt) v 0) k c.front c.line.told
  came {s} {sl} {fs} {rs} {x = x} {xt = xt} {c = c} {k = k} w v wt st sc =
      let h = HasAll-bind code.laid s sl c x (Scalar xt) v w 0 wt.new sc tt wt.line.matches.vars in
      record { vars = h; stack = Stack-moved core code s k sl (set sl x w) fs c.front rs (all_moved_set code.laid s sl c.scope c.env k x w wt.line.under (not_there c.scope x wt.new)) st; knows = h.told }

  -- the scalar of a line that waits has come
  scalar_comes : {s : Store} {m : State} {sl : Slots} {x : ℕ} {xt : Ty} {u : Rest} {c : Ctx} {k : Kont} (w : ℕ) (v : Datum) → Waits core code s sl m.ip x (Scalar xt) u c c.dest (cursor m.regions) k → m.words.vars ≡ (set sl x w).vars
      → Led core code s m.words m.frames m.regions (with_var c x (Scalar xt) v 0) k c.front (λ q. c.line.told q || c.line.pending q) → Resumes core code owed own sh s m x v u c c.dest k
      → AtRest core code owed own sh s m u (with_line (with_var c x (Scalar xt) v 0) (tell_line c.line.pending c.line)) k
  scalar_comes {s} {m} {sl} {x} {xt} {u} {c} {k} w v wt sv led g = comes core code owed own sh v 0 refl refl wt g (record {
    vars = HasAll-line (tell_line c.line.pending c.line) led.knows led.vars.closes led.vars;
    dest = IsDest-line code.laid s m.words (with_var c x (Scalar xt) v 0) (cursor m.regions) c.dest (tell_line c.line.pending c.line) (IsDest-vars code.laid s (set sl x w) m.words (with_var c x (Scalar xt) v 0) (cursor m.regions) c.dest sv (IsDest-bind code.laid s (set sl x w) c (cursor m.regions) x (Scalar xt) v 0 c.dest wt.new (IsDest-moved code.laid s sl (set sl x w) c (cursor m.regions) c.dest (moved_set x w (not_there c.scope x wt.new)) wt.line.matches.dest)));
  })

tells_none : (wi : Within) (core : CoreTree) (t : Term) (q : ℕ) → IsNoCall t → side_tells wi core t q ≡ false
tells_none wi core (term.Then b u) q n = refl
tells_none wi core (term.Write v k ss ps) q n = refl
tells_none wi core (term.Point x) q n = refl
tells_none wi core (term.CallTerm f xs) q n = absurd n
tells_none wi core (term.Give x) q n = refl
tells_none wi core (term.CaseTerm x bs) q n = refl
tells_none wi core (term.IfTerm x u v) q n = refl
tells_none wi core (term.Tuple tys ss ps) q n = refl

or_mono : (a b c : Bool) → (b ≡ true → c ≡ true) → (a || b) ≡ true → (a || c) ≡ true
or_mono true b c f e = refl
or_mono false b c f e = f e

given : (c : Ctx) (xt : Ty) (k : Kont) → c.dest ≡ Nowhere xt → dest_type c.dest ≡ due k → results.One xt ≡ due k
given c xt k e h = sym (ap dest_type e) ∙ h

module _ (core : CoreTree) (code : CodeTree) (owed : Owed) (own : Owned) (sh : Share) where
  -- by the lines that wait, and the machine's frames
  pub does_give : (k : Kont) (fs : List Frame) (m : State) {s : Store} {c : Ctx} (x : Atom) (z : ℕ) → AreAt code m.ip (giving (operand x) (end_of c.line.overs k)) z
      → AtTerm core code owed own sh s (record m { frames = fs }) (Give x) c k → Moves core code owed own sh s (record m { frames = fs })
  does_give (KEnd u) [] m {s} {c} x z e at =
      let here = record m { frames = [] } in
      let same : at.fits.0 ≡ u = ap one_type (given c at.fits.0 (KEnd u) at.fits.1 at.line.kind) in
      overs_move core code owed own sh s here c (KEnd u) c.front z at.line.under (i.Give (operand x) ∷ []) c.line.overs c.line.told at.ready e at.line.matches.vars.closes at.fits.4.0 (record { vars = at.line.matches.vars; stack = at.line.stack; knows = at.line.matches.vars.told })
      (λ l sl e' sv hl.
      let sc = scalar_word code.laid s sl c x at.fits.0 at.fits.2 hl.vars at.fits.3 in
      silent (step_is code (at_rest here l sl) (i.Give (operand x)) refl (first_at e') ∙ ap (λ (q : AnswerType). Silent (doing (at_rest here l sl) (Over (word_answer q (word sl (operand x)))))) at.ties.result)
      (rests (over refl (sym at.ties.sides) (subst (λ (q : Results Ty). IsAnswer code.laid s q owed.all (answer_of u (word sl (operand x)))) (sym at.ties.type) (scalar_answer code.laid s u (word sl (operand x)) (value c.env x) owed.all (subst (λ (q : Ty). IsScalar q (word sl (operand x)) (value c.env x)) same sc) at.owes)))))
  does_give (KEnd u) (f ∷ fs) m x z e at = absurd at.line.stack
  does_give (KSide b) fs m x z e at = absurd at.room.free
  does_give (KLast l y t) fs m {c = c} x z e at = absurd (packed_scalar t at.fits.0 at.fits.2 (ap one_type (sym (given c at.fits.0 (KLast l y t) at.fits.1 at.line.kind))))
  does_give (KHere l y t u o k) fs m {c = c} x z e at = absurd (packed_scalar t at.fits.0 at.fits.2 (ap one_type (sym (given c at.fits.0 (KHere l y t u o k) at.fits.1 at.line.kind))))
  does_give (KRegion l y t u o k) fs m {c = c} x z e at = absurd (packed_scalar t at.fits.0 at.fits.2 (ap one_type (sym (given c at.fits.0 (KRegion l y t u o k) at.fits.1 at.line.kind))))
  does_give (KScalar l y yt u o k) fs m {s} {c} x z e at =
      let here = record m { frames = fs } in
      let sc = scalar_word code.laid s m.words c x at.fits.0 at.fits.2 at.line.matches.vars at.fits.3 in
      let w = word m.words (operand x) in
      let wt = at.line.stack.1 in
      let same : at.fits.0 ≡ yt = ap one_type (given c at.fits.0 (KScalar l y yt u o k) at.fits.1 at.line.kind) in
      let l0 = came core code owed own sh w (value c.env x) wt at.line.stack.2 (subst (λ (q : Ty). IsScalar q w (value c.env x)) same sc) in
      let l1 : Led core code s (set m.words y w) fs m.regions (with_var o y (Scalar yt) (value c.env x) 0) k o.front (λ q. o.line.told q || o.line.pending q) = record {
        vars = l0.vars;
        stack = l0.stack;
        knows = told_side (set m.words y w) o c y (Scalar yt) (value c.env x) 0 wt.new wt.asked
            (λ q g. let t = at.line.matches.vars.told q (at.fits.4 q g) in record { settled = t.settled; some = subst (λ (r : ℕ). 0 < r) (sym (end-other m.words y q w 0 (other o.scope q y (settled_there (o.scope q) (wt.asked q g)) wt.new))) t.some }) l0.knows;
      } in
      silent (step_is code here (Move y (operand x)) at.ready (first_at e))
      (silently {m = sets here y w} refl (first_at (rest_at e)) refl
      (rests (at_term (scalar_comes core code owed own sh {m = record m { ip = l; words = set m.words y w; frames = fs; doing = Ready }} w (value c.env x) wt refl l1
      (record { ready = refl; stack = l1.stack; group = at.line.stack.3; memory = heads_less (λ q. kont_less code.laid c.head c.dest (KScalar l y yt u o k) q) at.memory; ties = at.ties; owes = at.owes; counted = goes_on_counted (record { regions = omega arith; items = omega arith }) at.counted; room = at.room.all_room })))))
  does_give (KPart l i t tys ss vs ps o k) fs m {c = c} x z e at = absurd (packed_scalar t at.fits.0 at.fits.2 (ap one_type (sym (given c at.fits.0 (KPart l i t tys ss vs ps o k) at.fits.1 at.line.kind))))
  does_give (KSeveral l xs tys u o k) fs m {c = c} x z e at = absurd (no_parts at.fits.0 tys (given c at.fits.0 (KSeveral l xs tys u o k) at.fits.1 at.line.kind))
  does_give (KCall gs wc k) [] m x z e at = absurd at.line.stack
  does_give (KCall gs wc k) (f ∷ fs) m {c = c} x z e at = absurd (true≢false (sym at.fits.2 ∙ ap one_scalar (given c at.fits.0 (KCall gs wc k) at.fits.1 at.line.kind) ∙ at.line.stack.5))
  does_give (KCallScalar y yt gs u o k) [] m x z e at = absurd at.line.stack
  does_give (KCallScalar y yt gs u o k) (f ∷ fs) m {s} {c} x z e at =
      let here = record m { frames = f ∷ fs } in
      let same : at.fits.0 ≡ yt = ap one_type (given c at.fits.0 (KCallScalar y yt gs u o k) at.fits.1 at.line.kind) in
      overs_move core code owed own sh s here c (KCallScalar y yt gs u o k) c.front z at.line.under (i.Give (operand x) ∷ []) c.line.overs c.line.told at.ready e at.line.matches.vars.closes at.fits.4.0 (record { vars = at.line.matches.vars; stack = at.line.stack; knows = at.line.matches.vars.told })
      (λ l sl e' sv hl.
      let st = hl.stack in
      let sc = scalar_word code.laid s sl c x at.fits.0 at.fits.2 hl.vars at.fits.3 in
      let w = word sl (operand x) in
      let v = value c.env x in
      let wt = st.5 in
      let back = record m { ip = f.back; words = set f.words y w; frames = fs; gave = sl.ends; depth = suc m.depth; doing = Ready } in
      silent (step_is code (at_rest here l sl) (i.Give (operand x)) refl (first_at e') ∙ ap (λ (q : Option ℕ). Silent (record back { words = set_answer f.words q w })) st.1)
      (gots_all core code owed own sh s back (with_var o y (Scalar yt) v 0) k o.front st.2 (all_under_bind o.scope o.env k y (Scalar yt) v wt.new wt.line.under) o f.words st.3.within st.3.name st.3.arguments st.3.parameters o.line.told refl st.3.gots st.3.fits
      (record { still = λ q g. let ne = other o.scope q y (settled_there (o.scope q) g) wt.new in (put-other o.scope y q (Scalar yt) ne, set-other f.words y q w ne, bound-other o.env y v q ne) })
      (subst (λ (r : List (Option Given)). Gave code.laid s sl.ends 0 r) st.3.given (gives_back code.laid s sl c 0 gs hl.vars at.line.given))
      (λ q g. (hl.knows q (at.fits.4.1 q (st.3.asked q g))).some)
      (came core code owed own sh w v wt st.6 (subst (λ (q : Ty). IsScalar q w v) same sc))
      (λ sl2 sv2 h2.
      rests (at_term (scalar_comes core code owed own sh {m = at_rest back st.2 sl2} w v wt sv2 (led_less core code s sl2 fs m.regions (with_var o y (Scalar yt) v 0) k o.front (λ q. o.line.told q || call_tells st.3.within core st.3.name st.3.arguments q) (λ q. o.line.told q || o.line.pending q) (λ q g. or_mono (o.line.told q) (o.line.pending q) (call_tells st.3.within core st.3.name st.3.arguments q) (st.4 q) g) h2)
      (record { ready = refl; stack = h2.stack; group = st.7; memory = heads_less (λ q. kont_less code.laid c.head c.dest (KScalar l y yt u o k) q) at.memory; ties = at.ties; owes = at.owes; counted = goes_on_counted (record { regions = omega arith; items = omega arith }) at.counted; room = at.room.all_room }))))))

  -- a scalar is made in the same place of the code
  pub into_scalar : {s : Store} {m : State} {u : Rest} {c : Ctx} {k : Kont} (x : Variable) (xt : Ty) (l : ℕ) (wi : Within) (t : Term) → IsNoCall t → IsCode core code wi c.scope m.ip t (To l x.0) → RestCode core code c.line.within c.scope l u (end_of c.line.overs k)
      → AtRest core code owed own sh s m (Part wi (On kind.Scalar x xt t) u) c k
      → AtTerm core code owed own sh s m t (own_line wi c (Nowhere xt) 0) (KScalar l x.0 xt u (loosened (cased t) (pend (side_tells wi core t) none_of c)) k)
  into_scalar {s} {m} {u} {c} {k} x xt l wi t nc lt lu at =
      let told = side_tells wi core t in record {
        ready = at.ready;
        group = tt;
        low = lt;
        fits = no_call (Fits core (Inner told) t c.scope (Nowhere xt) (new_line wi)) (λ f xs. CallFits core c.scope f xs (results.One xt)) t nc at.fits.2;
        line = record {
          kind = refl;
          matches = record { vars = HasAll-own wi (Nowhere xt) 0 at.line.matches.vars; dest = tt };
          stack = (at.fits.0, waiting t none_of at.line (λ y h. or_right (cased t y) (rest_cased u y) h) at.room.free.0.0 (let h = at.room.narrow in omega (arith, h)) at.fits.1 lu at.fits.3 (λ q e. absurd (false≢true (sym (tells_none wi core t q nc) ∙ e))), at.line.stack, at.group);
          under = (under_scalar (cased t) (pend told none_of c), at.line.under);
          given = at.line.given;
          calm = (calm_loosened (cased t) (pend told none_of c), all_calm_less (rest_cased (Part wi (On kind.Scalar x xt t) u)) (cased t) k (λ y h. or_left (cased t y) (rest_cased u y) h) at.line.calm);
        };
        memory = at.memory;
        ties = at.ties;
        owes = sym (resume-with core m.depth k (means core m.depth t c.env) (λ v. rest_means core m.depth u ((x.0, v) ∷ c.env))) ∙ at.owes;
        counted = goes_on_counted (record { regions = omega arith; items = omega arith }) at.counted;
        room = record { free = tt; narrow = let h = at.room.narrow in omega (arith, h); nests = let h = at.room.nests.0 in omega (arith, h); all_room = (at.room.nests.1, at.room.all_room) };
      }

-- what a call means
call_means : (core : CoreTree) (n : ℕ) (f : ℕ) (g : FunctionTerm) (vs : List Datum) → function_at core.functions f ≡ Some g → core_calls core (suc n) f vs ≡ means core n g.body (bind (variables_from 0 g.parameters) vs [])
call_means core n f g vs e = ap (λ (o : Option FunctionTerm). of_function o (λ g. mean core.table (core_calls core n) g.body (bind (variables_from 0 g.parameters) vs []))) e

module _ (core : CoreTree) (code : CodeTree) (ok : AreBodies core code) (owed : Owed) (own : Owned) (sh : Share) where
  -- by the calls that are left
  pub does_call : (n : ℕ) (m : State) {s : Store} {c : Ctx} {k : Kont} (f : Name) (xs : List Atom) (l z : ℕ) → IsAt code m.ip (Call (function_number core.functions f.0) (operands xs)) → AreAt code (m.ip + 1) (gots c.line.within core f.0 xs) l → AreAt code l (call_ending (end_of c.line.overs k)) z
      → AtTerm core code owed own sh s (record m { depth = n }) (CallTerm f xs) c k → Moves core code owed own sh s (record m { depth = n })
  does_call zero m {s} {c} {k} f xs l z e eg en at =
      let here = record m { depth = 0 } in
      silent (step_is code here (Call (function_number core.functions f.0) (operands xs)) at.ready e) (unwound_safe core code owed own sh Deep s here m.pars (sym at.owes ∙ resume-stop core zero k Deep) (ap lefts at.ties.pars ∙ lefts_sides core zero m.level k ∙ ap (λ (q : List Debt). length q) at.ties.sides))
  does_call (suc n) m {s} {c} {k} f xs l z e eg en at =
      let fit = at.fits.1 in
      let g = fit.function in
      let j = function_number core.functions f.0 in
      let body = ok.bodies f.0 g fit.named in
      let size = slots_at code.functions j in
      let ws = frame size (words m.words (operands xs)) in
      let vs = map (value c.env) xs in
      let cur = cursor m.regions in
      let asked : ℕ → Bool = λ q. has_ended (ended core) f.0 q in
      let packed : one_scalar (due k) ≡ false = sym (ap one_scalar at.line.kind) ∙ call_packed c.dest at.fits.0 in
      let line = body_line (within_function core g) size g.parameters vs ws (dest_of g.result) c.front in
      silent (step_is code (record m { depth = suc n }) (Call j (operands xs)) at.ready e) (rests (at_term {u = Plain g.body} {c = line} {k = KCall (givens g.parameters (words m.words (operands xs)) vs) (pend c.line.pending asked c) k} record {
        ready = refl;
        group = call_group code.laid s c.dest g.result [] m.regions at.fits.0 fit.result at.group;
        low = body.low;
        fits = body.fits;
        line = record {
          kind = result_type g.result ∙ fit.result ∙ at.line.kind;
          matches = record { vars = body_vars (within_function core g) code.laid s m.words c size g.parameters xs (dest_of g.result) c.front at.line.matches.vars fit.arguments; dest = call_dest code.laid s m.words ws c line c.dest g.result cur refl at.fits.0 fit.result at.line.matches.dest };
          stack = (
            refl,
            l,
            z,
            record { within = c.line.within; name = f.0; parameters = g.parameters; arguments = xs; gots = eg; given = refl; fits = fit.arguments; asked = λ q h. h },
            en,
            packed,
            record { vars = (Matches-pend c.line.pending asked at.line.matches).vars; under = at.line.under; given = given_keeps c (pend c.line.pending asked c) 0 (given_of k) (keeps_line c (await_call asked (await c.line.pending c.line))) (λ y. goes-refl (c.scope y)) at.line.given; meets = at.fits.2 },
            at.line.stack,
          );
          under = tt;
          given = body_given (within_function core g) size g.parameters (words m.words (operands xs)) vs (dest_of g.result) c.front body.enough;
          calm = tt;
        };
        memory = heads_less (λ q. let i = no_result_cover code.laid line.head g.result k q in let j = kont_less code.laid c.head c.dest k q in omega (arith, i, j)) at.memory;
        ties = at.ties;
        owes = sym (ap (resume core (suc n) k) (call_means core n f.0 g vs fit.named)) ∙ at.owes;
        counted = subst (λ (o : Outcome). Counted m.regions (plus (costs core n m.level g.body (bind (variables_from 0 g.parameters) vs [])) (later_costs core (suc n) m.level k o)) sh) (call_means core n f.0 g vs fit.named)
            (subst (λ (b : Cost). Counted m.regions (plus b (later_costs core (suc n) m.level k (core_calls core (suc n) f.0 vs))) sh) (call_costs_same core n m.level f xs g c.env fit.named) at.counted);
        room = record { free = tt; narrow = body.nests; nests = let h = at.room.nests in let b = body.nests in omega (arith, h, b); all_room = at.room.all_room };
      }))

  pub does_scalar_call : (n : ℕ) (m : State) {s : Store} {u : Rest} {c : Ctx} {k : Kont} (x : Variable) (xt : Ty) (wi : Within) (f : Name) (xs : List Atom) (z : ℕ) → IsAt code m.ip (CallScalar x.0 (function_number core.functions f.0) (operands xs)) → AreAt code (m.ip + 1) (gots wi core f.0 xs) z → RestCode core code c.line.within c.scope z u (end_of c.line.overs k)
      → AtRest core code owed own sh s (record m { depth = n }) (Part wi (On kind.Scalar x xt (CallTerm f xs)) u) c k → Moves core code owed own sh s (record m { depth = n })
  does_scalar_call zero m {s} {u} {c} {k} x xt wi f xs z e gts lu at =
      let here = record m { depth = 0 } in
      silent (step_is code here (CallScalar x.0 (function_number core.functions f.0) (operands xs)) at.ready e) (unwound_safe core code owed own sh Deep s here m.pars (sym at.owes ∙ resume-stop core zero k Deep) (ap lefts at.ties.pars ∙ lefts_rest core zero m.level u c.env (pars_of k) (sides_of core zero (level_after m.level u) k) (lefts_sides core zero (level_after m.level u) k) ∙ ap (λ (q : List Debt). length q) at.ties.sides))
  does_scalar_call (suc n) m {s} {u} {c} {k} x xt wi f xs z e gts lu at =
      let fit = at.fits.2 in
      let g = fit.function in
      let j = function_number core.functions f.0 in
      let body = ok.bodies f.0 g fit.named in
      let size = slots_at code.functions j in
      let ws = frame size (words m.words (operands xs)) in
      let vs = map (value c.env) xs in
      let cur = cursor m.regions in
      let asked : ℕ → Bool = λ q. has_ended (ended core) f.0 q in
      let t = CallTerm f xs in
      let line = body_line (within_function core g) size g.parameters vs ws (dest_of g.result) cur in
      silent (step_is code (record m { depth = suc n }) (CallScalar x.0 j (operands xs)) at.ready e) (rests (at_term {u = Plain g.body} {c = line} {k = KCallScalar x.0 xt (givens g.parameters (words m.words (operands xs)) vs) u (loosened (cased t) (pend (side_tells wi core t) asked c)) k} record {
        ready = refl;
        group = subst (λ (q : Results Ty). Group code.laid s (dest_of q) [] m.regions) (sym fit.result) (result_group code.laid s xt [] m.regions);
        low = body.low;
        fits = body.fits;
        line = record {
          kind = result_type g.result ∙ fit.result;
          matches = record { vars = body_vars (within_function core g) code.laid s m.words c size g.parameters xs (dest_of g.result) cur at.line.matches.vars fit.arguments; dest = result_dest code.laid s ws line g.result cur refl };
          stack = (
            at.fits.0,
            refl,
            z,
            record { within = wi; name = f.0; parameters = g.parameters; arguments = xs; gots = gts; given = refl; fits = fit.arguments; asked = λ q h. h },
            (λ q h. h),
            waiting t asked at.line (λ y h. or_right (cased t y) (rest_cased u y) h) at.room.free.0.0 (let h = at.room.narrow in omega (arith, h)) at.fits.1 lu at.fits.3 (λ q h. call_settled wi core f.0 c.scope q xs g.parameters fit.arguments h),
            at.line.stack,
            at.group,
          );
          under = tt;
          given = body_given (within_function core g) size g.parameters (words m.words (operands xs)) vs (dest_of g.result) cur body.enough;
          calm = tt;
        };
        memory = heads_less (λ q. let i = no_result_cover code.laid line.head g.result (KCallScalar x.0 xt (givens g.parameters (words m.words (operands xs)) vs) u (loosened (cased t) (pend (side_tells wi core t) asked c)) k) q in omega (arith, i)) at.memory;
        ties = at.ties;
        owes = sym (resume-with core (suc n) k (means core n g.body (bind (variables_from 0 g.parameters) vs [])) (λ v. rest_means core (suc n) u ((x.0, v) ∷ c.env)))
            ∙ sym (ap (λ (o : Outcome). resume core (suc n) k (Rattle.gib_syntax.specs.Meaning.with_value o (λ v. rest_means core (suc n) u ((x.0, v) ∷ c.env)))) (call_means core n f.0 g vs fit.named)) ∙ at.owes;
        counted = goes_on_counted (record { regions = omega arith; items = omega arith })
            (subst (λ (o : Outcome). Counted m.regions (plus (costs core n m.level g.body (bind (variables_from 0 g.parameters) vs [])) (cost_after o (λ v. left_costs core (suc n) m.level u ((x.0, v) ∷ c.env) k))) sh) (call_means core n f.0 g vs fit.named)
            (subst (λ (b : Cost). Counted m.regions (plus b (cost_after (core_calls core (suc n) f.0 vs) (λ v. left_costs core (suc n) m.level u ((x.0, v) ∷ c.env) k))) sh) (call_costs_same core n m.level f xs g c.env fit.named)
            (goes_on_counted (record { regions = omega arith; items = omega arith }) at.counted)));
        room = record { free = tt; narrow = body.nests; nests = let h = at.room.nests.0 in let b = body.nests in omega (arith, h, b); all_room = (at.room.nests.1, at.room.all_room) };
      }))
