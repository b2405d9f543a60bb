-- What becomes of the pass of a task.
use Rattle.std.proofs.Common.{◌≡◌, ℕ, zero, suc, ◌+◌, ◌≤◌, List, [], ◌∷◌, ◌++◌, length, length-append, refl, sym, ap, subst, ◌∙◌, arith}
use Rattle.std.specs.Prelude.{Option, Some, None, Result, Ok, Err}
use Rattle.gib_mem.specs.Memory.{Holder, Grows, fresh, IsBounded}
use Rattle.gib_code.specs.declared.answer.Answer.{Answer}
use Rattle.gib_core.specs.LoweredParts.{LoweredParts}
use Rattle.gib_machine.specs.State.{Ended}
use Rattle.gib_machine.specs.Machine.{next}
use Rattle.gib_machine.specs.declared.turn.Turn.TheVariants as turn
use Rattle.gib_machine.proofs.Stands.{ended_one}
use Rattle.gib_weave.specs.Owing.{Debt}
use Rattle.gib_weave.specs.Places.{IsSmall}
use Rattle.gib_weave.specs.Sound.{IsAnswer}
use Rattle.gib_weave.proofs.Memories.{bounded_small}
use Rattle.gib_arena.specs.declared.memory.Arena.{Arena}
use Rattle.gib_arena.specs.declared.memory.Pass.{Pass}
use Rattle.gib_arena.specs.declared.view.View.{View}
use Rattle.gib_arena.specs.Bytes.{share}
use Rattle.gib_arena.specs.Steps.{joined_view, saw}
use Rattle.gib_arena.specs.Passes.{view, cells, IsOf}
use Rattle.gib_arena.specs.Shown.{shown, shown_alone}
use Rattle.gib_arena.specs.ShownLaws.{shown_bounded}
use Rattle.gib_frame.specs.declared.due.Due.{Due}
use Rattle.gib_frame.specs.declared.due.Ending.{Ending}
use Rattle.gib_frame.specs.declared.due.Ending.TheVariants as ending
use Rattle.gib_frame.specs.declared.ends.Frame.{Frame}
use Rattle.gib_frame.specs.Answers.{IsPaid, drawn_by}
use Rattle.gib_pool.specs.declared.active.ActiveTask.{ActiveTask}
use Rattle.gib_pool.specs.Turn.{Wider}
use Rattle.gib_pool.specs.Lent.{AreSplits, Lends}
use Rattle.gib_pool.specs.Frames.{before, lent_of, due_maybe, AreHere}
use Rattle.gib_pool.specs.Active.{Goes, IsSamePass, IsBackWhole, Settles, StandsAt, active_state}

-- What a pass shows keeps what every memory keeps.
pub pass_bounded : (a : Arena) (p : Pass) → IsOf a p → IsBounded (shown p.seat.table_id (view p))
pass_bounded a p of = shown_bounded p.seat.table_id a.table.shared.table_id (view p) a.limit of p.sound p.sized a.sized a.small

pub pass_small : (a : Arena) (p : Pass) → IsOf a p → IsSmall (cells p)
pass_small a p of = bounded_small (shown p.seat.table_id (view p)) (pass_bounded a p of)

pub wider : (a : Arena) (p q : Pass) → IsOf a q → Grows (cells p) (cells q) → ((x : ℕ) → cells p x ≡ fresh → cells q x ≡ fresh) → Wider (cells p) (cells q)
wider a p q of g f = record { known = g; free = f; small = pass_small a q of }

pub no_wider : (a : Arena) (p : Pass) → IsOf a p → Wider (cells p) (cells p)
no_wider a p of = record { known = record { kept = λ q b e. e }; free = λ q e. e; small = pass_small a p of }

-- A pass that works on lends what it lent.
pub lends_on : (p q : Pass) (lent : List (Option Due)) → q.seat.table_id ≡ p.seat.table_id → (shown q.seat.table_id (view q)).holder ≡ (shown p.seat.table_id (view p)).holder → Lends p lent → Lends q lent
lends_on p q lent same e h =
    let path = ap (λ (x : Holder). x.path) e in
    let splits = ap (λ (x : Holder). x.splits) e in
    record {
      splits = subst (λ z. AreSplits z (view q).branch.path (view q).branch.next lent) (sym same)
          (subst (λ x. AreSplits p.seat.table_id x (view q).branch.next lent) (sym path) (subst (λ x. AreSplits p.seat.table_id (view p).branch.path x lent) (sym splits) h.splits));
      out = ap (λ (x : Holder). x.out) e ∙ h.out;
    }

pub same_on : (p q r : Pass) → IsSamePass p q → IsSamePass q r → IsSamePass p r
same_on p q r a b = record { path = b.path ∙ a.path; limit = b.limit ∙ a.limit; known = record { kept = λ x y e. b.known.kept x y (a.known.kept x y e) } }

pub same_still : (p : Pass) → IsSamePass p p
same_still p = record { path = refl; limit = refl; known = record { kept = λ q b e. e } }

-- A refused frame lends nothing.
pub lends_none_more : (p : Pass) (lent : List (Option Due)) → Lends p lent → Lends p (None ∷ lent)
lends_none_more p lent h = record { splits = h.splits; out = h.out }

pub lends_none_less : (p : Pass) (lent : List (Option Due)) → Lends p (None ∷ lent) → Lends p lent
lends_none_less p lent h = record { splits = h.splits; out = h.out }

-- No more are here than there are.
pub here_few : (es : List (Option Due)) (n : ℕ) (mine : List Due) → AreHere es n mine → n ≤ length es
here_few [] zero mine a = omega arith
here_few [] (suc n) mine a = absurd a
here_few (None ∷ es) n mine a = let r = here_few es n mine a in omega (arith, r)
here_few (Some e ∷ es) zero mine a = omega arith
here_few (Some e ∷ es) (suc n) mine a = let r = here_few es n a.0 a.2 in omega (arith, r)

before_long : (xs : List (Option Frame)) (es : List (Option Due)) → length (before xs es) ≡ length xs + length es
before_long [] es = omega arith
before_long (x ∷ xs) es = let r = before_long xs (due_maybe x ∷ es) in omega (arith, r)

pub lent_long : (xs : List (Option Frame)) → length (lent_of xs) ≡ length xs
lent_long xs = let r = before_long xs [] in omega (arith, r)

pub one_more : (e : Due) (es : List (Option Due)) (n : ℕ) (mine more : List Due) → more ≡ mine ++ e ∷ [] → AreHere es n mine → AreHere (Some e ∷ es) (n + 1) more
one_more e es n mine more is a = let next : suc n ≡ n + 1 = omega arith in subst (λ (k : ℕ). AreHere (Some e ∷ es) k more) next (mine, is, a)

-- Where all chunks were seen drawn they still are.
pub full_still : (p q : Pass) → (view p).holding.seen ≡ (view p).branch.limit → IsSamePass p q → (view p).holding.seen ≤ (view q).holding.seen → (view q).holding.seen ≡ (view q).branch.limit
full_still p q full same more = let most = q.sound.seen_in in let limit = same.limit in omega (arith, full, limit, more, most)

-- What a pass drew that took in another, with what the other one drew.
pub joined_drawn : (p q p' : Pass) (n : ℕ) → view p' ≡ saw (joined_view (view p) (view q)) n → drawn_by p' ≡ drawn_by p + drawn_by q
joined_drawn p q p' n e = ap (λ (v : View). share v.holding) e ∙ length-append (view p).holding.chunks (view q).holding.chunks

pub joined_none : (p q p' : Pass) (n : ℕ) → view p' ≡ saw (joined_view (view p) (view q)) n → drawn_by q ≡ 0 → drawn_by p' ≡ drawn_by p
joined_none p q p' n e z = let j = joined_drawn p q p' n e in omega (arith, j, z)

-- What comes back whole of a pass that is the same one.
pub back_on : (a : Arena) (p q r : Pass) → IsSamePass p q → IsBackWhole a q r → IsBackWhole a p r
back_on a p q r same b = record { own = b.own; same = same_on p q r same b.same; none_out = b.none_out }

-- Who has fewer debts settles them too.
pub settles_for : (l : LoweredParts) (Has Had : Debt → Type 0) (e : Ending) (p : Pass) → ((d : Debt) → Had d → Has d) → Settles l Has e p → Settles l Had e p
settles_for l Has Had (ending.Answer a) p f s = λ d h. s d (f d h)
settles_for l Has Had ending.Full p f s = (s.0, λ d h. s.1 d (f d h))
settles_for l Has Had ending.NotRun p f s = s

-- A task whose machine has ended did so with what it owed.
pub ended_with : (l : LoweredParts) (d : Debt) (j : ActiveTask) (a : Answer) → StandsAt l d j turn.Ended → next l.code (active_state j) ≡ Ended a
    → IsAnswer l.code.laid (cells j.pass) d.ty d.owed a × IsPaid d.most (drawn_by j.pass)
ended_with l d j a s e = (subst (λ (x : Answer). IsAnswer l.code.laid (cells j.pass) d.ty d.owed x) (ended_one (next l.code (active_state j)) s.1 a s.2 e) s.3, s.4)

-- A task that stood again behind this goes on, or ends, from where it stood first.
pub goes_for : {Kept : Type 0} (a : Arena) (l : LoweredParts) (Has Had : Debt → Type 0) (j k : ActiveTask) (mine : List Due) (r : Result ActiveTask (Ending × Pass × Kept)) → IsSamePass j.pass k.pass → ((d : Debt) → Had d → Has d) → Goes a l Has k mine r → Goes a l Had j mine r
goes_for a l Has Had j k mine (Ok n) same f g = record { holds = g.holds; owes = λ d h. g.owes d (f d h); here = g.here; same = same_on j.pass k.pass n.pass same g.same }
goes_for a l Has Had j k mine (Err r) same f g = record { back = back_on a j.pass k.pass r.1 same g.back; settles = settles_for l Has Had r.0 r.1 f g.settles }

-- What the first pass shows, where no other one is out, keeps what every memory keeps.
pub root_bounded : (a : Arena) (p : Pass) → IsOf a p → IsBounded (shown_alone (view p))
root_bounded a p of = let b = pass_bounded a p of in record { above = b.above; order = b.order; small = b.small }
