-- A task that keeps what it owes.
use Rattle.std.specs.Prelude.{◌≡◌, ℕ, suc, ◌+◌, ◌<◌, ◌≤◌, Bool, true, List, [], ◌∷◌, length, slice_get, FitsSigned}
use Rattle.std.specs.Int.{w64}
use Rattle.gib_types.specs.declared.table.Ty.{Ty}
use Rattle.gib_types.specs.declared.table.Ty.TheVariants.{Whole, Truth, Tree}
use Rattle.gib_types.specs.Layout.{LaidOut}
use Rattle.gib_types.specs.Tree.{Datum, whole, truth}
use Rattle.gib_syntax.specs.Results as results
use Rattle.gib_syntax.specs.Results.{Results}
use Rattle.gib_syntax.specs.Meaning.{Environment, Outcome, Gives, Stops, tuple}
use Rattle.gib_mem.specs.Memory.{Store, absent, open_chunk, Grows, Reads}
use Rattle.gib_core.specs.Tree.{Term, CoreTree}
use Rattle.gib_types.specs.declared.reason.Reason.{Reason}
use Rattle.gib_code.specs.declared.answer.Answer.{Answer}
use Rattle.gib_code.specs.declared.answer.Answer.TheVariants as answer
use Rattle.gib_code.specs.declared.instruction.AnswerType.{AnswerType}
use Rattle.gib_code.specs.Program.{CodeTree}
use Rattle.gib_core.specs.Fits.{dest_type}
use Rattle.gib_core.specs.Low.{answer_type}
use Rattle.gib_region.specs.Count.{Count, Balanced}
use Rattle.gib_core.specs.Cost.{Cost, plus}
use Rattle.gib_machine.specs.State.{Slots, Frame, Open as OpenRegion, cursor, State, Ready, Over, Unwinding, Par, times, nesting, Ask, Silent, Get, Put, Draw, AtFork, AtJoin, Ended, cursor}
use Rattle.gib_machine.specs.Machine.{next}
use Rattle.gib_machine.specs.Sides.{Waiting, left_starts, right_of, side_start, takes, joins}
use Rattle.gib_machine.specs.Levels.{lefts}
use Rattle.gib_weave.specs.Environment.{Ctx, IsArgument, Matches, StandsAt, AreGiven}
use Rattle.gib_weave.specs.Continuing.{AllCalm, AllUnder, Kont, Next, Plain, Rest, RestCode, RestFits, due, end_of, pars_of, rest_cased, rest_nest, rest_pars, root, side_of, given_of, made, needs_of}
use Rattle.gib_weave.specs.Groups.{Group}
use Rattle.gib_weave.specs.Owing.{Debt, Owed, level_after, rest_means, rest_sides, resume, sides_of}
use Rattle.gib_weave.specs.Paying.{AtMost, Counted, Share, Spends, left_costs, new_share, with_count, with_rest, with_side}
use Rattle.gib_weave.specs.Places.{AllFresh, AllRoom, Apart, HasRoom, HaveRoom, IsNew, IsSmall, Owned, TailsHaveRoom, freed, heads, put_all, rest_covers, tail_covers, with_chunk}
use Rattle.gib_weave.specs.Stacks.{Stack}

-- A line, whichever term of it is next: its frame and what was given to it are as it says, so are the machine's stacks, and no line that
-- waits relies on what may be looked at.
pub record OnLine (core : CoreTree) (code : CodeTree) (s : Store) (sl : Slots) (fs : List Frame) (rs : List OpenRegion) (c : Ctx) (k : Kont) (cases : ℕ → Bool) : Type 0 where
  pub kind : dest_type c.dest ≡ due k
  pub matches : Matches code.laid s sl c (cursor rs)
  pub stack : Stack core code s k sl fs c.front rs
  pub under : AllUnder c.scope c.env k
  pub given : AreGiven c 0 (given_of k)
  pub calm : AllCalm cases k

-- The task's places are its own, fresh and apart; behind each cursor and tail there is room for a redirect.
pub record InMemory (own : Owned) (s : Store) (heads : ℕ → ℕ) (rs : List OpenRegion) (ts : List ℕ) : Type 0 where
  pub places : Apart own s (λ q. heads q + (rest_covers rs q + tail_covers ts q))
  pub rooms : HaveRoom rs
  pub tail_rooms : TailsHaveRoom ts
  pub small : IsSmall s

-- What ties a task to others: what its right sides owe that are not joined, its `par`s, the slots with which a stolen side ends, its type.
pub record Ties : Type 0 where
  pub debts : List Debt
  pub marks : List Par
  pub slots : List ℕ
  pub root : Results Ty

-- By what is next in a line, and the lines that wait.
abbrev pub ties_of : CoreTree → (d n : ℕ) → Rest → Environment → Kont → Ties
ties_of core d n u env k = record {
  debts = rest_sides core d n u env (sides_of core d (level_after n u) k);
  marks = rest_pars u (pars_of k);
  slots = side_of k;
  root = root k;
}

-- The task has these ties, and so has its machine.
pub record IsTied (owed : Owed) (ps : List Par) (xs : List ℕ) (ty : AnswerType) (ties : Ties) : Type 0 where
  pub sides : ties.debts ≡ owed.sides
  pub pars : ps ≡ ties.marks
  pub side : xs ≡ ties.slots
  pub result : ty ≡ answer_type ties.root
  pub type : owed.ty ≡ ties.root

-- What is next may follow here, with so many calls and so much room left: it is free of what it may not use, and it and the lines that
-- wait have room for what they open, in frames of which each opens no more than w at a time.
pub record MayFollow (w d : ℕ) (u : Rest) (r : ℕ) (k : Kont) : Type 0 where
  pub free : Next u k
  pub narrow : rest_nest u ≤ w
  pub nests : HasRoom (times d w) u r
  pub all_room : AllRoom w d (freed u r) k

-- A task at what is next in a line: its code, its line, the parts that are made, its places, its ties to others, what it owes, what it
-- may cost, its room.
pub record AtRest (core : CoreTree) (code : CodeTree) (owed : Owed) (own : Owned) (sh : Share) (s : Store) (m : State) (u : Rest) (c : Ctx) (k : Kont) : Type 0 where
  pub ready : m.doing ≡ Ready
  pub low : RestCode core code c.line.within c.scope m.ip u (end_of c.line.overs k)
  pub fits : RestFits core (needs_of k) u c.scope c.dest c.line
  pub line : OnLine core code s m.words m.frames m.regions c k (rest_cased u)
  pub group : Group code.laid s c.dest (made u) m.regions
  pub memory : InMemory own s (heads code.laid c.head c.dest k) m.regions m.tails
  pub ties : IsTied owed m.pars m.side m.result (ties_of core m.depth m.level u c.env k)
  pub owes : resume core m.depth k (rest_means core m.depth u c.env) ≡ owed.all
  pub counted : Counted m.regions (left_costs core m.depth m.level u c.env k) sh
  pub room : MayFollow (nesting code) m.depth u m.room k

-- A task at the start of a term.
abbrev pub AtTerm : CoreTree → CodeTree → Owed → Owned → Share → Store → State → Term → Ctx → Kont → Type 0
AtTerm core code owed own sh s m u c k = AtRest core code owed own sh s m (Plain u) c k

-- A left side has no value: its task stands at the join, whose right side is not looked at.
pub record IsUnwinding (owed : Owed) (m : State) : Type 0 where
  pub why : Reason
  pub unwinding : m.doing ≡ Unwinding why
  pub par : Par
  pub outer : List Par
  pub pars : m.pars ≡ par ∷ outer
  pub left : par.left ≡ true
  pub count : suc (lefts outer) ≡ length owed.sides
  pub owes : owed.all ≡ Stops why

-- The words are those of values of these types; further ones may follow.
abbrev pub PartsAnswer : LaidOut → Store → List Ty → List ℕ → List Datum → Type 0
PartsAnswer laid s [] ws [] = Unit {0}
PartsAnswer laid s [] ws (v ∷ vs) = ⊥
PartsAnswer laid s (ty ∷ tys) [] vs = ⊥
PartsAnswer laid s (ty ∷ tys) (w ∷ ws) [] = ⊥
PartsAnswer laid s (ty ∷ tys) (w ∷ ws) (v ∷ vs) = IsArgument laid s ty w v × PartsAnswer laid s tys ws vs

-- The answer is what was owed.
abbrev pub IsAnswer : LaidOut → Store → Results Ty → Outcome → Answer → Type 0
IsAnswer laid s ty owed (answer.At a) = (t : ℕ) × (v : Datum) × (ty ≡ results.One (Tree (record { 0 = t }))) × (owed ≡ Gives v) × StandsAt laid s t a v
IsAnswer laid s ty owed (answer.Whole z) = (ty ≡ results.One Whole) × FitsSigned w64 z × (owed ≡ Gives (whole z))
IsAnswer laid s ty owed (answer.Truth b) = (ty ≡ results.One Truth) × (owed ≡ Gives (truth b))
IsAnswer laid s ty owed (answer.Parts ws) = (tys : List Ty) × (vs : List Datum) × (ty ≡ results.Several tys) × (owed ≡ Gives (tuple vs)) × PartsAnswer laid s tys ws vs
IsAnswer laid s ty owed (answer.NoValue why) = owed ≡ Stops why

-- A task between two instructions: at what is next in a line, unwinding, or over.
pub data Rests (core : CoreTree) (code : CodeTree) (owed : Owed) (own : Owned) (sh : Share) (s : Store) (m : State) : Type 0 where
  at_term : {u : Rest} {c : Ctx} {k : Kont} → AtRest core code owed own sh s m u c k → Rests core code owed own sh s m
  unwinds : IsUnwinding owed m → Rests core code owed own sh s m
  -- no side is left
  over : {a : Answer} → m.doing ≡ Over a → owed.sides ≡ [] → IsAnswer code.laid s owed.ty owed.all a → Rests core code owed own sh s m

mutual
  -- Whatever the memory answers, the running instruction gets what is known, puts what is fresh, pays for what it does, and comes
  -- to rest.
  pub data Safe (core : CoreTree) (code : CodeTree) (owed : Owed) : Owned → Share → Store → State → Type 0 where
    rests : {own : Owned} {sh : Share} {s : Store} {m : State} → Rests core code owed own sh s m → Safe core code owed own sh s m
    -- what was done so far, or is left, is counted anew
    counts : {own : Owned} {sh sh' : Share} {s : Store} {m : State} → Spends sh sh' 0 → Safe core code owed own sh' s m → Safe core code owed own sh s m
    moves : {own : Owned} {sh : Share} {s : Store} {m : State} → Moves core code owed own sh s m → Safe core code owed own sh s m

  -- What it does next is safe, whatever the memory answers.
  pub data Moves (core : CoreTree) (code : CodeTree) (owed : Owed) : Owned → Share → Store → State → Type 0 where
    silent : {own : Owned} {sh : Share} {s : Store} {m m' : State} → next code m ≡ Silent m' → Safe core code owed own sh s m' → Moves core code owed own sh s m
    get : {own : Owned} {sh : Share} {s : Store} {m : State} {a n x : ℕ} {k : ℕ → State} → next code m ≡ Get a n k → Reads s a (suc n) x → Safe core code owed own sh s (k x) → Moves core code owed own sh s m
    puts : {own : Owned} {sh : Share} {s : Store} {m m' : State} {a b : ℕ} {bs : List ℕ} → next code m ≡ Put a b bs m' → AllFresh own s a (length (b ∷ bs)) → Safe core code owed own sh (put_all s a (b ∷ bs)) m' → Moves core code owed own sh s m
    draws : {own : Owned} {sh : Share} {s : Store} {m : State} {k : ℕ → State} (sh' : ℕ → Share) → next code m ≡ Draw k → ((c : ℕ) → IsNew s c → Spends sh (sh' c) 1)
        → ((c : ℕ) → IsNew s c → Safe core code owed (with_chunk own c) (sh' c) (open_chunk s c) (k c)) → Moves core code owed own sh s m
    ended : {own : Owned} {sh : Share} {s : Store} {m : State} {a : Answer} → next code m ≡ Ended a → owed.sides ≡ [] → IsAnswer code.laid s owed.ty owed.all a → Moves core code owed own sh s m

-- A right side that is not begun is safe in this store and in each later one, owning nothing, with all that it may cost left.
pub record SideSafe (core : CoreTree) (code : CodeTree) (d : Debt) (s : Store) (w : Waiting) : Type 0 where
  pub safe : (r : Store) → Grows s r → IsSmall r → Safe core code (record { ty = d.ty; all = d.owed; sides = [] }) (λ q. 0) (new_share d.most) r (side_start code w)

-- At a fork: the left side is safe, with one more side that is not joined, whose cost is paid for; the right side is safe for
-- whoever begins it.
pub record Forks (core : CoreTree) (code : CodeTree) (owed : Owed) (own : Owned) (sh : Share) (s : Store) (m : State) : Type 0 where
  pub room : 0 < m.room
  pub debt : Debt
  pub rest : Cost
  pub pays : AtMost (plus debt.most rest) sh.rest
  pub left : Safe core code (record { ty = owed.ty; all = owed.all; sides = debt ∷ owed.sides }) own (with_rest sh rest) s (left_starts m (slice_get code.instructions m.ip))
  pub right : SideSafe core code debt s (right_of m (slice_get code.instructions m.ip))

-- At a join: some side is not joined; it can be taken, with what it may cost, and any answer that it owes can be, whatever was
-- done for it.
pub record Meets (core : CoreTree) (code : CodeTree) (owed : Owed) (own : Owned) (sh : Share) (s : Store) (m : State) : Type 0 where
  pub debt : Debt
  pub others : List Debt
  pub sides : owed.sides ≡ debt ∷ others
  pub take : Safe core code (record { ty = owed.ty; all = owed.all; sides = others }) own (with_side sh debt.most) s (takes m)
  pub join : (a : Answer) (c : Count) → IsAnswer code.laid s debt.ty debt.owed a → Balanced c → Safe core code (record { ty = owed.ty; all = owed.all; sides = others }) own (with_count sh c) s (joins m a)

-- The task is safe once this was spent.
abbrev pub Leads : CoreTree → CodeTree → Owed → Owned → Share → ℕ → Store → State → Type 0
Leads core code owed own sh drew s m = (sh' : Share) × Spends sh sh' drew × Safe core code owed own sh' s m

-- What a task owes in the next event, by what its machine asks.
abbrev pub After : CoreTree → CodeTree → Owed → Owned → Share → Store → State → Ask → Type 0
After core code owed own sh s old (Silent m) = Leads core code owed own sh 0 s m
After core code owed own sh s old (Get a n k) = (x : ℕ) × Reads s a (suc n) x × Leads core code owed own sh 0 s (k x)
After core code owed own sh s old (Put a b bs m) = AllFresh own s a (length (b ∷ bs)) × Leads core code owed own sh 0 (put_all s a (b ∷ bs)) m
After core code owed own sh s old (Draw k) = (c : ℕ) → IsNew s c → Leads core code owed (with_chunk own c) sh 1 (open_chunk s c) (k c)
After core code owed own sh s old AtFork = (sh' : Share) × Spends sh sh' 0 × Forks core code owed own sh' s old
After core code owed own sh s old AtJoin = (sh' : Share) × Spends sh sh' 0 × Meets core code owed own sh' s old
After core code owed own sh s old (Ended a) = (owed.sides ≡ []) × IsAnswer code.laid s owed.ty owed.all a

-- The store went from s to r by steps of others: what is known stays, what is this task's own is as it was, and no chunk was
-- given back.
pub record Others (own : Owned) (s r : Store) : Type 0 where
  pub grows : Grows s r
  pub mine : (q : ℕ) → 0 < own q → r q ≡ s q
  pub drawn : (q : ℕ) → r q ≡ absent → s q ≡ absent
  pub small : IsSmall r
