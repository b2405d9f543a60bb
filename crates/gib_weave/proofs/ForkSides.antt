-- The right sides that are not joined at a fork.
use Rattle.std.proofs.Common.{◌≡◌, ℕ, suc, List, length, Bool, cond, refl, sym, ap, ◌∙◌}
use Rattle.gib_mem.specs.Memory.{Store}
use Rattle.gib_code.specs.Program.{CodeTree}
use Rattle.gib_core.specs.Tree.{CoreTree}
use Rattle.gib_machine.specs.State.{State, Ask, Silent, Get, Put, Draw, AtFork, Doing}
use Rattle.gib_machine.specs.Machine.{next, goes_on}
use Rattle.gib_weave.specs.Owing.{Debt, Owed, level_after}
use Rattle.gib_weave.specs.Paying.{Share}
use Rattle.gib_weave.specs.Places.{Owned}
use Rattle.gib_machine.specs.Levels.{lefts}
use Rattle.gib_weave.specs.Sound.{Safe, Rests, at_term, unwinds, over, rests, counts, moves, silent, get, puts, draws, ended}
use Rattle.gib_weave.proofs.Ends.{lefts_rest, lefts_sides}

-- what is asked for is no fork
not_silent : {m : State} → Silent m ≡ AtFork → ⊥
not_silent e = absurd cc

not_get : {a n : ℕ} {k : ℕ → State} → Get a n k ≡ AtFork → ⊥
not_get e = absurd cc

not_put : {a b : ℕ} {bs : List ℕ} {m : State} → Put a b bs m ≡ AtFork → ⊥
not_put e = absurd cc

not_draw : {k : ℕ → State} → Draw k ≡ AtFork → ⊥
not_draw e = absurd cc

module _ (core : CoreTree) (code : CodeTree) (owed : Owed) where
  ended_there : (m : State) (d : Doing) (a : Ask) → m.doing ≡ d → goes_on code m d ≡ a → next code m ≡ AtFork → a ≡ AtFork
  ended_there m d a e f g = sym f ∙ ap (goes_on code m) (sym e) ∙ g

  rest_open : (own : Owned) (sh : Share) (s : Store) (m : State) → Rests core code owed own sh s m → next code m ≡ AtFork → lefts m.pars ≡ length owed.sides
  rest_open own sh s m (at_term {u} {c} {k} a) e =
      ap lefts a.ties.pars ∙ lefts_rest core m.depth m.level u c.env _ _ (lefts_sides core m.depth (level_after m.level u) k) ∙ ap (λ (ds : List Debt). length ds) a.ties.sides
  rest_open own sh s m (unwinds u) e =
      ap lefts u.pars ∙ ap (λ (b : Bool). cond b (suc (lefts u.outer)) (lefts u.outer)) u.left ∙ u.count
  rest_open own sh s m (over {a} d z h) e = absurd (let f = ended_there m _ _ d refl e in cc)

  pub fork_open : (own : Owned) (sh : Share) (s : Store) (m : State) → Safe core code owed own sh s m → next code m ≡ AtFork → lefts m.pars ≡ length owed.sides
  fork_open own sh s m (rests r) e = rest_open own sh s m r e
  fork_open own sh s m (counts {sh' = sh'} p x) e = fork_open own sh' s m x e
  fork_open own sh s m (moves (silent f x)) e = absurd (not_silent (sym f ∙ e))
  fork_open own sh s m (moves (get f b x)) e = absurd (not_get (sym f ∙ e))
  fork_open own sh s m (moves (puts f o x)) e = absurd (not_put (sym f ∙ e))
  fork_open own sh s m (moves (draws sh' f p x)) e = absurd (not_draw (sym f ∙ e))
  fork_open own sh s m (moves (ended f z h)) e = absurd (let g = sym f ∙ e in cc)
