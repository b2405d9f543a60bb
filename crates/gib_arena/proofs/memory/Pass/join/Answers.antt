use Rattle.std.proofs.Common.{rules, ◌≡◌, ℕ, arith, sym, ap, subst, ◌∙◌}
use Rattle.gib_mem.specs.Memory.{Grows}
use Rattle.gib_arena.specs.declared.view.View.{View}
use Rattle.gib_arena.specs.Bytes.{IsSound}
use Rattle.gib_arena.specs.Cells.{cells_of}
use Rattle.gib_arena.specs.Steps.{saw, IsSoundView}
use Rattle.gib_arena.specs.Passes.{cells}
use Rattle.gib_arena.proofs.Keeps.{joins, counts}
use Rattle.gib_arena.proofs.Standing.{mine_grows, his_grows, mine_fresh, his_fresh}
use Rattle.gib_arena.proofs.memory.Pass.join.Goals as goal

pub join_seat-requires : goal.join_seat-requires
join_seat-requires c = (search rules, search rules, search rules, omega arith, joins _ _ _ _ _ c.args.self.now.live c.args.other.live c.requires.out)

pub load-requires : goal.load-requires
load-requires c = (search rules, omega arith, counts _ _ _ _ (ap (λ m. m.0.branch.live) c.join_seat.ensures.2 ∙ c.args.self.now.live))

pub returns-clause-known : goal.returns-clause-known
returns-clause-known c = let p = c.args.self.now in let q = c.args.other in let j = ap (λ m. m.0) c.join_seat.ensures.2 in let l = c.load.ensures.2 in let n = c.load.result in
    let is = l.0 ∙ ap (λ (v : View). saw v n) j in let s = subst (λ (v : View). IsSoundView (saw v n)) j l.5 in
    (subst (λ (v : View). Grows (cells p) (cells_of v.holding)) (sym is) (mine_grows p.seat.me.0.branch.limit p.seat.me.0.holding q.seat.me.0.holding n s), subst (λ (v : View). Grows (cells q) (cells_of v.holding)) (sym is) (his_grows p.seat.me.0.branch.limit p.seat.me.0.holding q.seat.me.0.holding n s))

pub returns-clause-free : goal.returns-clause-free
returns-clause-free c = let p = c.args.self.now in let q = c.args.other in let j = ap (λ m. m.0) c.join_seat.ensures.2 in let l = c.load.ensures.2 in let n = c.load.result in
    let lim : p.seat.me.0.branch.limit ≡ q.seat.me.0.branch.limit = let w = ap (λ z. z.words) c.requires.of.0 in let w' = ap (λ z. z.words) c.requires.of.1 in let a = p.sized in let b = q.sized in omega arith in
    let is = l.0 ∙ ap (λ (v : View). saw v n) j in let s = subst (λ (v : View). IsSoundView (saw v n)) j l.5 in (
      λ a e. ap (λ (v : View). cells_of v.holding a) is ∙ mine_fresh p.seat.me.0.branch.limit p.seat.me.0.holding q.seat.me.0.holding n (subst (λ (k : ℕ). IsSound k q.seat.me.0.holding) (sym lim) q.sound) s a e,
      λ a e. ap (λ (v : View). cells_of v.holding a) is ∙ his_fresh p.seat.me.0.branch.limit p.seat.me.0.holding q.seat.me.0.holding n p.sound s a e,
    )
