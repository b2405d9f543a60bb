use Rattle.std.proofs.Common.{◌*◌, [], List, ℕ, sym, subst}
use Rattle.gib_mem.specs.Memory.{Memory, after_draw}
use Rattle.gib_region.specs.Region.{Begins, at_tail, at_chunk, Draws}
use Rattle.gib_region.proofs.tails.begin.Goals as goal

pub returns-in-Some-clause-begins : goal.returns-in-Some-clause-begins
returns-in-Some-clause-begins g c =
    let m = g.M.Mem.view c.args.mem.now in
    subst (λ (a : ℕ). Begins m c.args.tails.now m c.take.new.self a) (sym c.at_place.ensures) (at_tail c.in-Some.ensures.some)

pub returns-in-Some-draw-clause-begins : goal.returns-in-Some-draw-clause-begins
returns-in-Some-draw-clause-begins g c =
    let m = g.M.Mem.view c.args.mem.now in
    let drew = c.in-Some-draw.ensures in
    let draws : Draws m c.in-Some-draw.chunk = record { order = drew.order.0; within = drew.order.1; alone = drew.alone } in
    let b : Begins m c.args.tails.now (after_draw m c.in-Some-draw.chunk) [] (4096 * c.in-Some-draw.chunk) = at_chunk c.in-None.ensures.none.0 draws in
    let b1 = subst (λ (x : Memory). Begins m c.args.tails.now x [] (4096 * c.in-Some-draw.chunk)) (sym drew.some) b in
    let b2 = subst (λ (x : List ℕ). Begins m c.args.tails.now (g.M.Mem.view c.draw.new.self) x (4096 * c.in-Some-draw.chunk)) (sym c.in-None.ensures.none.1) b1 in
    subst (λ (a : ℕ). Begins m c.args.tails.now (g.M.Mem.view c.draw.new.self) c.take.new.self a) (sym c.at_place-in-Some-draw.ensures) b2
