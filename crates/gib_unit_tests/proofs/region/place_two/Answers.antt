use Rattle.std.proofs.Common.{◌≡◌, ℕ, ◌+◌, ◌*◌, ◌<◌, ◌≤◌, ◌^◌, List, length, sym, ap, subst, subst₂, ◌∙◌, arith}
use Rattle.gib_mem.specs.Memory.{Memory, Owned, after_puts}
use Rattle.gib_mem.proofs.Puts.{puts_past}
use Rattle.gib_region.specs.Region.{Behind, AreOwned, no_tails}
use Rattle.gib_region.specs.Leaving.{IsBounded}
use Rattle.gib_region.proofs.Placing.{leaves}
use Rattle.gib_region.proofs.Keeping.{begins_owned}
use Rattle.gib_unit_tests.proofs.region.place_two.Goals as goal

pub fill-requires : goal.fill-requires
fill-requires g c =
    let first : IsBounded (g.M.Mem.view c.args.mem.now) = g.met.M.Mem.bounded c.args.mem.now in
    let second : IsBounded (g.M.Mem.view c.begin.new.mem) = g.met.M.Mem.bounded c.begin.new.mem in
    let owned = subst (λ (l : List ℕ). AreOwned (g.M.Mem.view c.args.mem.now).cells l) (sym c.new-tails.ensures) no_tails in
    let begun = begins_owned _ _ _ _ _ first owned c.in-Ok.ensures.begins in
    let long = begun.long in
    let left = leaves _ _ _ _ _ second begun.behind (omega (arith, long)) (omega arith) c.in-Ok-reserve.ensures.placed in
    subst (λ (n : ℕ). Owned (g.M.Mem.view c.reserve.new.mem).cells c.in-Ok-reserve.at n) (sym c.requires) left.owned

pub point-requires : goal.point-requires
point-requires g c =
    let first : IsBounded (g.M.Mem.view c.args.mem.now) = g.met.M.Mem.bounded c.args.mem.now in
    let second : IsBounded (g.M.Mem.view c.begin.new.mem) = g.met.M.Mem.bounded c.begin.new.mem in
    let owned = subst (λ (l : List ℕ). AreOwned (g.M.Mem.view c.args.mem.now).cells l) (sym c.new-tails.ensures) no_tails in
    let begun = begins_owned _ _ _ _ _ first owned c.in-Ok.ensures.begins in
    let long = begun.long in
    let left = leaves _ _ _ _ _ second begun.behind (omega (arith, long)) (omega arith) c.in-Ok-reserve.ensures.placed in
    let behind : (bytes : List ℕ) (m : Memory) → m ≡ after_puts (g.M.Mem.view c.reserve.new.mem) c.in-Ok-reserve.at bytes → length bytes ≡ 65 → Behind m.cells (c.in-Ok-reserve.at + 65) =
    λ bytes m e n. subst (λ (x : Memory). Behind x.cells (c.in-Ok-reserve.at + 65)) (sym e) (record { owned = record { all = λ q x y. puts_past (g.M.Mem.view c.reserve.new.mem) c.in-Ok-reserve.at bytes q (omega (arith, n, x)) ∙ left.behind.all q x y } }) in
    subst (λ (a : ℕ). Behind (g.M.Mem.view c.fill.new.mem).cells a) (sym c.in-Ok-reserve.ensures.cursor) (behind c.args.bytes.now _ c.fill.ensures c.requires)
