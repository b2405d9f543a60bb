use Rattle.std.proofs.Common.{◌*◌, ℕ, refl, ap, sym, ◌∙◌, subst₂}
use Rattle.gib_mem.specs.Memory.{Memory, after_puts}
use Rattle.gib_region.specs.Region.{Placed, here, turned, HasRoom, pointer, Draws}
use Rattle.gib_region.proofs.cursor.reserve.Goals.{then-not-room+in-Some, else-not-room}
use Rattle.gib_region.proofs.cursor.reserve.Goals as goal

pub returns-clause-placed : goal.returns-clause-placed
returns-clause-placed g c = elim c.if-not-room.branch [
  | then-not-room+in-Some w ↦
      (let drew = w.in-Some.ensures in
      let draws : Draws (g.M.Mem.view c.args.mem.now) w.in-Some.chunk = record { order = drew.order.0; within = drew.order.1; alone = drew.alone } in
      let mem = ap (λ x. g.M.Mem.view x) w.mem-is ∙ w.put_pointer.ensures ∙ ap (λ (m : Memory). after_puts m c.args.cursor.now.at (pointer 255 (4096 * w.in-Some.chunk))) drew.some in
      let at = ap (λ x. x.at) w.cursor-is ∙ w.turn.ensures in
      subst₂ (λ (m : Memory) (a : ℕ). Placed (g.M.Mem.view c.args.mem.now) c.args.cursor.now.at c.args.k m a) (sym mem) (sym at)
      (turned (λ h. let no_room = w.if-not-room.ensures.means.1 h in cc) draws))
  | else-not-room w ↦
      (let room : HasRoom c.args.cursor.now.at c.args.k = w.if-not-room.ensures.means.0 refl in
      let mem = ap (λ x. g.M.Mem.view x) w.mem-is in
      let at = ap (λ x. x.at) w.cursor-is in
      subst₂ (λ (m : Memory) (a : ℕ). Placed (g.M.Mem.view c.args.mem.now) c.args.cursor.now.at c.args.k m a) (sym mem) (sym at) (here room))
]
