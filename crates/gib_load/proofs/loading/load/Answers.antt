use Rattle.std.proofs.Common.{◌≤◌, ℕ, List, sym, subst, subst₂}
use Rattle.gib_types.specs.declared.table.Ty.{Ty}
use Rattle.gib_file.specs.Packed.{Packed}
use Rattle.gib_load.specs.Placement.{Placement}
use Rattle.gib_load.specs.Holding.{Holding}
use Rattle.gib_load.proofs.Spots.{Sizes, refused_spent}
use Rattle.gib_load.proofs.Sound.{placement_holds}
use Rattle.gib_load.proofs.loading.load.Goals as goal

pub returns-in-Ok-place_value-clause-holds : goal.returns-in-Ok-place_value-clause-holds
returns-in-Ok-place_value-clause-holds g c = λ v p.
    let sizes : Sizes c.args.layouts.now = record { rules = c.rules.ensures.table; heads = c.rules.ensures.long } in
    let bounded = g.met.M.Mem.bounded c.args.mem.now in
    let placed = c.in-Ok-place_value.ensures.placed v (subst₂ (λ (t : Ty) (b : List ℕ). Packed c.args.layouts.now.table t v b) (sym c.ty.ensures) (sym c.payload-payload.ensures.bytes) p) in
    let small = subst (λ (q : Placement). q.memory.drawn ≤ q.memory.limit) placed (g.met.M.Mem.bounded c.place_value.new.mem).order in
    subst (λ (q : Placement). Holding c.args.layouts.now c.args.survey.ty v q) (sym placed) (placement_holds c.args.layouts.now sizes (g.M.Mem.view c.args.mem.now) c.args.survey.ty v bounded c.requires.undrawn p.0 small)

pub returns-clause-spent : goal.returns-clause-spent
returns-clause-spent g c = λ full v p.
    let sizes : Sizes c.args.layouts.now = record { rules = c.rules.ensures.table; heads = c.rules.ensures.long } in
    refused_spent c.args.layouts.now sizes (g.M.Mem.view c.args.mem.now) v (g.M.Mem.view c.place_value.new.mem) c.requires.undrawn (c.in-Err-place_value.ensures.full v (subst₂ (λ (t : Ty) (b : List ℕ). Packed c.args.layouts.now.table t v b) (sym c.ty.ensures) (sym c.payload-payload.ensures.bytes) p))

pub place_value-requires-clause-begins : goal.place_value-requires-clause-begins
place_value-requires-clause-begins g c = record { small = c.in-Ok.ensures.small; first = c.in-Ok.ensures.first; plain = c.in-Ok.ensures.plain }
