use Rattle.std.proofs.Common.{ℕ, ◌+◌, ◌*◌, ap, sym, ◌∙◌}
use Rattle.gib_load.specs.Preorder.{heads}
use Rattle.gib_load.specs.Placement.{Open, place_heads}
use Rattle.gib_load.proofs.Ends.{begun_by, tree_placement, finished_placement, refused_start, refused_head}
use Rattle.gib_load.proofs.loading.place_tree.Goals as goal

pub place_heads-requires-clause-alone : goal.place_heads-requires-clause-alone
place_heads-requires-clause-alone g c = (begun_by _ _ _ _ _ c.requires.tails c.requires.alone c.in-Ok.ensures.begins).alone

pub place_heads-requires-clause-owned : goal.place_heads-requires-clause-owned
place_heads-requires-clause-owned g c = (begun_by _ _ _ _ _ c.requires.tails c.requires.alone c.in-Ok.ensures.begins).behind

pub returns-in-Err-clause-full : goal.returns-in-Err-clause-full
returns-in-Err-clause-full g c = λ t v p. refused_start c.args.layouts.now (g.M.Mem.view c.args.mem.now) t v (g.M.Mem.view c.begin.new.mem) p.0 c.requires.alone c.in-Err.ensures.full

pub returns-in-Ok-place_heads-clause-placed : goal.returns-in-Ok-place_heads-clause-placed
returns-in-Ok-place_heads-clause-placed g c = λ t v p.
    let b = begun_by _ _ _ _ _ c.requires.tails c.requires.alone c.in-Ok.ensures.begins in
    let placed = c.in-Ok-place_heads.ensures.placed t v p ∙ ap (λ (r : Open). place_heads c.args.layouts.now r (heads v)) b.is in
    finished_placement (g.M.Mem.view c.args.mem.now) _ _ _ _ _ _ _ b c.place-root.ensures c.finish.ensures
    ∙ tree_placement c.args.layouts.now (g.M.Mem.view c.args.mem.now) t v _ p.0 placed

pub returns-in-Err-place_heads-clause-full : goal.returns-in-Err-place_heads-clause-full
returns-in-Err-place_heads-clause-full g c = λ t v p.
    let b = begun_by _ _ _ _ _ c.requires.tails c.requires.alone c.in-Ok.ensures.begins in
    refused_head c.args.layouts.now (g.M.Mem.view c.args.mem.now) v _ _ _ _ b (c.in-Err-place_heads.ensures.full t v p)

pub returns-in-Err-place_heads-clause-none : goal.returns-in-Err-place_heads-clause-none
returns-in-Err-place_heads-clause-none g c = (begun_by _ _ _ _ _ c.requires.tails c.requires.alone c.in-Ok.ensures.begins).none
