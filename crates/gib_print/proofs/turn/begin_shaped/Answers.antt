use Rattle.std.proofs.Common.{ap, arith}
use Rattle.gib_types.specs.declared.layouts.Layout.{Layout}
use Rattle.gib_packed.proofs.WalkLemmas.{known_below}
use Rattle.gib_print.proofs.HeadLemmas.{found_con}
use Rattle.gib_print.proofs.ShapeLemmas.{shape_at, no_shape}
use Rattle.gib_print.proofs.turn.begin_shaped.Goals as goal

pub bounds-shapes-head : goal.bounds-shapes-head
bounds-shapes-head g c =
    let known = found_con c.find_head-head.ensures.finds c.requires.4 in
    omega (arith, known, c.requires.2.all)

pub open_head-requires-clause-place : goal.open_head-requires-clause-place
open_head-requires-clause-place g c =
    let head = c.find_head-head.result in
    let f = c.find_head-head.ensures.finds in
    let is = shape_at c.requires.2 (found_con f c.requires.4) no_shape in
    let low = (known_below (g.M.Mem.view c.args.mem.now) (g.met.M.Mem.bounded c.args.mem.now)).below head.place head.tag f.tag in
    omega (arith, low, c.requires.3 head.tag, ap (λ (l : Layout). l.head) is.layout)

pub open_head-requires-clause-scalars : goal.open_head-requires-clause-scalars
open_head-requires-clause-scalars g c =
    let is = shape_at c.requires.2 (found_con c.find_head-head.ensures.finds c.requires.4) no_shape in
    omega (arith, ap (λ (l : Layout). l.scalars) is.layout, ap (λ (l : Layout). l.head) is.layout)

pub returns-clause-opened : goal.returns-clause-opened
returns-clause-opened g c = λ laid names are d.
    let f = c.find_head-head.ensures.finds in
    let is = shape_at are (found_con f d) no_shape in
    c.open_head.ensures laid (g.M.Mem.view c.args.mem.now).cells c.args.at f d is.layout is.fields
