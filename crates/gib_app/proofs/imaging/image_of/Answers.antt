use Rattle.std.proofs.Common.{◌≤◌, arith}
use Rattle.std.proofs.lemmas.Result.{IfOk-weaker}
use Rattle.gib_app.proofs.Imaged.{image_stands}
use Rattle.gib_app.proofs.imaging.image_of.Goals as goal

pub returns-clause-image : goal.returns-clause-image
returns-clause-image g c =
    let ran = c.args.ran.now in
    let before = g.M.Mem.view ran.memory in
    let bounded = g.met.M.Mem.bounded ran.memory in
    let order = bounded.order in
    let most = c.requires.few in
    let few : before.drawn ≤ 65536 = omega (arith, order, most) in
    IfOk-weaker c.image.result _ _ (λ bytes is. image_stands c.written_is_read.ensures ran.lowered.code.laid before ran.root bytes.items bounded few is) c.image.ensures.image
