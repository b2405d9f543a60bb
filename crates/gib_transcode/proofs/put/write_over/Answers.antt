use Rattle.std.proofs.Common.{◌≡◌, ◌+◌, ◌-◌, ℕ, List, ◌++◌, length, take, drop, ap, ◌∙◌, arith}
use Rattle.gib_transcode.proofs.Overs.{over_is}
use Rattle.gib_transcode.proofs.put.write_over.Goals as goal

pub returns : goal.returns
returns c =
    ap (λ (l : List ℕ). take c.args.place c.args.out.now ++ (l ++ drop (c.args.place + length c.args.bytes.now - c.args.place) (drop c.args.place c.args.out.now))) c.copy_from_slice.ensures.after
    ∙ over_is c.args.place (c.args.place + length c.args.bytes.now - c.args.place) c.args.bytes.now c.args.out.now (omega arith) c.requires
