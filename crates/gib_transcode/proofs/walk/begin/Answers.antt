use Rattle.std.proofs.Common.{refl}
use Rattle.gib_transcode.specs.Fronts.{Enters}
use Rattle.gib_transcode.proofs.Walking.{if_some, walks_first}
use Rattle.gib_transcode.proofs.walk.begin.Goals as goal

pub returns : goal.returns
returns c =
    let e = if_some _ _ (λ x. Enters c.args.types.now c.args.names.now.short c.args.ty x.0.0 c.in-Some.inner.now x.1.now c.new-out.result.items c.enter.new.out.items) c.in_ok-entered.ensures c.in-Some-entered.is in
    walks_first _ c.in-Some.ensures e c.new-out.ensures.items c.new.ensures.items _ refl
