use Rattle.std.proofs.Common.{◌≡◌, Some, slice_get, ap, ◌∙◌, subst}
use Rattle.gib_mono.proofs.Sourcing.{there_is, within_datas}
use Rattle.gib_mono.proofs.source.Source.data_decl.Goals as goal

pub returns : goal.returns
returns c =
    let same = c.datas.ensures.value ∙ ap (λ p. p.datas) c.program.ensures.value in
    subst (λ ds. slice_get ds c.args.place ≡ Some c.index-datas-place.result) same
    (there_is c.datas.result.now c.args.place c.index-datas-place.result (within_datas c.datas.result.now c.args.self.now c.args.place same c.requires) c.index-datas-place.is)
