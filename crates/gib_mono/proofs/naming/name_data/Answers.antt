use Rattle.gib_mono.proofs.Named.{data_named}
use Rattle.gib_mono.proofs.Seeking.{if_ok}
use Rattle.gib_mono.proofs.naming.name_data.Goals as goal

pub returns : goal.returns
returns c = λ d there.
    if_ok _ _ c.put_constructors.result (λ u h. data_named c.args.source.now c.args.copier.now c.put_name.new.copier c.put_constructors.new.copier c.args.place c.data_decl-data.result.now d c.deref.result.now c.args.types.now there c.data_decl-data.ensures c.deref.ensures.value c.in_ok-put_name.ensures h)
    c.put_constructors.ensures
