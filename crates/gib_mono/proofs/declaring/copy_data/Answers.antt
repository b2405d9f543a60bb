use Rattle.std.proofs.Common.{◌∙◌}
use Rattle.gib_mono.proofs.Declarations.{data_made}
use Rattle.gib_mono.proofs.declaring.copy_data.Goals as goal

pub returns : goal.returns
returns c = λ d there.
    data_made c.args.source.now c.args.copier.now c.copy_constructors.new.copier c.enter.new.self c.args.place c.data_decl-data.result.now d c.args.types.now c.in_ok-meant.meant.items c.in_ok-variables.variables.items c.deref-2.result.now c.in_ok-name.name c.in_ok-constructors.constructors there
    c.data_decl-data.ensures (c.in_ok-variables.ensures.items ∙ c.deref.ensures.value) c.in_ok-meant.ensures.items c.deref-2.ensures.value c.in_ok-name.ensures c.enter.ensures c.in_ok-constructors.ensures
