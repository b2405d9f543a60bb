use Rattle.std.proofs.Common.{◌∙◌}
use Rattle.gib_mono.proofs.Declarations.{function_made}
use Rattle.gib_mono.proofs.declaring.copy_function.Goals as goal

pub returns : goal.returns
returns c = λ f there.
    function_made c.args.source.now c.args.copier.now c.copy_parts.new.copier c.enter.new.self c.args.place c.function_decl-function.result.now f c.args.types.now c.in_ok-meant.meant.items c.in_ok-variables.variables.items c.deref-2.result.now c.in_ok-name.name c.in_ok-parts.parts there
    c.function_decl-function.ensures.at (c.in_ok-variables.ensures.items ∙ c.deref.ensures.value) c.in_ok-meant.ensures.items c.deref-2.ensures.value c.in_ok-name.ensures c.enter.ensures c.in_ok-parts.ensures
