use Rattle.std.proofs.Common.{ap, map, ◌∙◌}
use Rattle.gib_code.specs.Instruction.{instruction_of}
use Rattle.gib_core.specs.LoweredParts.{LoweredParts}
use Rattle.gib_lower.proofs.Wholes.{same_code, lowered_code, same_fits, runs_code}
use Rattle.gib_lower.proofs.program.lower.Goals as goal

pub make-requires-3 : goal.make-requires-3
make-requires-3 c =
    let source = c.in_ok-source.source in
    let same = c.in_ok-source.ensures ∙ c.into_core.ensures.value in
    let parts = c.in_ok-instructions in
    let code = same_code source c.args.checked c.into_parts-core.result.1 (map instruction_of parts.instructions.items) parts.functions.items c.new-code.result same c.into_parts-core.ensures.layouts parts.ensures.instructions parts.ensures.functions c.new-code.ensures in
    let core = c.make-2.ensures ∙ c.into_parts-core.ensures.core ∙ same in
    let lowered = lowered_code c.args.checked c.make-2.result c.new-code.result core code c.lowering_gives_its_code.ensures in
    record {
      lowered = lowered;
      fits = same_fits c.args.checked c.make-2.result core c.all_fits.ensures.named;
      runs = runs_code c.args.checked c.make-2.result c.into_parts-core.result.1 (map instruction_of parts.instructions.items) parts.functions.items c.new-code.result core c.new-code.ensures parts.ensures.few lowered c.all_fits.ensures.named c.all_fits.ensures.each c.code_that_fits_can_be_run.ensures;
    }

pub returns-clause-code : goal.returns-clause-code
returns-clause-code c =
    let source = c.in_ok-source.source in
    let same = c.in_ok-source.ensures ∙ c.into_core.ensures.value in
    let parts = c.in_ok-instructions in
    ap (λ (l : LoweredParts). l.code) c.make-3.ensures
    ∙ same_code source c.args.checked c.into_parts-core.result.1 (map instruction_of parts.instructions.items) parts.functions.items c.new-code.result same c.into_parts-core.ensures.layouts parts.ensures.instructions parts.ensures.functions c.new-code.ensures
