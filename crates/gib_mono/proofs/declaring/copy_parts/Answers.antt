use Rattle.std.proofs.Common.{map}
use Rattle.gib_syntax.specs.GenericArena.{tree_of}
use Rattle.gib_syntax.specs.GenericParts.{parameter_in, results_in}
use Rattle.gib_mono.specs.Sources.{globals_in}
use Rattle.gib_mono.proofs.Declarations.{parts_made}
use Rattle.gib_mono.proofs.declaring.copy_parts.Goals as goal

pub returns : goal.returns
returns c =
    parts_made (globals_in c.args.source.now) c.args.copier.now c.copy_parameters.new.copier c.copy_results.new.copier c.copy_expression.new.copier c.in_ok-copied.copied (map (parameter_in c.args.source.now.exprs.words) c.args.parameters.now)
    c.in_ok-result.result (results_in c.args.source.now.exprs.words c.args.gives.now) c.in_ok-part.part (tree_of c.args.source.now.exprs c.args.body.0) c.in_ok-copied.ensures c.in_ok-result.ensures c.in_ok-part.ensures
