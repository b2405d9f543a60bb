use Rattle.std.proofs.Common.{sym, subst}
use Rattle.gib_syntax.specs.declared.written.ResultRuns.{ResultRuns}
use Rattle.gib_syntax.specs.declared.tree.ResultTypes.TheVariants as result
use Rattle.gib_syntax.specs.GenericParts.{results_in}
use Rattle.gib_mono.specs.Declaring.{WritesResults}
use Rattle.gib_mono.proofs.Declarations.{one_written}
use Rattle.gib_mono.proofs.declaring.copy_results.Goals as goal

pub returns-in_ok-written-in-One : goal.returns-in_ok-written-in-One
returns-in_ok-written-in-One c =
    let words = c.args.source.now.exprs.words in
    subst (λ (r : ResultRuns). WritesResults c.args.copier.now c.copy_type.new.copier (result.One c.in_ok-written-in-One.written.name) (results_in words r)) (sym c.in-One.is)
    (one_written words c.args.copier.now c.copy_type.new.copier c.words.result.now c.in-One.run' c.in_ok-written-in-One.written c.words.ensures c.in_ok-written-in-One.ensures)
