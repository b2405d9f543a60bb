use Rattle.std.proofs.Common.{sym, ◌∙◌}
use Rattle.gib_syntax.specs.Spelling.{places_of}
use Rattle.gib_reads.specs.Readers.{is_variable, var_at, many}
use Rattle.gib_reads.specs.Answers.{with_front}
use Rattle.gib_reads.proofs.SoFar.{one_more, all_read}
use Rattle.gib_reads.proofs.Many.{var_shrinks}
use Rattle.gib_reads.proofs.phrases.further_variables.Goals as goal

pub variables-preserved : goal.variables-preserved
variables-preserved c =
    let at = places_of c.args.spans.now in
    let all = with_front c.args.first.items (many is_variable (var_at at) c.args.tokens.now) in
    rw c.in_ok-push.ensures.items
    (one_more all is_variable (var_at at)
    (var_shrinks at) c.variables.rest.now c.in_ok-name.after.now c.variables.found.items c.in_ok-name.name c.variables.invariant
    (sym c.begins_variable.ensures ∙ c.variables-test.true) c.in_ok-name.ensures)

pub returns : goal.returns
returns c =
    let at = places_of c.args.spans.now in
    all_read (with_front c.args.first.items (many is_variable (var_at at) c.args.tokens.now)) is_variable
    (var_at at) c.variables.rest.now c.variables.found.items c.variables.invariant (sym c.begins_variable.ensures ∙ c.variables-test.false)
