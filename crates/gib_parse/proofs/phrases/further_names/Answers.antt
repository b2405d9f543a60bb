use Rattle.std.proofs.Common.{sym, ◌∙◌}
use Rattle.std.proofs.lemmas.Result.{err_from_is_err_and}
use Rattle.gib_base.specs.declared.token.Sign.TheVariants as s
use Rattle.gib_syntax.specs.Spelling.{places_of}
use Rattle.gib_parse.specs.Reading.{is_sign, next_name_at, many}
use Rattle.gib_parse.specs.Parsing.{with_front}
use Rattle.gib_reads.proofs.SoFar.{one_more, all_read, one_fails, shorter}
use Rattle.gib_parse.proofs.WholeLaws.{next_name_shrinks}
use Rattle.gib_parse.proofs.phrases.further_names.Goals as goal

pub names-preserved : goal.names-preserved
names-preserved c =
    let at = places_of c.args.spans.now in
    let all = with_front c.args.first.items (many (is_sign s.Comma) (next_name_at at) c.args.tokens.now) in
    rw c.in_ok-push.ensures.items
    (one_more all (is_sign s.Comma) (next_name_at at) (next_name_shrinks at) c.names.rest.now c.in_ok-name.after.now c.names.found.items c.in_ok-name.name c.names.invariant (sym c.begins.ensures ∙ c.names-test.true) c.in_ok-name.ensures)

pub returns : goal.returns
returns c =
    let at = places_of c.args.spans.now in
    all_read (with_front c.args.first.items (many (is_sign s.Comma) (next_name_at at) c.args.tokens.now)) (is_sign s.Comma) (next_name_at at) c.names.rest.now c.names.found.items c.names.invariant (sym c.begins.ensures ∙ c.names-test.false)

pub names-smaller : goal.names-smaller
names-smaller c =
    let at = places_of c.args.spans.now in
    shorter (next_name_at at) (next_name_shrinks at) c.names.rest.now c.in_ok-name.after.now c.in_ok-name.name c.in_ok-name.ensures

pub returns-in_err-name : goal.returns-in_err-name
returns-in_err-name c =
    let at = places_of c.args.spans.now in
    let p = err_from_is_err_and c.from_residual.result c.from_residual.ensures.1 in
    rw (p.1, p.2)
    (one_fails (with_front c.args.first.items (many (is_sign s.Comma) (next_name_at at) c.args.tokens.now)) (is_sign s.Comma) (next_name_at at) (next_name_shrinks at) c.names.rest.now c.names.found.items c.in_err-name.field-0.0 c.names.invariant (sym c.begins.ensures ∙ c.names-test.true) c.in_err-name.ensures)
