use Rattle.std.proofs.Common.{◌≡◌, sym, ap, ◌∙◌, true, false}
use Rattle.std.proofs.lemmas.Result.{err_from_is_err_and}
use Rattle.gib_base.specs.declared.token.Sign.{Sign}
use Rattle.gib_syntax.specs.Spelling.{places_of}
use Rattle.gib_parse.specs.Reading.{is_sign, next_is}
use Rattle.gib_parse.proofs.Repeating.{items_more, items_done, items_fail}
use Rattle.gib_parse.proofs.repeated.more.Goals as goal

pub returns-in_err-next-clause-read : goal.returns-in_err-next-clause-read
returns-in_err-next-clause-read g c =
    let at = places_of c.args.spans.now in
    let p = err_from_is_err_and c.from_residual.result c.from_residual.ensures.1 in
    let begun : next_is (is_sign g.T.Repeated.mark) c.items.rest.now ≡ true = ap (λ (a : Sign). next_is (is_sign a) c.items.rest.now) (sym c.sign.ensures) ∙ sym c.begins.ensures ∙ c.items-test.true in
    rw (p.1, p.2)
    (items_fail g.T.Repeated.inside g.T.Repeated.tree (is_sign g.T.Repeated.mark) (g.T.Repeated.reader at) (c.laws.ensures.takes at) c.args.exprs.now c.items.exprs _ c.items.rest.now c.items.found.items c.in_err-next.field-0.0 c.items.invariant begun c.in_err-next.ensures.read)

pub items-smaller : goal.items-smaller
items-smaller g c = c.laws.ensures.takes (places_of c.args.spans.now) c.items.rest.now c.in_ok-next.after.now (g.T.Repeated.tree c.read.new.exprs c.in_ok-next.next) c.in_ok-next.ensures.read

pub items-preserved : goal.items-preserved
items-preserved g c =
    let at = places_of c.args.spans.now in
    let begun : next_is (is_sign g.T.Repeated.mark) c.items.rest.now ≡ true = ap (λ (a : Sign). next_is (is_sign a) c.items.rest.now) (sym c.sign.ensures) ∙ sym c.begins.ensures ∙ c.items-test.true in
    rw c.in_ok-push.ensures.items
    (items_more g.T.Repeated.inside g.T.Repeated.tree (is_sign g.T.Repeated.mark) (g.T.Repeated.reader at) (c.laws.ensures.takes at) c.laws.ensures.stays c.args.exprs.now c.items.exprs c.read.new.exprs _ c.items.rest.now c.in_ok-next.after.now c.items.found.items c.in_ok-next.next c.items.invariant begun c.in_ok-next.ensures.kept.grows c.in_ok-next.ensures.kept.inside c.in_ok-next.ensures.read)

pub returns-clause-read : goal.returns-clause-read
returns-clause-read g c =
    let at = places_of c.args.spans.now in
    let ended : next_is (is_sign g.T.Repeated.mark) c.items.rest.now ≡ false = ap (λ (a : Sign). next_is (is_sign a) c.items.rest.now) (sym c.sign.ensures) ∙ sym c.begins.ensures ∙ c.items-test.false in
    items_done g.T.Repeated.inside g.T.Repeated.tree (is_sign g.T.Repeated.mark) (g.T.Repeated.reader at) c.args.exprs.now c.items.exprs _ c.items.rest.now c.items.found.items c.items.invariant ended
