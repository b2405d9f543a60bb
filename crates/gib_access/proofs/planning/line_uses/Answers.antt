use Rattle.std.proofs.Common.{arith, sym, ◌∙◌}
use Rattle.gib_core.specs.Arena.{term_of, binds_from}
use Rattle.gib_access.proofs.Plans.{used_at, used_end, binds_long}
use Rattle.gib_access.proofs.planning.line_uses.Goals as goal

pub returns-then-place-line : goal.returns-then-place-line
returns-then-place-line c =
    let f = term_of c.args.source.now.terms.now in
    let n = binds_long f c.args.line.now.bindings.now in
    let q = c.requires.place in
    sym (used_at (binds_from f c.args.line.now.bindings.now) (f c.args.line.now.last.0) c.args.x (omega (arith, n, q)))

pub returns : goal.returns
returns c =
    let f = term_of c.args.source.now.terms.now in
    let n = binds_long f c.args.line.now.bindings.now in
    let q = c.requires.place in
    let w = c.requires.within in
    c.uses.ensures ∙ sym (used_end (binds_from f c.args.line.now.bindings.now) (f c.args.line.now.last.0) c.args.x (omega (arith, n, q, w)))
