use Rattle.std.proofs.Common.{refl, sym, ◌∙◌, arith}
use Rattle.gib_syntax.specs.GenericParts.{generic_program_of}
use Rattle.gib_mono.proofs.Finding.{walked_next, walked_goes, walked_open, walked_stops, walked_all}
use Rattle.gib_mono.proofs.Seeking.{none_is}
use Rattle.gib_mono.proofs.find.walk.Goals as goal

pub ask_copy-requires-clause-open : goal.ask_copy-requires-clause-open
ask_copy-requires-clause-open c = walked_open (generic_program_of c.args.source.now) c.args.from c.copies.search c.copies.next c.copies.invariant (none_is c.copies.search.limit (sym c.is_some.ensures ∙ c.if-is_some.false))

pub copies-preserved : goal.copies-preserved
copies-preserved c =
    walked_next (generic_program_of c.args.source.now) c.args.from c.copies.search c.ask_copy.new.search c.copies.next c.program-inside.ensures.inside.constructors c.copies.invariant (none_is c.copies.search.limit (sym c.is_some.ensures ∙ c.if-is_some.false))
    (let l = c.copies-test.true in let e = c.len.ensures.len in omega (arith, l, e)) c.len.ensures.few.0 c.len.ensures.few.1 c.in_ok-ask_copy.ensures

pub returns-then-is_some : goal.returns-then-is_some
returns-then-is_some c = walked_stops (generic_program_of c.args.source.now) c.args.from c.copies.search c.copies.next c.copies.invariant c.copies.search.limit refl (sym c.is_some.ensures ∙ c.if-is_some.true)

pub returns : goal.returns
returns c = walked_all (generic_program_of c.args.source.now) c.args.from c.copies.search c.copies.next c.copies.invariant (let l = c.copies-test.false in let e = c.len.ensures.len in omega (arith, l, e))

pub copies-smaller : goal.copies-smaller
copies-smaller c =
    let l =
    walked_goes (generic_program_of c.args.source.now) c.args.from c.copies.search c.copies.next c.program-inside.ensures.inside.constructors c.copies.invariant (none_is c.copies.search.limit (sym c.is_some.ensures ∙ c.if-is_some.false))
    (let l = c.copies-test.true in let e = c.len.ensures.len in omega (arith, l, e)) c.len.ensures.few.0 c.len.ensures.few.1 in
    omega (arith, l)
