use Rattle.std.proofs.Common.{◌≡◌, ◌-◌, take, length, refl, ap, arith}
use Rattle.gib_types.specs.Types.{forms_of, forms_at}
use Rattle.gib_syntax.specs.Forms.{assign}
use Rattle.gib_mono.proofs.Read.{forms_grow, so_far_next, so_far_ends, take_last}
use Rattle.gib_mono.proofs.reading.read.Goals as goal
use Rattle.gib_check.proofs.Growing.{below_more}

pub from_last-preserved : goal.from_last-preserved
from_last-preserved c =
    let h = c.from_last.invariant.0 in
    let fits = c.from_last.invariant.2 in
    let m = assign c.args.variables.now (forms_at (forms_of c.args.types.now) c.args.meant.now) in
    let now = assign c.args.variables.now (forms_at (forms_of c.from_last.types) c.args.meant.now) in (
      so_far_next c.args.types.now c.from_last.types c.read_word.new.types m now c.args.words.now (take c.from_last.at c.args.words.now) (take (c.from_last.at - 1) c.args.words.now) _ c.from_last.reading c.read_word.new.reading h
          (ap (assign c.args.variables.now) (forms_grow c.args.types.now c.from_last.types c.args.meant.now h.grows c.requires))
          (take_last c.args.words.now c.from_last.at (c.from_last.at - 1) _ refl c.from_last-test.true fits) c.in_ok-read_word.ensures.read,
      below_more (length c.from_last.types) (length c.read_word.new.types) c.args.meant.now c.read_word.ensures.longer c.from_last.invariant.1,
      omega (arith, fits),
    )

pub returns-clause-read : goal.returns-clause-read
returns-clause-read c =
    so_far_ends c.args.types.now c.from_last.types (assign c.args.variables.now (forms_at (forms_of c.args.types.now) c.args.meant.now)) c.args.words.now (take c.from_last.at c.args.words.now) c.from_last.reading c.from_last.invariant.0
    (let e : c.from_last.at ≡ 0 = omega (arith, c.from_last-test.false) in ap (λ n. take n c.args.words.now) e)
