use Rattle.std.proofs.Common.{◌≡◌, ◌-◌, take, length, ap, sym, subst, arith}
use Rattle.gib_types.specs.Types.{forms_of}
use Rattle.gib_check.specs.Judging.{meant_by, Reads}
use Rattle.gib_check.proofs.Loops.{meaning_more, meaning_grows}
use Rattle.gib_check.proofs.Read.{so_far_next, so_far_ends, take_at}
use Rattle.gib_check.proofs.reading.read.Goals as goal

pub from_last-preserved : goal.from_last-preserved
from_last-preserved c =
    let h = c.from_last.invariant.0 in
    let fits = c.from_last.invariant.2 in
    let m = meant_by (forms_of c.args.types.now) c.args.meaning.now in
    let now = meant_by (forms_of c.from_last.types) c.args.meaning.now in (
      so_far_next c.args.types.now c.from_last.types c.read_word.new.types m now c.args.words.now (take c.from_last.at c.args.words.now) (take (c.from_last.at - 1) c.args.words.now) _ c.from_last.stack c.read_word.new.stack h
          (meaning_grows c.args.types.now c.from_last.types c.args.meaning.now h.grows c.requires)
          (take_at c.args.words.now c.from_last.at _ c.from_last-test.true fits) c.in_ok-read_word.ensures.read,
      meaning_more (length c.from_last.types) (length c.read_word.new.types) c.args.meaning.now c.read_word.ensures.grows.longer c.from_last.invariant.1,
      omega (arith, fits),
    )

pub returns-clause-read : goal.returns-clause-read
returns-clause-read c =
    let whole = so_far_ends c.args.types.now c.from_last.types (meant_by (forms_of c.args.types.now) c.args.meaning.now) c.args.words.now (take c.from_last.at c.args.words.now) c.from_last.stack c.from_last.invariant.0
    (let e : c.from_last.at ≡ 0 = omega (arith, c.from_last-test.false) in ap (λ n. take n c.args.words.now) e) in
    subst (Reads c.args.types.now c.from_last.types (meant_by (forms_of c.args.types.now) c.args.meaning.now) c.args.words.now) (sym c.into_vec.ensures) whole
