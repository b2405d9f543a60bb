use Rattle.std.proofs.Common.{◌≡◌, ◌-◌, ◌∙◌, take, ap, sym, subst, arith, refl}
use Rattle.std.proofs.Math.Seq.{take-length}
use Rattle.gib_mono.proofs.Baring.{TypesSoFar, types_start, types_next, types_end}
use Rattle.gib_mono.proofs.Read.{take_last}
use Rattle.gib_mono.proofs.plain.bare_types.Goals as goal

pub from_last-init : goal.from_last-init
from_last-init c = (
  subst (λ ws. TypesSoFar c.args.words.now ws c.new-stack.result) (sym (take-length c.args.words.now)) (types_start c.args.words.now c.new-stack.result c.new-stack.ensures),
  omega arith,
)

pub from_last-preserved : goal.from_last-preserved
from_last-preserved c =
    let fits = c.from_last.invariant.1 in (
      types_next c.args.words.now (take c.from_last.at c.args.words.now) (take (c.from_last.at - 1) c.args.words.now) _ c.from_last.stack c.push_type.new.stack c.from_last.invariant.0
          (take_last c.args.words.now c.from_last.at (c.from_last.at - 1) _ refl c.from_last-test.true fits) c.in_ok-push_type.ensures,
      omega (arith, fits),
    )

pub returns : goal.returns
returns c =
    c.into_vec.ensures
    ∙ types_end c.args.words.now (take c.from_last.at c.args.words.now) c.from_last.stack c.from_last.invariant.0
    (let e : c.from_last.at ≡ 0 = omega (arith, c.from_last-test.false) in ap (λ n. take n c.args.words.now) e)
