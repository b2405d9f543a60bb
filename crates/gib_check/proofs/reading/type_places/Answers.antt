use Rattle.std.proofs.Common.{◌≡◌, ◌-◌, ◌∙◌, take, ap, sym, subst, arith}
use Rattle.std.proofs.Math.Seq.{take-length}
use Rattle.gib_check.proofs.Read.{PlacesSoFar, places_start, places_next, places_end, take_at}
use Rattle.gib_check.proofs.reading.type_places.Goals as goal

pub from_last-init : goal.from_last-init
from_last-init c = (
  subst (λ ws. PlacesSoFar c.args.words.now ws c.new-stack.result) (sym (take-length c.args.words.now)) (places_start c.args.words.now c.new-stack.result c.new-stack.ensures),
  omega arith,
)

pub from_last-preserved : goal.from_last-preserved
from_last-preserved c =
    let fits = c.from_last.invariant.1 in (
      places_next c.args.words.now (take c.from_last.at c.args.words.now) (take (c.from_last.at - 1) c.args.words.now) _ c.from_last.stack c.push_place.new.stack c.from_last.invariant.0
          (take_at c.args.words.now c.from_last.at _ c.from_last-test.true fits) c.in_ok-push_place.ensures,
      omega (arith, fits),
    )

pub returns : goal.returns
returns c =
    c.into_vec.ensures
    ∙ places_end c.args.words.now (take c.from_last.at c.args.words.now) c.from_last.stack c.from_last.invariant.0
    (let e : c.from_last.at ≡ 0 = omega (arith, c.from_last-test.false) in ap (λ n. take n c.args.words.now) e)
