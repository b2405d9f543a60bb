use Rattle.std.proofs.Common.{◌≡◌, ◌∙◌, ◌+◌, ◌-◌, ◌%◌, ◌<◌, ◌∷◌, ◌++◌, length, drop, ap, arith}
use Rattle.std.specs.Fmt.{decimal}
use Rattle.std.proofs.lemmas.Fmt.{length-decimal-le}
use Rattle.std.proofs.lemmas.List.{append-nil, drop_all}
use Rattle.gib_app.proofs.Decimals.{next_digit, next_length, last_digit, last_length}
use Rattle.gib_app.proofs.lines.write_decimal.Goals as goal

pub digits-init : goal.digits-init
digits-init c =
    let small = length-decimal-le 20 c.args.number (omega arith) (omega arith) c.ranges.number.fits in (
      omega (arith, small, c.requires),
      omega arith,
      c.requires,
      ap (λ l. decimal c.args.number ++ l) (drop_all (length c.args.buffer.now) c.args.buffer.now (omega arith)) ∙ append-nil (decimal c.args.number),
    )

pub overflow_sub-at : goal.overflow_sub-at
overflow_sub-at c =
    let long = next_length c.digits.rest c.digits.at c.digits-test.true c.digits.auto.rest-fits.fits c.digits.invariant.0 in
    omega (arith, long)

pub digits-preserved : goal.digits-preserved
digits-preserved c =
    let long = next_length c.digits.rest c.digits.at c.digits-test.true c.digits.auto.rest-fits.fits c.digits.invariant.0 in
    let one : c.digits.at - 1 + 1 ≡ c.digits.at = omega (arith, long) in (
      omega (arith, long),
      omega (arith, c.write_digit.ensures.length, c.digits.invariant.1),
      c.write_digit.ensures.length ∙ c.digits.invariant.2,
      next_digit c.digits.rest (drop c.digits.at c.digits.buffer) (drop (c.digits.at - 1) c.write_digit.new.buffer) (decimal c.args.number) c.digits-test.true c.digits.auto.rest-fits.fits
          (c.write_digit.ensures.written ∙ ap (λ n. (48 + c.digits.rest % 10) ∷ drop n c.digits.buffer) one) c.digits.invariant.3,
    )

pub overflow_sub-at-2 : goal.overflow_sub-at-2
overflow_sub-at-2 c = last_length c.digits.rest c.digits.at (omega (arith, c.digits-test.false)) c.digits.invariant.0

pub returns-clause-digits : goal.returns-clause-digits
returns-clause-digits c =
    let low : c.digits.rest < 10 = omega (arith, c.digits-test.false) in
    let some = last_length c.digits.rest c.digits.at low c.digits.invariant.0 in
    let one : c.digits.at - 1 + 1 ≡ c.digits.at = omega (arith, some) in
    last_digit c.digits.rest (drop c.digits.at c.digits.buffer) (drop (c.digits.at - 1) c.write_digit-2.new.buffer) (decimal c.args.number) low
    (c.write_digit-2.ensures.written ∙ ap (λ n. (48 + c.digits.rest) ∷ drop n c.digits.buffer) one) c.digits.invariant.3
