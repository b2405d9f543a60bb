-- The names that a printed text gives are told apart.
use Rattle.std.proofs.Common.{ℕ, arith}
use Rattle.gib_local_print.specs.Printing.{Apart}
use Rattle.gib_local_print.specs.LocatedText.{numbered}

pub numbered_apart : (base : ℕ) → Apart (numbered base)
numbered_apart base = record {
  variables = λ x y e. omega (arith, e);
  locations = λ x y e. omega (arith, e);
  regions = λ x y e. omega (arith, e);
  apart = λ x y e. omega (arith, e);
}
