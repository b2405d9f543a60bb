-- What functions that read answer, by the readers.
use Rattle.std.specs.Prelude.{◌≡◌, List, ◌++◌, Result, Ok, Err}
use Rattle.gib_base.specs.declared.token.Token.{Token}
use Rattle.gib_reads.specs.declared.stop.Stop.{Stop}
use Rattle.gib_reads.specs.declared.stop.Stop.TheVariants as stop
use Rattle.gib_reads.specs.Readers.{At, Nested, Read, then_at}

-- A refusal is the one that reading gives, unless memory ran out.
abbrev pub Fails : {Y : Type 0} → Stop → Read Y → Type 0
Fails stop.Memory read = Unit {0}
Fails (stop.At left) read = read ≡ Err (At left)
Fails (stop.Nested left) read = read ≡ Err (Nested left)

-- What a function answers is what reading gives, unless memory ran out.
abbrev pub Gives : {X Y : Type 0} → (X → Y × List Token) → Result X Stop → Read Y → Type 0
Gives view (Ok x) read = read ≡ Ok (view x)
Gives view (Err e) read = Fails e read

-- These, and then what is read.
abbrev pub with_front : {A : Type 0} → List A → Read (List A) → Read (List A)
with_front front r = then_at r (λ xs ts. Ok (front ++ xs, ts))
