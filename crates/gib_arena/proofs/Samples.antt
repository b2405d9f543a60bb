-- What the tests put and read.
use Rattle.std.proofs.Common.{◌≡◌, ℕ, ◌+◌, ◌-◌, ◌<◌, List, length, get_or, refl, sym, ap, subst, ◌∙◌, arith}
use Rattle.gib_mem.specs.Memory.{Store, Memory, byte, after_puts, Holds, AreKnown, Grows}
use Rattle.gib_mem.proofs.Puts.{puts_hold}
use Rattle.gib_mem.proofs.Runs.{holds_at}
use Rattle.gib_arena.specs.declared.view.View.{View}
use Rattle.gib_arena.specs.Cells.{cells_of}

pub run_holds : (m m' : Memory) (at : ℕ) (bs : List ℕ) → m' ≡ after_puts m at bs → Holds m'.cells at bs
run_holds m m' at bs e = subst (λ (x : Memory). Holds x.cells at bs) (sym e) (puts_hold m at bs)

pub run_known : (m m' : Memory) (at : ℕ) (bs : List ℕ) → m' ≡ after_puts m at bs → AreKnown m'.cells at (length bs)
run_known m m' at bs e = (bs, run_holds m m' at bs e, refl)

pub run_first : (m m' : Memory) (at : ℕ) (bs : List ℕ) → m' ≡ after_puts m at bs → 0 < length bs → (b : ℕ) × (m'.cells at ≡ byte b)
run_first m m' at bs e l = (get_or bs 0 0, ap m'.cells (let q : at ≡ at + 0 = omega arith in q) ∙ holds_at m'.cells at bs (run_holds m m' at bs e) 0 l)

pub run_last : (m m' : Memory) (at : ℕ) (bs : List ℕ) → m' ≡ after_puts m at bs → 0 < length bs → (b : ℕ) × (m'.cells (at + length bs - 1) ≡ byte b)
run_last m m' at bs e l = (get_or bs (length bs - 1) 0, ap m'.cells (let q : at + length bs - 1 ≡ at + (length bs - 1) = omega arith in q) ∙ holds_at m'.cells at bs (run_holds m m' at bs e) (length bs - 1) (omega arith))

pub known_after : (s : Store) (v w : View) (q b : ℕ) → Grows (cells_of w.holding) s → w ≡ v → cells_of v.holding q ≡ byte b → s q ≡ byte b
known_after s v w q b g e h = g.kept q b (ap (λ (x : View). cells_of x.holding q) e ∙ h)

pub known_still : (v w : View) (q b : ℕ) → w ≡ v → cells_of v.holding q ≡ byte b → cells_of w.holding q ≡ byte b
known_still v w q b e h = ap (λ (x : View). cells_of x.holding q) e ∙ h
