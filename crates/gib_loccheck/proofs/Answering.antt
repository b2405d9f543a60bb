-- What follows from answers.
use Rattle.std.proofs.Common.{◌≡◌, ℕ, None, Some, sym, ap, ◌∙◌}
use Rattle.std.specs.Prelude.{Result, Ok, Err, IfOk, IfErr}
use Rattle.gib_core.specs.Rules.{Broken}
use Rattle.gib_loccheck.specs.declared.fault.LocFault.{LocFault}
use Rattle.gib_loccheck.specs.declared.fault.LocFault.TheVariants as fault
use Rattle.gib_loccheck.specs.Judging.{Says}
use Rattle.gib_loccheck.specs.Answers.{IsMemory, IsMemoryOr}

pub ok_then : {P Q : Type 0} (r : Result (Unit {0}) LocFault) → (P → Q) → IfOk r (λ _. P) → IfOk r (λ _. Q)
ok_then (Ok x) f h = f h
ok_then (Err e) f h = tt {0}

pub err_then : {P Q : LocFault → Type 0} (r : Result (Unit {0}) LocFault) → ((e : LocFault) → P e → Q e) → IfErr r P → IfErr r Q
err_then (Ok x) f h = tt {0}
err_then (Err e) f h = f e h

-- Where no rule is broken, a refusal is for want of memory.
pub memory_alone : (e : LocFault) (o : Broken) → Says e o → o ≡ None → IsMemory e
memory_alone fault.Memory o h n = tt {0}
memory_alone (fault.Rule r p) o h n = absurd cc

same_pair : (x y : ℕ × ℕ) → ◌≡◌ {A = Broken} (Some x) (Some y) → x ≡ y
same_pair x y e = cc

-- A refusal is for want of memory, or for what is broken first.
pub memory_or : (e : LocFault) (o : Broken) (rule place : ℕ) → Says e o → o ≡ Some (rule, place) → IsMemoryOr rule place e
memory_or fault.Memory o rule place h s = tt {0}
memory_or (fault.Rule r p) o rule place h s = let q = same_pair (r, p) (rule, place) (sym h ∙ s) in (ap (λ (z : ℕ × ℕ). z.0) q, ap (λ (z : ℕ × ℕ). z.1) q)

-- Nothing is both broken and unbroken.
pub never : (o : Broken) (rule place : ℕ) → o ≡ None → o ≡ Some (rule, place) → ⊥
never o rule place n s = cc
