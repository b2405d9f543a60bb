-- Variables that are noted by the clock were used since each time up to now, and none since an arm begins.
use Rattle.std.proofs.Common.{◌≡◌, ℕ, ◌≤◌, ◌==◌, Bool, true, false, ◌||◌, nat_le, if◌then◌else◌, sym, ap, ◌∙◌, arith}
use Rattle.std.proofs.lemmas.Bool.{le-leb, lt-leb}
use Rattle.std.proofs.Math.Bool.{or-true, or-false}
use Rattle.gib_core.specs.declared.atom.Variable.{Variable}
use Rattle.gib_core.specs.ByVariable.{number_at}
use Rattle.gib_core.specs.Noted.{Seen, ArePast, Ticks, Notes}
use Rattle.gib_access.specs.Used.{Marks, Enters}

pub noted : (old new : Seen) (x : Variable) → Notes old new x → Marks old new (λ y. x.0 == y.0)
noted old new x n = record {
  clock = (let e = n.clock in omega arith);
  since = λ start le y. ap (nat_le start) (n.each y.0) ∙ go start le y (x.0 == y.0);
}
  where
    go : (start : ℕ) → start ≤ old.clock → (y : Variable) (b : Bool) → nat_le start (if b then old.clock else number_at old.times y.0) ≡ (nat_le start (number_at old.times y.0) || b)
    go start le y true = le-leb start old.clock le ∙ sym (or-true (nat_le start (number_at old.times y.0)))
    go start le y false = sym (or-false (nat_le start (number_at old.times y.0)))

pub begun : (old new : Seen) (start : ℕ) → ArePast old.clock old.times → Ticks old new → start ≡ new.clock → Enters old new start
begun old new start past t e = record {
  marks = record {
    clock = (let c = t.clock in omega arith);
    since = λ s le x. ap (λ ts. nat_le s (number_at ts x.0)) t.times ∙ sym (or-false (nat_le s (number_at old.times x.0)));
  };
  clock = e;
  fresh = λ x. ap (λ ts. nat_le start (number_at ts x.0)) t.times ∙ lt-leb start (number_at old.times x.0) (let c = t.clock in let p = past x.0 in omega (arith, e));
}
