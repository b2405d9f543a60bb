-- Where the rules are broken.
use Rattle.std.proofs.Common.{◌≡◌, ℕ, ◌+◌, ◌≤◌, Bool, true, false, ltb, eqb, List, ◌∷◌, Option, Some, None, Err, refl, sym, ap, ◌∙◌, subst, arith}
use Rattle.std.specs.Prelude.{is_none, is_some}
use Rattle.std.proofs.lemmas.Bool.{ltb-true, ltb-false, eqb-true, eqb-false, le-ltb, both_ways}
use Rattle.gib_base.specs.declared.Span.{Span}
use Rattle.gib_types.specs.Form.{Form, Forms, WholeForm, TruthForm, VariableForm, DataForm}
use Rattle.gib_syntax.specs.Results.{Results, One, Several}
use Rattle.gib_syntax.specs.Forms.{WrittenType, written_place}
use Rattle.gib_syntax.specs.Declarations.{number_of}
use Rattle.gib_syntax.specs.GenericTree.{GenericDataTree, GenericRow}
use Rattle.gib_syntax.specs.declared.tree.Ident.{Ident}
use Rattle.gib_syntax.specs.GenericTyping.{FormScope, form_in, CoversType}
use Rattle.gib_check.specs.declared.fault.Fault.{Fault}
use Rattle.gib_check.specs.declared.fault.Kind.{Kind}
use Rattle.gib_check.specs.declared.fault.Kind.TheVariants as kind
use Rattle.gib_check.specs.Faults.{and_then, allowed, found, FormPart, same_results, wanted, single_at, single, may_stand, counted, part_variable, known, declared_type, covers, covered}
use Rattle.gib_check.specs.FirstFault.{check_parts}
use Rattle.gib_check.specs.declared.counts.Counts.{Counts}
use Rattle.gib_check.specs.declared.standing.Standing.{Standing}
use Rattle.gib_check.specs.declared.standing.Standing.TheVariants.{NoTuple}
use Rattle.gib_check.specs.Kinds.{fault, IsBrokenWhere}
use Rattle.gib_check.proofs.Steps.{same_results_is, covers_is, given, refused}
use Rattle.gib_check.proofs.Complete.{same_results_own, covers_ok}

same_fault : {A : Type 0} (f g : Fault) → refused {A = A} f ≡ refused g → f ≡ g
same_fault f g e = cc

-- What was looked up is not there.
pub found_broken : {A : Type 0} (o : Option A) (k : Kind) (at : Span) → IsBrokenWhere (found o k at) (o ≡ None) (fault k at)
found_broken {A = A} None k at = record { broken = λ e. refl; only = λ g e. (refl, sym (same_fault {A = A} (fault k at) g e)) }
found_broken {A = A} (Some x) k at = record { broken = λ e. absurd (clash e); only = λ g e. absurd (over g e) } where
  clash : Some x ≡ None → ⊥
  clash e = cc

  over : (g : Fault) → given x ≡ refused g → ⊥
  over g e = cc

-- A test that fails exactly where a condition holds.
pub allowed_broken : {A : Type 0} (b : Bool) (k : Kind) (at : Span) (x : A) (P : Type 0) → (b ≡ true → P → ⊥) → (b ≡ false → P) → IsBrokenWhere (allowed b k at x) P (fault k at)
allowed_broken {A = A} true k at x P sound fails = record { broken = λ p. absurd (sound refl p); only = λ g e. absurd (over g e) } where
  over : (g : Fault) → given x ≡ refused g → ⊥
  over g e = cc
allowed_broken {A = A} false k at x P sound fails = record { broken = λ p. refl; only = λ g e. (fails refl, sym (same_fault {A = A} (fault k at) g e)) }

pub present : {A : Type 0} (o : Option A) → is_none o ≡ true → (x : A) × (o ≡ Some x) → ⊥
present None e p = let q = p.1 in cc
present (Some x) e p = cc

pub there : {A : Type 0} (o : Option A) → is_none o ≡ false → (x : A) × (o ≡ Some x)
there None e = absurd cc
there (Some x) e = (x, refl)

abbrev is_data : Form → Bool
is_data WholeForm = false
is_data TruthForm = false
is_data (VariableForm v) = false
is_data (DataForm t ts) = true

pub wanted_broken : (due : Results Form) (part : FormPart) → IsBrokenWhere (wanted due part) (part.ty ≡ due → ⊥) (fault kind.Shape part.place)
wanted_broken due part =
    allowed_broken (same_results part.ty due) kind.Shape part.place (tt {0}) (part.ty ≡ due → ⊥)
    (λ e p. p (same_results_is part.ty due e))
    (λ e same. both_ways (same_results part.ty due) e (subst (λ z. same_results part.ty z ≡ true) same (same_results_own part.ty)))

single_at_broken : (r : Results Form) (at : Span) → IsBrokenWhere (single_at r at) ((ts : List Form) × (r ≡ Several ts)) (fault kind.Shape at)
single_at_broken (One t) at = record { broken = λ p. absurd (clash p.0 p.1); only = λ g e. absurd (over g e) } where
  clash : (ts : List Form) → One t ≡ Several ts → ⊥
  clash ts e = cc

  over : (g : Fault) → given t ≡ refused g → ⊥
  over g e = cc
single_at_broken (Several ts) at = record { broken = λ p. refl; only = λ g e. ((ts, refl), sym (same_fault {A = Form} (fault kind.Shape at) g e)) }

pub single_broken : (part : FormPart) → IsBrokenWhere (single part) ((ts : List Form) × (part.ty ≡ Several ts)) (fault kind.Shape part.place)
single_broken part = single_at_broken part.ty part.place

pub none_stands : (st : Standing) (n : ℕ) (at : Span) → st ≡ NoTuple → may_stand st n at ≡ Err (fault kind.Shape at)
none_stands st n at e = ap (λ z. may_stand z n at) e

pub ninth_variable : (i : ℕ) (scope : FormScope) (n : Counts) (x : Ident) → form_in scope (number_of x) ≡ None → 8 ≤ i → part_variable i scope n x ≡ Err (fault kind.Limit x.span)
ninth_variable i scope n x e l =
    ap (λ (o : Option Form). and_then (allowed (is_none o) kind.Twice x.span (tt {0})) (λ _. and_then (allowed (ltb i 8) kind.Limit x.span (tt {0})) (λ _. counted n x))) e
    ∙ ap (λ b. and_then (allowed b kind.Limit x.span (tt {0})) (λ _. counted n x)) (le-ltb i 8 l)

pub ninth_part : (datas : List GenericDataTree) (vars : List ℕ) (i : ℕ) (w : WrittenType) (ws : List WrittenType) → 8 ≤ i → check_parts datas vars i (w ∷ ws) ≡ Err (fault kind.Limit (written_place w))
ninth_part datas vars i w ws l =
    ap (λ b. and_then (allowed b kind.Limit (written_place w) (tt {0})) (λ _. and_then (known datas vars w) (λ _. check_parts datas vars (i + 1) ws))) (le-ltb i 8 l)

no_data : (t : Form) (i : ℕ) (ts : Forms) → (is_data t ≡ false) → t ≡ DataForm i ts → ⊥
no_data t i ts e q = both_ways (is_data t) e (ap is_data q)

pub declared_broken : (t : Form) (x : Ident) → IsBrokenWhere (declared_type t x) ((i : ℕ) (ts : Forms) → t ≡ DataForm i ts → ⊥) (fault kind.Shape x.span)
declared_broken WholeForm x = record { broken = λ p. refl; only = λ g e. ((λ i ts q. no_data WholeForm i ts refl q), sym (same_fault {A = ℕ × Forms} (fault kind.Shape x.span) g e)) }
declared_broken TruthForm x = record { broken = λ p. refl; only = λ g e. ((λ i ts q. no_data TruthForm i ts refl q), sym (same_fault {A = ℕ × Forms} (fault kind.Shape x.span) g e)) }
declared_broken (VariableForm v) x = record { broken = λ p. refl; only = λ g e. ((λ i ts q. no_data (VariableForm v) i ts refl q), sym (same_fault {A = ℕ × Forms} (fault kind.Shape x.span) g e)) }
declared_broken (DataForm t ts) x = record { broken = λ p. absurd (p t ts refl); only = λ g e. absurd (over g e) } where
  over : (g : Fault) → given {A = ℕ × Forms} (t, ts) ≡ refused g → ⊥
  over g e = cc

pub covered_broken : (rows : List GenericRow) (ty : ℕ) (names : List ℕ) (at : Span) → IsBrokenWhere (covered rows ty names at) (CoversType rows ty names → ⊥) (fault kind.Arms at)
covered_broken rows ty names at =
    allowed_broken (covers rows ty names) kind.Arms at (tt {0}) (CoversType rows ty names → ⊥)
    (λ e p. p (covers_is rows ty names e))
    (λ e h. both_ways (covers rows ty names) e (covers_ok rows ty names h))

-- A test of what has to be there.
pub some_broken : {A : Type 0} (o : Option A) (k : Kind) (at : Span) → IsBrokenWhere (allowed (is_some o) k at (tt {0})) (o ≡ None) (fault k at)
some_broken {A = A} None k at = record { broken = λ e. refl; only = λ g e. (refl, sym (same_fault {A = Unit {0}} (fault k at) g e)) }
some_broken {A = A} (Some x) k at = record { broken = λ e. absurd (clash e); only = λ g e. absurd (over g e) } where
  clash : Some x ≡ None → ⊥
  clash e = cc

  over : (g : Fault) → given (tt {0}) ≡ refused g → ⊥
  over g e = cc

pub equal_broken : {A : Type 0} (m n : ℕ) (k : Kind) (at : Span) (x : A) → IsBrokenWhere (allowed (eqb m n) k at x) (m ≡ n → ⊥) (fault k at)
equal_broken m n k at x = allowed_broken (eqb m n) k at x (m ≡ n → ⊥) (λ e p. p (eqb-true m n e)) (λ e same. eqb-false m n e same)

pub less_broken : {A : Type 0} (m n : ℕ) (k : Kind) (at : Span) (x : A) → IsBrokenWhere (allowed (ltb m n) k at x) (n ≤ m) (fault k at)
less_broken m n k at x = allowed_broken (ltb m n) k at x (n ≤ m) (λ e p. (let q = ltb-true m n e in omega (arith, q, p))) (λ e. ltb-false m n e)
