-- When variables were bound.
use Rattle.std.proofs.Common.{◌≡◌, ℕ, ◌+◌, ◌<◌, ◌≤◌, Bool, true, false, ◌||◌, ◌==◌, nat_lt, if◌then◌else◌, List, [], ◌∷◌, ◌++◌, length, drop, get_or, refl, sym, ap, ◌∙◌, arith, ⊎_elim}
use Rattle.std.specs.Prelude.{Result, Ok, Err, OnOk}
use Rattle.gib_place.specs.Numbered.{number_at}
use Rattle.std.proofs.str.Laws.{order}
use Rattle.std.proofs.lemmas.Bool.{lt-ltb, le-ltb}
use Rattle.std.proofs.lemmas.List.{drop_more, drop_all}
use Rattle.std.proofs.Math.Bool.{or-true, or-false}
use Rattle.gib_core.specs.declared.atom.Variable.{Variable}
use Rattle.gib_core.specs.declared.node.Binding.{Binding}
use Rattle.gib_core.specs.Rules.{is_among}
use Rattle.gib_core.proofs.Along.{among_append}
use Rattle.gib_core.specs.Noted.{Seen, ArePast, Ticks, Notes}
use Rattle.gib_place.specs.Late.{is_late, NotesAll, Binds, Timed, binding_variables, run_variables}

-- Variables are noted: none, one, and one more.
pub notes_none : (seen : Seen) → NotesAll seen seen []
notes_none seen = record { clock = refl; each = λ y. refl }

one_or : {A : Type 0} (b : Bool) (p q : A) → (if b then p else q) ≡ (if b || false then p else q)
one_or true p q = refl
one_or false p q = refl

pub notes_one : (old new : Seen) (x : Variable) → Notes old new x → NotesAll old new (x ∷ [])
notes_one old new x n = record { clock = n.clock; each = λ y. n.each y.0 ∙ one_or (x.0 == y.0) old.clock (number_at old.times y.0) }

later_or : {A : Type 0} (b c : Bool) (p q : A) → (if c then p else (if b then p else q)) ≡ (if b || c then p else q)
later_or true true p q = refl
later_or true false p q = refl
later_or false true p q = refl
later_or false false p q = refl

pub notes_then : (old mid new : Seen) (xs ys : List Variable) → NotesAll old mid xs → NotesAll mid new ys → NotesAll old new (xs ++ ys)
notes_then old mid new xs ys m n = record {
  clock = n.clock ∙ m.clock;
  each = λ y.
      n.each y
      ∙ (λ i. if is_among ys y then m.clock i else m.each y i)
      ∙ later_or (is_among xs y) (is_among ys y) old.clock (number_at old.times y.0)
      ∙ ap (λ b. if b then old.clock else number_at old.times y.0) (sym (among_append xs ys y));
}

-- What was noted is bound: the variables of a side, those of two, one variable, or none.
pub binds_side : (old mid new : Seen) (binding : Binding) (xs : List Variable) → Ticks old mid → NotesAll mid new xs → binding_variables binding ≡ xs → Binds old new binding
binds_side old mid new binding xs t m e = record {
  clock = m.clock ∙ t.clock;
  each = λ y. m.each y ∙ (λ i. if is_among xs y then t.clock i else number_at (t.times i) y.0) ∙ ap (λ zs. if is_among zs y then old.clock + 1 else number_at old.times y.0) (sym e);
}

pub binds_passed : {T : Type 0} {E : Type 0} (o : Result T E) (old mid after new : Seen) (binding : Binding) (xs ys : List Variable) → Ticks old mid → NotesAll mid after xs → OnOk o (NotesAll after new ys) → binding_variables binding ≡ xs ++ ys → OnOk o (Binds old new binding)
binds_passed (Ok x) old mid after new binding xs ys t m n e = binds_side old mid new binding (xs ++ ys) t (notes_then mid after new xs ys m n) e
binds_passed (Err x) old mid after new binding xs ys t m n e = tt

pub binds_one : (old mid new : Seen) (binding : Binding) (x : Variable) → Ticks old mid → Notes mid new x → binding_variables binding ≡ x ∷ [] → Binds old new binding
binds_one old mid new binding x t m e = binds_side old mid new binding (x ∷ []) t (notes_one mid new x m) e

pub binds_none : (old new : Seen) (binding : Binding) → Ticks old new → binding_variables binding ≡ [] → Binds old new binding
binds_none old new binding t e = binds_side old new new binding [] t (notes_none new) e

-- A run is bound so far.
pub record Timing (start : ℕ) (run : List Binding) (k : ℕ) (seen : Seen) : Type 0 where
  pub within : k ≤ length run
  pub clock : seen.clock ≡ start + k
  pub past : ArePast seen.clock seen.times
  pub late : (i : ℕ) → i ≤ k → (y : Variable) → is_among (run_variables (drop i run)) y ≡ (is_late seen (start + i) y || is_among (run_variables (drop k run)) y)

pub timing_start : (run : List Binding) (seen : Seen) (start : ℕ) → start ≡ seen.clock → ArePast seen.clock seen.times → Timing start run 0 seen
timing_start run seen start e past = record {
  within = omega arith;
  clock = omega arith;
  past = past;
  late = λ i le y.
      let none : i ≡ 0 = omega arith in
      let stands : is_late seen (start + i) y ≡ false = le-ltb (start + i) (number_at seen.times y.0) (let p = past y.0 in omega arith) in
      ap (λ n. is_among (run_variables (drop n run)) y) none
      ∙ ap (λ (b : Bool). b || is_among (run_variables run) y) (sym stands);
}

pub timing_next : (start : ℕ) (run : List Binding) (k : ℕ) (old new : Seen) (x d : Binding) → Timing start run k old → k < length run → x ≡ get_or run k d → Binds old new x → Timing start run (k + 1) new
timing_next start run k old new x d h lt ex b =
    let left : drop k run ≡ x ∷ drop (k + 1) run = drop_more run k d lt ∙ ap (λ (z : Binding). z ∷ drop (k + 1) run) (sym ex) in
    record {
      within = omega arith;
      clock = (let c = b.clock in let e = h.clock in omega arith);
      past = past;
      late = λ i le y. ⊎_elim
          (λ less. h.late i (omega arith) y ∙ ap (λ xs. is_late old (start + i) y || is_among (run_variables xs) y) left ∙ ap (λ (c : Bool). is_late old (start + i) y || c) (among_append (binding_variables x) (run_variables (drop (k + 1) run)) y) ∙ step i (omega arith) y (is_among (binding_variables x) y) (b.each y))
          (λ more.
          let same : i ≡ k + 1 = omega arith in
          let stands : is_late new (start + i) y ≡ false = le-ltb (start + i) (number_at new.times y.0) (let p = past y.0 in let c = b.clock in let e = h.clock in omega arith) in
          ap (λ n. is_among (run_variables (drop n run)) y) same
          ∙ ap (λ (c : Bool). c || is_among (run_variables (drop (k + 1) run)) y) (sym stands))
          (order i (k + 1));
    }
  where
    bounded : (y : Variable) (c : Bool) → number_at new.times y.0 ≡ (if c then old.clock + 1 else number_at old.times y.0) → number_at new.times y.0 ≤ new.clock
    bounded y true e = let c = b.clock in omega arith
    bounded y false e = let c = b.clock in let p = h.past y.0 in omega arith

    past : ArePast new.clock new.times
    past y = bounded (record { 0 = y }) (is_among (binding_variables x) (record { 0 = y })) (b.each (record { 0 = y }))

    step : (i : ℕ) → i ≤ k → (y : Variable) (c : Bool) → number_at new.times y.0 ≡ (if c then old.clock + 1 else number_at old.times y.0)
        → (is_late old (start + i) y || (c || is_among (run_variables (drop (k + 1) run)) y)) ≡ (is_late new (start + i) y || is_among (run_variables (drop (k + 1) run)) y)
    step i le y true e =
        let now : is_late new (start + i) y ≡ true = lt-ltb (start + i) (number_at new.times y.0) (let c = h.clock in omega arith) in
        or-true (is_late old (start + i) y) ∙ ap (λ (c : Bool). c || is_among (run_variables (drop (k + 1) run)) y) (sym now)
    step i le y false e = ap (λ t. nat_lt (start + i) t || is_among (run_variables (drop (k + 1) run)) y) (sym e)

pub timing_end : (start : ℕ) (run : List Binding) (k : ℕ) (seen : Seen) → Timing start run k seen → length run ≤ k → Timed start run seen
timing_end start run k seen h le = record {
  late = λ i within y.
      h.late i (let w = h.within in omega arith) y ∙ ap (λ xs. is_late seen (start + i) y || is_among (run_variables xs) y) (drop_all k run le) ∙ or-false (is_late seen (start + i) y);
}
