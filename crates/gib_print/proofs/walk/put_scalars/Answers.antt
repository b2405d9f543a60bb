use Rattle.std.proofs.Common.{◌≡◌, ℕ, ◌∷◌, List, refl, sym, ap, subst, ◌∙◌, arith}
use Rattle.std.specs.Prelude.{ℤ, FitsSigned, Bool}
use Rattle.std.specs.Int.{w64, cast_signed, cast_unsigned}
use Rattle.std.proofs.lemmas.Int.{to_z-of_z}
use Rattle.gib_types.specs.declared.table.ConId.{ConId}
use Rattle.gib_types.specs.declared.table.Ty.TheVariants as ty
use Rattle.gib_types.specs.Layout.{field_types}
use Rattle.gib_mem.specs.Memory.{Memory, Holds, byte}
use Rattle.gib_packed.specs.Scalars.{number, bit}
use Rattle.gib_packed.proofs.HoldsLemmas.{Holds-first}
use Rattle.gib_packed.proofs.WalkLemmas.{known_below}
use Rattle.gib_print.specs.Framing.{a_whole, a_truth}
use Rattle.gib_print.specs.declared.frame.Frame.{Frame}
use Rattle.gib_print.specs.declared.turn.Printed.TheVariants as p
use Rattle.gib_print.proofs.HeadLemmas.{field_left, next_whole, next_truth, turn_as}
use Rattle.gib_print.proofs.PlanLemmas.{goes_none, goes_turn, goes_then}
use Rattle.gib_print.proofs.walk.put_scalars.Goals as goal

pub scalars-init : goal.scalars-init
scalars-init g c = record {
  same = refl;
  goes = λ laid names fs a same. goes_none (c.args.frame.now ∷ fs) a (g.O.Sink.view c.args.sink.now) c.args.waiting.now;
  con = refl;
  closes = refl;
}

pub whole_at-requires : goal.whole_at-requires
whole_at-requires g c =
    let frame = c.scalars.frame in
    let r = c.requires.left in
    let o = (c.scalars.invariant.goes r.0 r.2 r.3 r.4 r.1).onward r.5 r.6 in
    let of = r.1 ∙ ap (λ (x : ConId). field_types r.0 x.0) (sym c.scalars.invariant.con) in
    let e = field_left _ _ frame.next ty.Whole of (omega (arith, c.scalars-test.true)) c.in-Whole.is in
    subst (λ (m : Memory). (z : ℤ) × FitsSigned w64 z × Holds m.cells frame.scalar (number z)) (sym c.scalars.invariant.same) (next_whole o.1 refl e)

pub truth_at-requires : goal.truth_at-requires
truth_at-requires g c =
    let frame = c.scalars.frame in
    let r = c.requires.left in
    let o = (c.scalars.invariant.goes r.0 r.2 r.3 r.4 r.1).onward r.5 r.6 in
    let of = r.1 ∙ ap (λ (x : ConId). field_types r.0 x.0) (sym c.scalars.invariant.con) in
    let e = field_left _ _ frame.next ty.Truth of (omega (arith, c.scalars-test.true)) c.in-Truth.is in
    subst (λ (m : Memory). (x : Bool) × (m.cells frame.scalar ≡ byte (bit x))) (sym c.scalars.invariant.same) (next_truth o.1 refl e)

pub passed-requires-clause-scalar : goal.passed-requires-clause-scalar
passed-requires-clause-scalar g c =
    let frame = c.scalars.frame in
    let r = c.requires.left in
    let o = (c.scalars.invariant.goes r.0 r.2 r.3 r.4 r.1).onward r.5 r.6 in
    let of = r.1 ∙ ap (λ (x : ConId). field_types r.0 x.0) (sym c.scalars.invariant.con) in
    let e = field_left _ _ frame.next ty.Whole of (omega (arith, c.scalars-test.true)) c.in-Whole.is in
    let q = next_whole o.1 refl e in
    let below = (known_below (g.M.Mem.view c.args.mem.now) (g.met.M.Mem.bounded c.args.mem.now)).below frame.scalar _ (Holds-first q.2) in
    omega (arith, below)

pub passed-requires-in-Truth-clause-scalar : goal.passed-requires-in-Truth-clause-scalar
passed-requires-in-Truth-clause-scalar g c =
    let frame = c.scalars.frame in
    let r = c.requires.left in
    let o = (c.scalars.invariant.goes r.0 r.2 r.3 r.4 r.1).onward r.5 r.6 in
    let of = r.1 ∙ ap (λ (x : ConId). field_types r.0 x.0) (sym c.scalars.invariant.con) in
    let e = field_left _ _ frame.next ty.Truth of (omega (arith, c.scalars-test.true)) c.in-Truth.is in
    let q = next_truth o.1 refl e in
    let below = (known_below (g.M.Mem.view c.args.mem.now) (g.met.M.Mem.bounded c.args.mem.now)).below frame.scalar _ q.1 in
    omega (arith, below)

pub scalars-preserved-in-Whole : goal.scalars-preserved-in-Whole
scalars-preserved-in-Whole g c =
    let frame = c.scalars.frame in
    let r = c.requires.left in
    let o = (c.scalars.invariant.goes r.0 r.2 r.3 r.4 r.1).onward r.5 r.6 in
    let of = r.1 ∙ ap (λ (x : ConId). field_types r.0 x.0) (sym c.scalars.invariant.con) in
    let e = field_left _ _ frame.next ty.Whole of (omega (arith, c.scalars-test.true)) c.in-Whole.is in
    let q = next_whole o.1 refl e in
    let holds = subst (λ (m : Memory). Holds m.cells frame.scalar (number q.0)) (sym c.scalars.invariant.same) q.2 in
    let is = ap (λ (x : ℤ). cast_signed w64 (cast_unsigned w64 x)) (c.whole_at.ensures.value q.0 q.1 holds) ∙ to_z-of_z w64 q.0 q.1 in
    record {
      same = c.whole_at.ensures.same ∙ c.scalars.invariant.same;
      goes = λ laid names fs a same.
          let here = field_left _ _ frame.next ty.Whole (same ∙ ap (λ (x : ConId). field_types laid x.0) (sym c.scalars.invariant.con)) (omega (arith, c.scalars-test.true)) c.in-Whole.is in
          let turn = turn_as {fs = frame ∷ fs} refl (ap p.Whole is) (ap (λ (x : Frame). x ∷ fs) c.passed.ensures) refl (a_whole here q.1 q.2) in
          goes_then (c.scalars.invariant.goes laid names fs a same) (goes_turn turn c.in-Ok.ensures.done);
      con = ap (λ (x : Frame). x.con) c.passed.ensures ∙ c.scalars.invariant.con;
      closes = ap (λ (x : Frame). x.closes) c.passed.ensures ∙ c.scalars.invariant.closes;
    }

pub scalars-preserved : goal.scalars-preserved
scalars-preserved g c =
    let frame = c.scalars.frame in
    let holds = ap (λ (m : Memory). m.cells frame.scalar) (sym c.scalars.invariant.same) ∙ c.truth_at.ensures.value in
    record {
      same = c.truth_at.ensures.same ∙ c.scalars.invariant.same;
      goes = λ laid names fs a same.
          let here = field_left _ _ frame.next ty.Truth (same ∙ ap (λ (x : ConId). field_types laid x.0) (sym c.scalars.invariant.con)) (omega (arith, c.scalars-test.true)) c.in-Truth.is in
          let turn = turn_as {fs = frame ∷ fs} refl refl (ap (λ (x : Frame). x ∷ fs) c.passed-in-Truth.ensures) refl (a_truth here holds) in
          goes_then (c.scalars.invariant.goes laid names fs a same) (goes_turn turn c.in-Ok-put_truth.ensures.done);
      con = ap (λ (x : Frame). x.con) c.passed-in-Truth.ensures ∙ c.scalars.invariant.con;
      closes = ap (λ (x : Frame). x.closes) c.passed-in-Truth.ensures ∙ c.scalars.invariant.closes;
    }

pub scalars-smaller-in-Whole : goal.scalars-smaller-in-Whole
scalars-smaller-in-Whole g c =
    let next = ap (λ (x : Frame). x.next) c.passed.ensures in
    omega (arith, next, c.scalars-test.true)

pub scalars-smaller : goal.scalars-smaller
scalars-smaller g c =
    let next = ap (λ (x : Frame). x.next) c.passed-in-Truth.ensures in
    omega (arith, next, c.scalars-test.true)
