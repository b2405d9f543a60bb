use Rattle.std.proofs.Common.{◌≡◌, ◌≤◌, ◌∷◌, ℕ, List, length, refl, sym, ap, subst, ◌∙◌, arith}
use Rattle.std.specs.Prelude.{ℤ, FitsSigned, IfOk, IsTrue}
use Rattle.std.specs.Int.{w64, cast_signed, cast_unsigned}
use Rattle.std.proofs.lemmas.Int.{to_z-of_z}
use Rattle.gib_types.specs.declared.table.ConId.{ConId}
use Rattle.gib_types.specs.Layout.{field_types}
use Rattle.gib_mem.specs.Memory.{Memory, Holds}
use Rattle.gib_packed.specs.Scalars.{number}
use Rattle.gib_packed.proofs.HoldsLemmas.{Holds-first}
use Rattle.gib_packed.proofs.WalkLemmas.{known_below}
use Rattle.gib_print.specs.Framing.{works, a_whole}
use Rattle.gib_print.specs.Going.{Goes}
use Rattle.gib_print.specs.Working.{Left}
use Rattle.gib_print.specs.declared.frame.Frame.{Frame}
use Rattle.gib_print.specs.declared.turn.Printed.TheVariants as p
use Rattle.gib_print.proofs.HeadLemmas.{number_left, next_whole, turn_as}
use Rattle.gib_print.proofs.PlanLemmas.{goes_none, goes_turn, goes_then}
use Rattle.gib_print.proofs.SentLemmas.{ok_then}
use Rattle.gib_print.proofs.ShapeLemmas.{shape_at, no_shape}
use Rattle.gib_print.proofs.StepLemmas.{few_fields}
use Rattle.gib_print.proofs.walk.put_fields.Goals as goal

pub numbers-init : goal.numbers-init
numbers-init g c = record {
  same = refl;
  goes = λ names fs a. goes_none (c.args.frame.now ∷ fs) a (g.O.Sink.view c.args.sink.now) c.args.waiting.now;
  con = refl;
  closes = refl;
}

pub whole_at-requires : goal.whole_at-requires
whole_at-requires g c =
    let frame = c.numbers.frame in
    let r = c.requires.left in
    let o = (c.numbers.invariant.goes r.0 r.1 r.2).onward r.3 r.4 in
    let e = number_left c.args.layouts.now frame (shape_at c.requires.shapes.1 c.requires.con no_shape).numbers (ap (λ (x : ConId). x.0) c.numbers.invariant.con) c.numbers-test.true in
    subst (λ (m : Memory). (z : ℤ) × FitsSigned w64 z × Holds m.cells frame.scalar (number z)) (sym c.numbers.invariant.same) (next_whole o.1 refl e)

pub passed-requires-clause-scalar : goal.passed-requires-clause-scalar
passed-requires-clause-scalar g c =
    let frame = c.numbers.frame in
    let r = c.requires.left in
    let o = (c.numbers.invariant.goes r.0 r.1 r.2).onward r.3 r.4 in
    let e = number_left c.args.layouts.now frame (shape_at c.requires.shapes.1 c.requires.con no_shape).numbers (ap (λ (x : ConId). x.0) c.numbers.invariant.con) c.numbers-test.true in
    let q = next_whole o.1 refl e in
    let below = (known_below (g.M.Mem.view c.args.mem.now) (g.met.M.Mem.bounded c.args.mem.now)).below frame.scalar _ (Holds-first q.2) in
    omega (arith, below)

pub passed-requires-clause-next : goal.passed-requires-clause-next
passed-requires-clause-next g c =
    let few = few_fields c.args.layouts.now.table c.args.frame.now.con.0 c.rules.ensures.table in
    omega (arith, few, (shape_at c.requires.shapes.1 c.requires.con no_shape).numbers.within, c.numbers-test.true)

pub numbers-preserved : goal.numbers-preserved
numbers-preserved g c =
    let frame = c.numbers.frame in
    let r = c.requires.left in
    let o = (c.numbers.invariant.goes r.0 r.1 r.2).onward r.3 r.4 in
    let e = number_left c.args.layouts.now frame (shape_at c.requires.shapes.1 c.requires.con no_shape).numbers (ap (λ (x : ConId). x.0) c.numbers.invariant.con) c.numbers-test.true in
    let q = next_whole o.1 refl e in
    let holds = subst (λ (m : Memory). Holds m.cells frame.scalar (number q.0)) (sym c.numbers.invariant.same) q.2 in
    let is = ap (λ (x : ℤ). cast_signed w64 (cast_unsigned w64 x)) (c.whole_at.ensures.value q.0 q.1 holds) ∙ to_z-of_z w64 q.0 q.1 in
    record {
      same = c.whole_at.ensures.same ∙ c.numbers.invariant.same;
      goes = λ names fs a.
          let turn = turn_as {fs = frame ∷ fs} refl (ap p.Whole is) (ap (λ (x : Frame). x ∷ fs) c.passed.ensures) refl (a_whole e q.1 q.2) in
          goes_then (c.numbers.invariant.goes names fs a) (goes_turn turn c.in-Ok.ensures.done);
      con = ap (λ (x : Frame). x.con) c.passed.ensures ∙ c.numbers.invariant.con;
      closes = ap (λ (x : Frame). x.closes) c.passed.ensures ∙ c.numbers.invariant.closes;
    }

pub numbers-smaller : goal.numbers-smaller
numbers-smaller g c =
    let next = ap (λ (x : Frame). x.next) c.passed.ensures in
    omega (arith, next, c.numbers-test.true)

pub put_scalars-requires : goal.put_scalars-requires
put_scalars-requires g c =
    let laid = c.args.layouts.now in
    let r = c.requires.left in
    let o = (c.numbers.invariant.goes r.0 r.1 r.2).onward r.3 r.4 in
    record { left = (laid, c.fields.ensures, r.0, r.1, r.2, o.0, subst (λ (m : Memory). Left laid r.0 m.cells (works laid.table (c.numbers.frame ∷ r.1)) r.2 o.0) (sym c.numbers.invariant.same) o.1) }

pub returns-then-shape-clause-all : goal.returns-then-shape-clause-all
returns-then-shape-clause-all g c = λ _.
    let laid = c.args.layouts.now in
    let con = ap (λ (x : ConId). length (field_types laid x.0)) c.numbers.invariant.con in
    omega (arith, con, (shape_at c.requires.shapes.1 c.requires.con no_shape).fields, c.if-shape.true, c.numbers-test.false)

pub returns-clause-goes : goal.returns-clause-goes
returns-clause-goes g c = λ names fs a.
    let laid = c.args.layouts.now in
    ok_then c.put_scalars.result
    (λ k. goes_then (c.numbers.invariant.goes names fs a) (subst (λ (m : Memory). Goes laid names m.cells (c.numbers.frame ∷ fs) a (c.put_scalars.new.frame ∷ fs) a (g.O.Sink.view c.numbers.sink) (g.O.Sink.view c.put_scalars.new.sink) c.numbers.waiting c.put_scalars.new.waiting) c.numbers.invariant.same k))
    (c.put_scalars.ensures.goes laid names fs a c.fields.ensures)

pub returns-clause-all : goal.returns-clause-all
returns-clause-all g c =
    let laid = c.args.layouts.now in
    let long = ap length c.fields.ensures ∙ ap (λ (x : ConId). length (field_types laid x.0)) (sym c.put_scalars.ensures.con) in
    subst (λ (n : ℕ). IfOk c.put_scalars.result (λ all. IsTrue all → n ≤ c.put_scalars.new.frame.next)) long c.put_scalars.ensures.all
