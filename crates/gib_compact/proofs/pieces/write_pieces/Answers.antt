use Rattle.std.proofs.Common.{ℕ, List, ◌++◌, get_or, append_assoc, sym, ap, subst, ◌∙◌, arith}
use Rattle.gib_mem.specs.Memory.{Memory}
use Rattle.gib_compact.specs.declared.piece.Piece.{Piece}
use Rattle.gib_compact.specs.declared.piece.Piece.TheVariants as p
use Rattle.gib_compact.specs.Cut.{IsPiece}
use Rattle.gib_compact.proofs.PieceLemmas.{passes_one, passed_all}
use Rattle.gib_compact.proofs.pieces.write_pieces.Goals as goal

-- what stands at no place of a list
abbrev nothing : Piece
nothing = p.Head (record { at = 0; con = record { 0 = 0 } })

pub write_one-requires : goal.write_one-requires
write_one-requires g c =
    let r = c.requires.few in
    let q = c.pieces.invariant.passed r.bytes r.cut in
    let o = passes_one c.args.pieces.now c.pieces.i nothing q.front r.bytes c.pieces-test.true q.passed in
    record { few = (o.bytes, subst (λ (m : Memory). IsPiece c.args.packing.layouts.now m.cells (get_or c.args.pieces.now c.pieces.i nothing) o.bytes) (sym c.pieces.invariant.same) o.is, omega (arith, o.few, r.few)) }

pub pieces-preserved : goal.pieces-preserved
pieces-preserved g c = record {
  same = c.write_one.ensures.same ∙ c.pieces.invariant.same;
  within = omega (arith, c.pieces-test.true);
  passed = λ bytes l.
      let laid = c.args.packing.layouts.now in
      let q = c.pieces.invariant.passed bytes l in
      let o = passes_one c.args.pieces.now c.pieces.i nothing q.front bytes c.pieces-test.true q.passed in
      let e = c.in_ok-write_one.ensures.out o.bytes (subst (λ (m : Memory). IsPiece laid m.cells (get_or c.args.pieces.now c.pieces.i nothing) o.bytes) (sym c.pieces.invariant.same) o.is) in
      record { front = q.front ++ o.bytes; is = e ∙ ap (λ (x : List ℕ). x ++ o.bytes) q.is ∙ append_assoc c.args.out.now.items q.front o.bytes; passed = o.goes };
}

pub returns-clause-out : goal.returns-clause-out
returns-clause-out g c = λ bytes l.
    let q = c.pieces.invariant.passed bytes l in
    q.is ∙ ap (λ (x : List ℕ). c.args.out.now.items ++ x) (passed_all c.args.pieces.now (omega (arith, c.pieces-test.false, c.pieces.invariant.within)) q.passed)
