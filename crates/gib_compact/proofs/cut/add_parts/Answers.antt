use Rattle.std.proofs.Common.{◌-◌, [], refl, sym, subst, ◌∙◌, arith}
use Rattle.gib_mem.specs.Memory.{Memory}
use Rattle.gib_packed.specs.Decoding.{Dec, Decodes}
use Rattle.gib_compact.specs.Left.{Left}
use Rattle.gib_compact.proofs.CutLemmas.{adding_start, adding_next, adding_over}
use Rattle.gib_compact.proofs.cut.add_parts.Goals as goal

pub parts-init : goal.parts-init
parts-init g c = record { same = refl; adding = λ rest l. adding_start c.args.at c.args.count c.args.out.now.items rest l }

pub behind-place-requires : goal.behind-place-requires
behind-place-requires g c =
    let n = adding_next c.parts-test.true (c.parts.invariant.adding c.requires.0 c.requires.1) in
    subst (λ (m : Memory). Decodes c.args.layouts.now m.cells c.parts.place) (sym c.parts.invariant.same) (n.t, n.v, n.end, n.stands)

pub parts-preserved : goal.parts-preserved
parts-preserved g c = record {
  same = c.behind-place.ensures.same ∙ c.parts.invariant.same;
  adding = λ rest l.
      let laid = c.args.layouts.now in
      let same = c.parts.invariant.same in
      let n = adding_next c.parts-test.true (c.parts.invariant.adding rest l) in
      let due = c.behind-place.ensures.left n.t n.v n.end n.rest (subst (λ (m : Memory). Dec laid m.cells c.parts.place n.t n.v n.end) (sym same) n.stands) (subst (λ (m : Memory). Left laid m.cells n.end (c.parts.left - 1) [] n.rest) (sym same) n.due) in
      n.goes c.behind-place.result c.push.new.self.items c.in_ok-push.ensures.items (subst (λ (m : Memory). Left laid m.cells c.behind-place.result (c.parts.left - 1) [] n.rest) same due);
}

pub returns-clause-adds : goal.returns-clause-adds
returns-clause-adds g c = λ rest l. adding_over (omega (arith, c.parts-test.false)) (c.parts.invariant.adding rest l)
