use Rattle.std.proofs.Common.{◌≡◌, ◌+◌, ◌-◌, ◌<◌, ◌≤◌, ℕ, reverse, refl, sym, ap, subst₂, ◌∙◌, arith}
use Rattle.gib_types.specs.declared.layouts.Layout.{Layout}
use Rattle.gib_types.specs.Layout.{layout_at, head_size, packed_at}
use Rattle.gib_mem.specs.Memory.{Memory, byte}
use Rattle.gib_packed.proofs.SpanLemmas.{Dec-known}
use Rattle.gib_compact.proofs.LeftLemmas.{next_value}
use Rattle.gib_compact.proofs.Running.{Running, running_start, running_more, runs_none}
use Rattle.gib_compact.proofs.walk.pass_run.Goals as goal

pub returns-then-walk-gt-MOST_DUE-clause-runs : goal.returns-then-walk-gt-MOST_DUE-clause-runs
returns-then-walk-gt-MOST_DUE-clause-runs g c = λ rest l. runs_none c.args.walk.now.at l

pub heads-init : goal.heads-init
heads-init g c = record {
  same = refl;
  running = λ rest l. running_start l;
  most = omega (arith, c.if-walk-gt-MOST_DUE.false);
  behind = omega arith;
  few = omega arith;
  low = λ e. refl;
}

pub get-tag-requires : goal.get-tag-requires
get-tag-requires g c =
    let r = c.heads.invariant.running c.requires.left.0 c.requires.left.1 in
    let known = Dec-known (next_value c.heads-test.true r.left).stands in
    (known.0, ap (λ (m : Memory). m.cells c.heads.at) c.heads.invariant.same ∙ known.1)

pub heads-preserved : goal.heads-preserved
heads-preserved g c =
    let laid = c.args.layouts.now in
    let s = (g.M.Mem.view c.args.mem.now).cells in
    let k = c.get-tag.result in
    let a = c.args.walk.now.at in
    let at = c.heads.at in
    let due = c.heads.due in
    let i = c.heads.invariant in
    let tag : s at ≡ byte k = sym (ap (λ (m : Memory). m.cells at) i.same) ∙ c.get-tag.ensures.value in
    let small : k < 254 = omega (arith, c.if-tag-ge-INDIRECTION.false) in
    let none : c.layout-layout.result.offsets ≡ 0 = omega (arith, c.if-layout-gt0.false) in
    let flat : (layout_at laid.table laid.with_offsets k).offsets ≡ 0 = sym (ap (λ (l : Layout). l.offsets) c.layout-layout.ensures) ∙ none in
    let some : 1 ≤ c.layout-layout.result.head = omega (arith, ap (λ (l : Layout). l.head) c.layout-layout.ensures) in
    let packed : packed_at laid k ≡ c.layout-layout.result.packed = ap (λ (l : Layout). l.packed) (sym c.layout-layout.ensures) in
    let x : at + head_size laid k ≡ at + c.layout-layout.result.head = ap (λ (l : Layout). at + l.head) (sym c.layout-layout.ensures) in
    let y : packed_at laid k + (due - 1) ≡ due - 1 + c.layout-layout.result.packed = omega (arith, packed) in
    record {
      same = c.get-tag.ensures.same ∙ i.same;
      running = λ rest l. subst₂ (λ (x y : ℕ). Running laid s a x y (reverse c.args.walk.now.back.items) rest) x y (running_more k c.heads-test.true tag small flat (i.running rest l));
      most = i.most;
      behind = omega (arith, i.behind);
      few = omega (arith, i.few, some, packed, c.rules.ensures.packed k);
      low = λ e. absurd (omega (arith, i.behind, e, some));
    }
