use Rattle.std.proofs.Common.{◌≡◌, ◌∷◌, ℕ, List, sym, ap, subst, ◌∙◌, arith}
use Rattle.gib_types.specs.declared.layouts.Layout.{Layout}
use Rattle.gib_mem.specs.Memory.{Memory}
use Rattle.gib_compact.specs.Left.{IsLeft, IsHead, Splits}
use Rattle.gib_compact.proofs.Running.{nothing_passed}
use Rattle.gib_compact.proofs.write.write_next.Goals as goal

pub returns-clause-puts : goal.returns-clause-puts
returns-clause-puts g c = λ rest l.
    let laid = c.args.layouts.now in
    let head = c.in_ok-head.head in
    let here = nothing_passed (omega (arith, c.if-run-gt0.false)) (c.pass_run-run.ensures.runs rest l) in
    let splits = subst (λ (m : Memory). (rest : List ℕ) → IsLeft laid m.cells c.pass_run-run.new.walk rest → Splits laid m.cells head c.next.new.walk rest) c.pass_run-run.ensures.same c.in_ok-head.ensures.splits in
    let o = splits rest here in
    let there = subst (λ (m : Memory). IsHead laid m.cells head.at head.con.0 o.scalars) (sym (c.next.ensures.same ∙ c.pass_run-run.ensures.same)) o.is in
    record {
      bytes = head.con.0 ∷ o.scalars;
      later = o.later;
      out = c.in_ok-write_head.ensures.out o.scalars there;
      left = o.left;
      whole = o.whole;
      count = omega (arith, o.is.long, ap (λ (x : Layout). x.scalars) c.layout.ensures, c.if-bytes-most.false);
    }
