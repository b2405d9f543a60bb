use Rattle.std.proofs.Common.{◌≡◌, ap, ◌∙◌}
use Rattle.gib_mem.specs.Memory.{Memory}
use Rattle.gib_arena.specs.declared.memory.Pass.{Pass}
use Rattle.gib_arena.specs.Passes.{view}
use Rattle.gib_arena.specs.Shown.{shown}
use Rattle.gib_compact.proofs.BackLemmas.{back_by}
use Rattle.gib_text.proofs.text.cut_alone.Goals as goal

pub returns-clause-back : goal.returns-clause-back
returns-clause-back c =
    let memory : Pass → Memory = λ p. shown p.seat.table_id (view p) in
    let e : memory c.into_pass-pass.result.1 ≡ memory c.args.pass = ap memory c.into_pass-pass.ensures.pass ∙ (c.cut_text-items.ensures.same ∙ ap memory c.make-mem.ensures.pass) in
    back_by c.args.sharing.arena.now c.args.pass c.into_pass-pass.result.1 (c.names_tell.ensures c.args.sharing.arena.now c.args.pass c.into_pass-pass.result.1 c.requires.own (ap (λ (m : Memory). m.holder.arena) e)) e
