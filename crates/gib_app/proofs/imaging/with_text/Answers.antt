use Rattle.std.proofs.Common.{refl, subst}
use Rattle.gib_arena.specs.Sole.{sole_memory}
use Rattle.gib_mem.specs.Memory.{Memory}
use Rattle.gib_app.specs.Imaging.{IsShownWith}
use Rattle.gib_app.specs.Kept.{file_of}
use Rattle.gib_app.proofs.Imaged.{stands_again}
use Rattle.gib_app.proofs.imaging.with_text.Goals as goal

pub returns-in-Ok-clause-shown : goal.returns-in-Ok-clause-shown
returns-in-Ok-clause-shown c = λ p depth input s.
    let ran = c.args.value.ran in
    let laid = ran.lowered.code.laid in
    let before = sole_memory ran.memory in
    let after = sole_memory c.owns_all.new.self in
    let there = stands_again p depth input laid laid before after ran.root ran.root refl c.owns_all.ensures.same refl s in
    subst (λ (m : Memory). IsShownWith c.args.image laid m ran.root p c.args.value.names s.result (file_of c.in-Ok.made) c.in-Ok.made.end) c.owns_all.ensures.same (c.in-Ok.ensures.shown p depth input there)
