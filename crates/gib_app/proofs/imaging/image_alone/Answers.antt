use Rattle.std.proofs.Common.{refl, subst, IfOk, option_map}
use Rattle.gib_arena.specs.Sole.{sole_memory}
use Rattle.gib_mem.specs.Memory.{Memory}
use Rattle.gib_syntax.specs.Declarations.{output_type}
use Rattle.gib_app.specs.Replaying.{IsImageFile}
use Rattle.gib_app.proofs.Imaged.{stands_again}
use Rattle.gib_app.proofs.imaging.image_alone.Goals as goal

pub returns : goal.returns
returns c = λ p depth input s.
    let ran = c.args.value.ran in
    let laid = ran.lowered.code.laid in
    let before = sole_memory ran.memory in
    let after = sole_memory c.owns_all.new.self in
    let there = stands_again p depth input laid laid before after ran.root ran.root refl c.owns_all.ensures.same refl s in
    subst (λ (m : Memory). IfOk c.image_asked.result (λ file. IsImageFile c.args.image laid (output_type p) m ran.root s.result (option_map (λ bytes. bytes.items) file)))
    c.owns_all.ensures.same (c.image_asked.ensures.file (output_type p) s.result there.stands)
