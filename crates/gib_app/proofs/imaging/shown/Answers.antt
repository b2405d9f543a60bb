use Rattle.std.proofs.Common.{ap}
use Rattle.gib_core.specs.LoweredParts.{LoweredParts}
use Rattle.gib_syntax.specs.Declarations.{output_type}
use Rattle.gib_app.proofs.Imaged.{text_moved}
use Rattle.gib_app.proofs.imaging.shown.Goals as goal

pub returns-clause-shown : goal.returns-clause-shown
returns-clause-shown g c = λ p depth input s.
    let before = c.args.ran in
    let after = c.image_asked.new.ran in
    let made = c.in_ok-file.ensures in
    let laid = before.lowered.code.laid in (
      made.file (output_type p) s.result s.stands,
      text_moved p depth input c.args.names.now c.in_ok-text.text.items laid after.lowered.code.laid (g.M.Mem.view before.memory) (g.M.Mem.view after.memory) before.root after.root
          (ap (λ (l : LoweredParts). l.code.laid) made.kept) made.same made.root c.in_ok-text.ensures s,
    )
