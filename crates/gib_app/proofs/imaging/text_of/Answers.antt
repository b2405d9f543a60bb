use Rattle.gib_app.specs.Running.{text_line}
use Rattle.gib_app.proofs.Imaged.{text_kept}
use Rattle.gib_app.proofs.imaging.text_of.Goals as goal

pub returns-in-Ok : goal.returns-in-Ok
returns-in-Ok g c = λ p depth input s.
    text_kept c.new-buffer.result.bytes.items c.print_ran.new.out.bytes.items c.into_bytes.result.items (text_line p c.args.names.now s.result)
    c.new-buffer.ensures (c.in-Ok.ensures.done p depth input s) c.into_bytes.ensures
