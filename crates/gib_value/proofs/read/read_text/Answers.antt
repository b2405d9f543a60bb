use Rattle.gib_value.proofs.ReadText.{err_complete, ok_complete}
use Rattle.gib_value.proofs.read.read_text.Goals as goal

pub returns-in-Ok-clause-complete : goal.returns-in-Ok-clause-complete
returns-in-Ok-clause-complete c = λ words v is.
    ok_complete c.args.types.now c.args.names.now.short (record { words = words; apart = c.requires.names.apart })
    c.args.ty c.args.text.now c.in-Ok.value v c.in-Ok.ensures is

pub returns-in-Err-clause-complete : goal.returns-in-Err-clause-complete
returns-in-Err-clause-complete c = λ words v is.
    err_complete c.args.types.now c.args.names.now.short (record { words = words; apart = c.requires.names.apart })
    c.args.ty c.args.text.now c.in-Err.fault v c.in-Err.ensures is
