use Rattle.std.proofs.Common.{subst}
use Rattle.std.specs.Prelude.{IfOk}
use Rattle.gib_types.specs.Types.{forms_of}
use Rattle.gib_check.specs.Judging.{meant_by, Meets}
use Rattle.gib_check.proofs.Read.{alone_read}
use Rattle.gib_check.proofs.reading.read_alone.Goals as goal

pub returns-in-Data-clause-met : goal.returns-in-Data-clause-met
returns-in-Data-clause-met c =
    subst (λ f. IfOk c.put_type-in-Data.result (λ id. Meets c.args.types.now c.put_type-in-Data.new.types id f))
    (alone_read (meant_by (forms_of c.args.types.now) c.args.meaning.now) c.args.word c.in-Data.field-0 c.in-Data.x c.in-Data.field-2 (forms_of c.args.types.now) c.new.result.items c.in-Data.is c.new.ensures.items)
    c.put_type-in-Data.ensures.met
