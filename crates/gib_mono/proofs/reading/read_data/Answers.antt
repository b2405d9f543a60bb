use Rattle.std.proofs.Common.{refl, ◌∙◌, subst}
use Rattle.gib_types.specs.Form.{DataForm}
use Rattle.gib_types.specs.Types.{forms_of, forms_at}
use Rattle.gib_syntax.specs.Declarations.{number_of}
use Rattle.gib_check.specs.Judging.{Meets}
use Rattle.gib_mono.proofs.Read.{data_read}
use Rattle.gib_mono.proofs.reading.read_data.Goals as goal

pub returns-clause-read : goal.returns-clause-read
returns-clause-read c =
    data_read c.args.types.now c.put_type.new.types c.args.reading.now c.take.new.self c.put.new.self c.skip.new.self c.put-2.new.self c.put-3.new.self c.args.span c.args.name c.args.count c.in_ok-arguments.arguments.items
    (record { name = c.args.name.name; types = c.in_ok-arguments.arguments; span = c.args.name.span }) c.in_ok-id.id c.requires c.in_ok-arguments.ensures.taken c.in_ok-arguments.ensures.left
    (subst (λ is. Meets c.args.types.now c.put_type.new.types c.in_ok-id.id (DataForm (number_of c.args.name) (forms_at (forms_of c.args.types.now) is))) (c.in_ok-copied.ensures.items ∙ c.deref.ensures.value) c.in_ok-id.ensures.met)
    c.in_ok-put.ensures c.skip.ensures c.in_ok-put-2.ensures c.in_ok-put-3.ensures refl refl refl
