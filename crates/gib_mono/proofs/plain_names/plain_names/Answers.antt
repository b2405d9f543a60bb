use Rattle.std.proofs.Common.{List, ap, ap₂, ◌∙◌}
use Rattle.gib_syntax.specs.declared.program.GenericData.{GenericData}
use Rattle.gib_syntax.specs.declared.program.GenericFunction.{GenericFunction}
use Rattle.gib_mono.specs.Bare.{datas_names, function_names}
use Rattle.gib_mono.specs.Copied.{Item}
use Rattle.gib_mono.specs.Entries.{items_of}
use Rattle.gib_mono.specs.Naming.{with_entries}
use Rattle.gib_mono.specs.Scenes.{names_in}
use Rattle.gib_mono.proofs.Baring.{names_plain}
use Rattle.gib_mono.proofs.plain_names.plain_names.Goals as goal

pub returns : goal.returns
returns c =
    ap items_of c.into_copies.ensures ∙ c.in_ok-put_functions.ensures
    ∙ ap₂ (λ (l : List Item) (fs : List GenericFunction). with_entries l (function_names fs))
    (c.in_ok-put_datas.ensures ∙ ap₂ (λ (l : List Item) (ds : List GenericData). with_entries l (datas_names ds)) (ap names_in c.new-names.ensures) c.datas.ensures.value) c.functions.ensures.value
    ∙ names_plain c.args.program.now c.requires
