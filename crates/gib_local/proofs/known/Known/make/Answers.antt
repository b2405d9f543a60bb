use Rattle.std.proofs.Common.{sym, ap, ◌∙◌, map}
use Rattle.gib_local.specs.Knowing.{function_number, kept_name, all_kept}
use Rattle.gib_local.proofs.KnownNames.{known_is}
use Rattle.gib_local.proofs.known.Known.make.Goals as goal

pub invariant_of-result : goal.invariant_of-result
invariant_of-result c =
    known_is c.args.text c.in_ok-types.types c.in_ok-constructors.constructors c.in_ok-functions.functions c.in_ok-rows.rows.items c.datas.result.now c.datas.ensures c.in_ok-types.ensures
    (c.in_ok-rows.ensures ∙ ap (all_kept c.in_ok-types.types) (c.datas-2.ensures ∙ sym c.datas.ensures))
    (c.in_ok-constructors.ensures ∙ ap (map kept_name) c.deref.ensures.value)
    (c.in_ok-functions.ensures ∙ ap (map function_number) c.functions.ensures.value)
