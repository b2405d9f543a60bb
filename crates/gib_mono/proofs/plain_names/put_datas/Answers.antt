use Rattle.std.proofs.Common.{◌-◌, ◌∷◌, length, take, drop, sym, ap, ◌∙◌}
use Rattle.gib_mono.specs.Bare.{datas_names}
use Rattle.gib_mono.specs.Naming.{with_entries}
use Rattle.gib_mono.specs.Scenes.{names_in}
use Rattle.gib_mono.proofs.Baring.{datas_next}
use Rattle.gib_mono.proofs.Walking.{split_is}
use Rattle.gib_mono.proofs.plain_names.put_datas.Goals as goal

pub datas-preserved : goal.datas-preserved
datas-preserved c =
    let after = take (length c.datas.rest.now - 1) (drop 1 c.datas.rest.now) in
    datas_next (names_in c.datas.names) (names_in c.put_data.new.names) (with_entries (names_in c.args.names.now) (datas_names c.args.datas.now)) c.datas.rest.now after c.declaration-item.result
    (split_is c.datas.rest.now c.declaration-item.result c.in-len1-up.len_at_least ∙ ap (λ a. a ∷ after) (sym c.declaration-item.is)) c.datas.invariant c.in_ok-put_data.ensures
