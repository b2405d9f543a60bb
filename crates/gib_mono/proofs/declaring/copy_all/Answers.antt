use Rattle.std.proofs.Common.{◌-◌, ◌∷◌, length, take, drop, sym, ap, ◌∙◌}
use Rattle.gib_mono.specs.Sources.{globals_in}
use Rattle.gib_mono.proofs.Declarations.{declared_next}
use Rattle.gib_mono.proofs.Walking.{split_is}
use Rattle.gib_mono.proofs.declaring.copy_all.Goals as goal

pub keys-preserved : goal.keys-preserved
keys-preserved c =
    let after = take (length c.keys.rest.now - 1) (drop 1 c.keys.rest.now) in
    declared_next (globals_in c.args.source.now) c.args.copier.now c.keys.copier c.copy_key.new.copier c.args.keys.now c.keys.rest.now after c.keys.declared.datas.items c.copy_key.new.declared.datas.items c.keys.declared.functions.items c.copy_key.new.declared.functions.items c.key-item.result
    (split_is c.keys.rest.now c.key-item.result c.in-len1-up.len_at_least ∙ ap (λ a. a ∷ after) (sym c.key-item.is)) c.keys.invariant c.in_ok-copy_key.ensures
