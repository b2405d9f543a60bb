use Rattle.std.proofs.Common.{◌-◌, ◌∷◌, length, take, drop, sym, ap, ◌∙◌}
use Rattle.gib_mono.specs.Declaring.{copies_from}
use Rattle.gib_mono.specs.Naming.{listed_entries, with_entries}
use Rattle.gib_mono.specs.Scenes.{forms, names_in}
use Rattle.gib_mono.specs.Sources.{globals_in}
use Rattle.gib_mono.proofs.Named.{keys_next}
use Rattle.gib_mono.proofs.Walking.{split_is}
use Rattle.gib_mono.proofs.naming.name_copies.Goals as goal

pub keys-preserved : goal.keys-preserved
keys-preserved c =
    let after = take (length c.keys.rest.now - 1) (drop 1 c.keys.rest.now) in
    keys_next (globals_in c.args.source.now) c.args.copier.now c.keys.copier c.name_key.new.copier c.keys.rest.now after c.key-item.result (with_entries (names_in c.args.copier.now.scene) (listed_entries (copies_from (globals_in c.args.source.now) (forms c.args.copier.now.scene) c.args.keys.now)))
    (split_is c.keys.rest.now c.key-item.result c.in-len1-up.len_at_least ∙ ap (λ a. a ∷ after) (sym c.key-item.is)) c.keys.invariant c.in_ok-name_key.ensures
