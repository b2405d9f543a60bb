use Rattle.std.proofs.Common.{◌∷◌, ◌-◌, length, take, drop, sym, ap, ◌∙◌}
use Rattle.gib_types.specs.Types.{forms_of}
use Rattle.gib_mono.specs.declared.entries.Entry.{Entry}
use Rattle.gib_mono.proofs.Walking.{split_is}
use Rattle.gib_mono.proofs.Called.{listed_more}
use Rattle.gib_mono.proofs.copy_texts.list.Goals as goal

pub entries-preserved : goal.entries-preserved
entries-preserved c =
    listed_more c.args.names.now (forms_of c.args.types.now) (length c.args.types.now) c.entries.list.items c.push.new.self.items c.entry-item.result c.entries.rest.now _ c.args.entries.now c.in_ok-copied.copied c.entries.invariant
    (split_is c.entries.rest.now c.entry-item.result c.in-len1-up.len_at_least ∙ ap (λ (e : Entry). e ∷ take (length c.entries.rest.now - 1) (drop 1 c.entries.rest.now)) (sym c.entry-item.is))
    c.in_ok-push.ensures.items c.in_ok-copied.ensures.origin c.in_ok-copied.ensures.types
