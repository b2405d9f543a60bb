use Rattle.gib_edge.proofs.FileLemmas.{held-stored}
use Rattle.gib_edge.proofs.mem_shelf.store.Goals as goal

pub returns-clause-ok : goal.returns-clause-ok
returns-clause-ok c =
    held-stored c.args.name.now c.args.bytes.now c.args.files.now.items c.reserve.new.self.items c.remove.new.files.items c.push_reserved.new.self.items
    (c.in_ok-from_str.field-0, c.in_ok-from_slice.field-0)
    c.reserve.ensures.items c.remove.ensures.items c.push_reserved.ensures.items c.in_ok-from_str.ensures.ok c.in_ok-from_slice.ensures.items
