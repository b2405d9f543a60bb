use Rattle.std.proofs.Common.{refl}
use Rattle.gib_mono.specs.Contexts.{forms}
use Rattle.gib_mono.specs.Walk.{add_new, is_found}
use Rattle.gib_mono.proofs.Seeking.{err_added}
use Rattle.gib_mono.proofs.search.add.Goals as goal

pub returns-in-Err-Limit : goal.returns-in-Err-Limit
returns-in-Err-Limit c = record {
  context = refl;
  added = λ g found d decls once below is count kept.
      err_added g (forms c.args.search.now.context) c.add.new.self c.add.new.self (add_new found d c.args.span (is_found found d)) c.in-Err-Limit.field-0 c.in-Err-Limit.place (let e = c.in-Err-Limit.field-0-is in cc)
      (c.in-Err-Limit.ensures g (forms c.args.search.now.context) found d decls once below is count kept);
}
