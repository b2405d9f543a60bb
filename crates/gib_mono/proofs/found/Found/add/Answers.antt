use Rattle.std.proofs.Common.{◌≡◌, true, ap, sym, subst, ◌∙◌}
use Rattle.std.specs.List.{list_any}
use Rattle.gib_mono.specs.Walk.{add_new}
use Rattle.gib_mono.specs.Found.{Kept, IsNewKey, Adds, same_key}
use Rattle.gib_mono.proofs.Keys.{found_is, known_any, absent_any}
use Rattle.gib_mono.proofs.found.Found.add.Goals as goal

pub push-requires-clause-new : goal.push-requires-clause-new
push-requires-clause-new c = subst (λ (v : Kept). IsNewKey v.keys c.args.key) c.self.view_is (absent_any c.self.inside.keys.keys c.args.key (sym c.in-None.ensures.index))

pub returns-in-Some : goal.returns-in-Some
returns-in-Some c = λ g fs found d decls once p e f h.
    let there = subst (λ (v : Kept). list_any (same_key c.args.key) v.keys ≡ true) c.self.view_is (known_any c.self.inside.keys.keys c.args.key c.in-Some.field-0 (sym c.in-Some.ensures.index)) in
    (found, ap (add_new found d c.args.span) (sym (found_is g decls fs once c.args.self.now.keys found c.args.key d p e h.copies) ∙ there), h)

pub returns-in-None : goal.returns-in-None
returns-in-None c = λ g fs found d decls once p e f h.
    let absent = subst (λ (v : Kept). IsNewKey v.keys c.args.key) c.self.view_is (absent_any c.self.inside.keys.keys c.args.key (sym c.in-None.ensures.index)) in
    subst (λ b. Adds g fs c.push.result c.push.new.self (add_new found d c.args.span b))
    (sym (sym (found_is g decls fs once c.args.self.now.keys found c.args.key d p e h.copies) ∙ absent)) (c.push.ensures g fs found d p e f h)
