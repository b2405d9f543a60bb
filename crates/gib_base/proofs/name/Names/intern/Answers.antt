use Rattle.std.proofs.Common.{◌≡◌, ◌<◌, ◌∙◌, false, length, refl, sym, ap, subst, arith, true≢false}
use Rattle.gib_base.specs.Names.{texts_of, holds, AreNames}
use Rattle.gib_base.proofs.Held.{IsHeldAt, IsAdded, found_in, absent_in, added_in, with_held, AreNames-push, length-texts}
use Rattle.gib_base.proofs.name.Names.intern.Goals as goal

found : (c : goal.In-Some) → IsHeldAt c.args.self.now c.args.text.now c.in-Some.index
found c = found_in c.self.inside.set.keys c.args.self.now c.args.text.now c.in-Some.index c.self.view_is c.in-Some.ensures.index

is_new : (c : goal.In_ok-index-in-None) → holds c.args.self.now c.args.text.now ≡ false
is_new c = absent_in c.self.inside.set.keys c.args.self.now c.args.text.now c.self.view_is c.in-None.ensures.index

added : (c : goal.In_ok-index-in-None) → IsAdded c.args.self.now c.args.text.now (texts_of c.insert_full.new.self.keys) c.in_ok-index-in-None.index
added c = added_in c.self.inside.set.keys c.insert_full.new.self.keys c.in_ok-owned-in-None.owned c.args.self.now c.args.text.now c.in_ok-index-in-None.index
    c.self.view_is c.in_ok-owned-in-None.ensures.items (is_new c) c.in_ok-index-in-None.ensures.keys c.in_ok-index-in-None.ensures.index

pub returns-then-len-clause-many : goal.returns-then-len-clause-many
returns-then-len-clause-many c =
    let is : holds c.args.self.now c.args.text.now ≡ false = absent_in c.self.inside.set.keys c.args.self.now c.args.text.now c.self.view_is c.in-None.ensures.index in
    let few = c.self.invariant.few in
    let many : length c.args.self.now ≡ 65535 = omega (arith, few, length-texts c.self.inside.set.keys, ap length c.self.view_is, c.len.ensures.len, c.if-len.true) in
    (λ e. (many, is), λ p. refl)

after : (c : goal.In_ok-index-in-None) → AreNames (texts_of c.insert_full.new.self.keys)
after c =
    let before : AreNames c.args.self.now = subst AreNames c.self.view_is c.self.invariant in
    let few : length c.args.self.now < 65535 = omega (arith, length-texts c.self.inside.set.keys, ap length c.self.view_is, c.len.ensures.len, c.if-len.false) in
    subst AreNames (sym (added c).pushed) (AreNames-push c.args.self.now c.args.text.now before (is_new c) few)

pub invariant_of-self-in-None : goal.invariant_of-self-in-None
invariant_of-self-in-None c = after c

pub returns-in_ok-index-in-None-clause-names : goal.returns-in_ok-index-in-None-clause-names
returns-in_ok-index-in-None-clause-names c = after c

pub returns-in-Some-clause-number : goal.returns-in-Some-clause-number
returns-in-Some-clause-number c = (found c).number

pub returns-in-Some-clause-held : goal.returns-in-Some-clause-held
returns-in-Some-clause-held c = (found c).held

pub returns-in-Some-clause-grown : goal.returns-in-Some-clause-grown
returns-in-Some-clause-grown c = sym (with_held c.args.self.now c.args.text.now (found c).holds)

pub returns-in-Some-clause-many : goal.returns-in-Some-clause-many
returns-in-Some-clause-many c = (λ e. absurd cc, λ p. absurd (true≢false (sym (found c).holds ∙ p.1)))

pub returns-in_ok-index-in-None-clause-number : goal.returns-in_ok-index-in-None-clause-number
returns-in_ok-index-in-None-clause-number c = (added c).number

pub returns-in_ok-index-in-None-clause-held : goal.returns-in_ok-index-in-None-clause-held
returns-in_ok-index-in-None-clause-held c = (added c).held

pub returns-in_ok-index-in-None-clause-grown : goal.returns-in_ok-index-in-None-clause-grown
returns-in_ok-index-in-None-clause-grown c = (added c).grown
