use Rattle.std.proofs.Common.{◌∙◌, arith, ◌≡◌, ◌+◌, length}
use Rattle.gib_place.proofs.Places.{number_there, number_behind}
use Rattle.gib_place.proofs.renumber.numbers.Numbers.number.Goals as goal

pub returns-in-Some : goal.returns-in-Some
returns-in-Some c = λ i. record { 0 = number_there c.args.self.now c.self.inside.order.items c.self.inside.places c.args.x.0 c.in-Some.place c.get.result c.self.invariant c.self.view_is c.get.ensures c.in-Some.is i }

pub returns-in-Some-checked_add : goal.returns-in-Some-checked_add
returns-in-Some-checked_add c =
    let sum : c.in-Some-checked_add.number ≡ c.args.x.0 + length c.self.inside.order.items = omega (arith, c.in-Some-checked_add.ensures, c.in-Ok.ensures, c.len.ensures, c.self.inside.order.ok) in
    λ i. record { 0 = (sum ∙ number_behind c.args.self.now c.self.inside.order.items c.self.inside.places c.args.x.0 c.get.result c.self.invariant c.self.view_is c.get.ensures c.in-None.is) i }
