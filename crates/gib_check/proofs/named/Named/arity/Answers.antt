use Rattle.std.proofs.Common.{arith, ap}
use Rattle.std.specs.Vec.{vec_len}
use Rattle.gib_syntax.specs.declared.program.GenericData.{GenericData}
use Rattle.gib_check.proofs.NameRows.{arity_found_at, arity_missing_at}
use Rattle.gib_check.proofs.named.Named.arity.Goals as goal

pub returns-in-Some : goal.returns-in-Some
returns-in-Some c =
    arity_found_at c.self.inside.program c.args.self.now c.self.inside.types c.datas.result.now c.args.name.0 c.in-Some.place c.place.result c.index-datas-place.result c.len.result
    c.self.view_is c.self.invariant.types_are c.datas.ensures.value c.place.ensures.place c.in-Some.is c.index-datas-place.is (let e = ap (λ (z : GenericData). vec_len z.variables) c.index-datas-place.is in omega (arith, c.len.ensures, e, c.index-datas-place.result.variables.ok))

pub returns-in-None : goal.returns-in-None
returns-in-None c =
    arity_missing_at c.self.inside.program c.args.self.now c.self.inside.types c.args.name.0 c.place.result c.self.view_is c.self.invariant.types_are c.place.ensures.place c.in-None.is
