use Rattle.std.proofs.Common.{◌≤◌, ◌∙◌, arith}
use Rattle.gib_mono.proofs.Sourcing.{data_counted, constructors_few}
use Rattle.gib_mono.proofs.source.Source.constructors_of.Goals as goal

few : (c : goal.After-len) → c.len.result ≤ 200
few c =
    constructors_few c.args.self.now.exprs.words c.args.self.now.datas c.args.place c.data_decl.result.now c.len.result c.data_decl.ensures (c.len.ensures ∙ c.data_decl.result.now.constructors.ok.0)
    c.program-typed.ensures.typed.few_constructors

pub overflow_cast-result : goal.overflow_cast-result
overflow_cast-result c = let l = few c in omega (arith, l)

pub returns-clause-count : goal.returns-clause-count
returns-clause-count c = λ d e. data_counted c.args.self.now.exprs.words c.args.self.now.datas c.args.place c.data_decl.result.now c.len.result d c.data_decl.ensures (c.len.ensures ∙ c.data_decl.result.now.constructors.ok.0) e

pub returns-clause-few : goal.returns-clause-few
returns-clause-few c = few c
