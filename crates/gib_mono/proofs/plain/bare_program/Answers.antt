use Rattle.std.proofs.Common.{ap, sym, subst, ◌∙◌}
use Rattle.std.specs.List.{AllByRecursion}
use Rattle.gib_syntax.specs.Parts.{Parts, program_of}
use Rattle.gib_mono.specs.Bare.{IsPlainHere}
use Rattle.gib_mono.proofs.Baring.{bares_of, functions_here, parts_inside, whole_bare}
use Rattle.gib_mono.proofs.plain.bare_program.Goals as goal

pub new-made-requires : goal.new-made-requires
new-made-requires c =
    let made : Parts = record { exprs = c.in_ok-exprs.exprs; data_decls = c.in_ok-datas.datas.items; functions = c.in_ok-functions.functions.items; main = c.bare_main-main.result } in
    parts_inside c.args.program made c.exprs.ensures.inside
    (bares_of c.args.program made c.exprs.result.now c.exprs-2.result.now c.exprs-3.result.now c.into_exprs.result c.datas.result.now c.functions.result.now c.main.result c.exprs.ensures.value c.exprs-2.ensures.value c.exprs-3.ensures.value c.into_exprs.ensures.value c.datas.ensures.value c.functions.ensures.value c.main.ensures.value
    c.in_ok-exprs.ensures c.in_ok-datas.ensures c.in_ok-functions.ensures.trees c.in_ok-functions.ensures.inside c.bare_main-main.ensures.tree c.bare_main-main.ensures.body)

pub returns : goal.returns
returns c =
    let made : Parts = record { exprs = c.in_ok-exprs.exprs; data_decls = c.in_ok-datas.datas.items; functions = c.in_ok-functions.functions.items; main = c.bare_main-main.result } in
    ap program_of c.new-made.ensures
    ∙ whole_bare c.args.program made c.exprs.ensures.inside
    (bares_of c.args.program made c.exprs.result.now c.exprs-2.result.now c.exprs-3.result.now c.into_exprs.result c.datas.result.now c.functions.result.now c.main.result c.exprs.ensures.value c.exprs-2.ensures.value c.exprs-3.ensures.value c.into_exprs.ensures.value c.datas.ensures.value c.functions.ensures.value c.main.ensures.value
    c.in_ok-exprs.ensures c.in_ok-datas.ensures c.in_ok-functions.ensures.trees c.in_ok-functions.ensures.inside c.bare_main-main.ensures.tree c.bare_main-main.ensures.body)

pub bare_functions-requires-clause-plain : goal.bare_functions-requires-clause-plain
bare_functions-requires-clause-plain c =
    subst (AllByRecursion IsPlainHere) (sym c.functions.ensures.value) (functions_here c.args.program.exprs c.args.program.functions c.requires.plain.functions c.requires.plain.singles)
