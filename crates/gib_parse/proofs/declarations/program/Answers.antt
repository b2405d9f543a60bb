use Rattle.std.proofs.Common.{sym, ◌∙◌, List, map, subst}
use Rattle.std.specs.List.{AllByRecursion}
use Rattle.gib_syntax.specs.GenericTree.{GenericDataTree}
use Rattle.gib_syntax.specs.GenericFine.{HasGenericConstructor}
use Rattle.gib_syntax.specs.GenericParts.{data_in, function_in, main_in}
use Rattle.gib_syntax.specs.Spelling.{places_of}
use Rattle.gib_reads.proofs.Tools.{done}
use Rattle.gib_parse.proofs.PartsSoFar.{grows_more}
use Rattle.gib_parse.proofs.DeclarationsStay.{datas_stay, datas_stay_inside, functions_stay, functions_stay_inside, program_done}
use Rattle.gib_parse.proofs.WholeLaws.{read_constructors}
use Rattle.gib_parse.proofs.declarations.program.Goals as goal

pub new-requires : goal.new-requires
new-requires c =
    let first = c.all.new.exprs in
    let mid = c.all-2.new.exprs in
    let last = c.main_declaration.new.exprs in
    let datas = c.in_ok-datas.datas.items in
    let kept = c.in_ok-datas.ensures.kept in
    let later = c.in_ok-functions.ensures.kept in
    let end = c.in_ok-main.ensures.kept in
    let grown = grows_more first mid last later.grows end.grows in
    record {
      datas = datas_stay_inside first last datas kept.inside grown;
      constructors =
          subst (λ (ds : List GenericDataTree). AllByRecursion HasGenericConstructor ds) (sym (datas_stay first last datas kept.inside grown))
          (read_constructors (places_of c.args.spans.now) c.args.tokens.now c.in_ok-datas.tokens.now (map (data_in first.words) datas) c.in_ok-datas.ensures.read);
      functions = functions_stay_inside mid last c.in_ok-functions.functions.items later.inside end.grows;
      parameter = end.inside.parameter;
      result = end.inside.result;
      main = end.inside.body;
    }

pub returns : goal.returns
returns c =
    let first = c.all.new.exprs in
    let mid = c.all-2.new.exprs in
    let last = c.main_declaration.new.exprs in
    let datas = c.in_ok-datas.datas.items in
    let functions = c.in_ok-functions.functions.items in
    let main = main_in last c.in_ok-main.main in
    let kept = c.in_ok-datas.ensures.kept in
    let later = c.in_ok-functions.ensures.kept in
    let grown = grows_more first mid last later.grows c.in_ok-main.ensures.kept.grows in
    let ds = datas_stay first last datas kept.inside grown in
    let fs = functions_stay mid last functions later.inside c.in_ok-main.ensures.kept.grows in
    rw c.new.ensures
    (program_done (places_of c.args.spans.now) c.args.tokens.now c.in_ok-datas.tokens.now c.in_ok-functions.tokens.now c.in_ok-main.tokens.now (map (data_in first.words) datas) (map (function_in mid) functions) main c.in_ok-datas.ensures.read c.in_ok-functions.ensures.read c.in_ok-main.ensures.read
    ∙ (λ k. done (record { datas = sym ds k; functions = sym fs k; main = main }) c.in_ok-main.tokens.now))
