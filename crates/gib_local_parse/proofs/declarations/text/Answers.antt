use Rattle.std.proofs.Common.{sym, ◌∙◌, map}
use Rattle.gib_syntax.specs.Parts.{data_tree}
use Rattle.gib_local_parse.specs.Sources.{places_in}
use Rattle.gib_reads.proofs.Tools.{done}
use Rattle.gib_local_parse.specs.LineArena.{tree_of}
use Rattle.gib_local_parse.specs.TextParts.{function_text, main_text}
use Rattle.gib_local_parse.proofs.DeclarationLoops.{functions_stay, functions_stay_inside, text_done}
use Rattle.gib_local_parse.proofs.WholeLaws.{have_constructors}
use Rattle.gib_local_parse.proofs.declarations.text.Goals as goal

pub new-requires : goal.new-requires
new-requires c =
    let mid = c.functions.new.lines in
    let last = c.main_declaration.new.lines in
    record {
      functions = functions_stay_inside mid last c.in_ok-functions.functions.items c.in_ok-functions.ensures.kept.inside c.in_ok-main.ensures.kept.grows;
      main = c.in_ok-main.ensures.kept.inside;
      constructors = have_constructors (places_in c.args.source.now) c.args.tokens.now c.in_ok-datas.tokens.now (map data_tree c.in_ok-datas.datas.items) c.in_ok-datas.ensures;
    }

pub returns : goal.returns
returns c =
    let mid = c.functions.new.lines in
    let last = c.main_declaration.new.lines in
    let functions = c.in_ok-functions.functions.items in
    let datas = map data_tree c.in_ok-datas.datas.items in
    let offsets = c.in_ok-offsets.offsets.items in
    let main = main_text (tree_of last) c.in_ok-main.main in
    let fs = functions_stay mid last functions c.in_ok-functions.ensures.kept.inside c.in_ok-main.ensures.kept.grows in
    rw c.new.ensures
    (text_done (places_in c.args.source.now) c.args.tokens.now c.in_ok-datas.tokens.now c.in_ok-offsets.tokens.now c.in_ok-functions.tokens.now c.in_ok-main.tokens.now datas offsets (map (function_text (tree_of mid)) functions) main
    c.in_ok-datas.ensures c.in_ok-offsets.ensures c.in_ok-functions.ensures.read c.in_ok-main.ensures.read
    ∙ (λ k. done (record { datas = datas; offsets = offsets; functions = sym fs k; main = main }) c.in_ok-main.tokens.now))
