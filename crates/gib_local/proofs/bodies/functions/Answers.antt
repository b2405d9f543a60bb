use Rattle.std.proofs.Common.{List, length, rules, sym, ap, ◌∙◌, subst}
use Rattle.gib_local_parse.specs.declared.text.FunctionLines.{FunctionLines}
use Rattle.gib_local_parse.specs.LineArena.{tree_of}
use Rattle.gib_local_parse.specs.TextParts.{AreInside, TextParts}
use Rattle.gib_local.specs.Builds.{program_in}
use Rattle.gib_local.proofs.Bodying.{FunctionsSoFar, function_here, functions_begin, functions_end, functions_fail, functions_next}
use Rattle.gib_local.proofs.bodies.functions.Goals as goal

pub functions-init : goal.functions-init
functions-init c =
    let p = program_in c.args.source.now in
    let g = tree_of c.args.source.now.lines in
    let n = length c.args.source.now.lines in
    subst (λ (l : List FunctionLines). FunctionsSoFar p g n c.args.builder.now c.args.builder.now c.args.source.now.functions l c.new-functions.result.items) (sym (c.functions-rest.ensures.value ∙ ap (λ (q : TextParts). q.functions) c.text.ensures))
    (functions_begin p g n c.args.builder.now c.args.source.now.functions c.new-functions.result.items (subst AreInside c.text.ensures c.functions-rest.ensures.inside).functions c.new-functions.ensures.items)

pub function-requires : goal.function-requires
function-requires c = function_here (length c.args.source.now.lines) c.functions.rest.now c.lines-item.result c.in-len1-up.len_at_least c.lines-item.is c.functions.invariant.below

pub functions-preserved : goal.functions-preserved
functions-preserved c =
    functions_next (program_in c.args.source.now) (tree_of c.args.source.now.lines) (length c.args.source.now.lines) c.args.builder.now c.functions.builder c.function.new.builder c.args.source.now.functions c.functions.rest.now c.lines-item.result c.functions.functions.items c.push.new.self.items c.in_ok-function.function
    c.in-len1-up.len_at_least c.lines-item.is c.functions.invariant c.in_ok-function.ensures c.in_ok-push.ensures.items

pub returns : goal.returns
returns c = functions_end (program_in c.args.source.now) (tree_of c.args.source.now.lines) (length c.args.source.now.lines) c.args.builder.now c.functions.builder c.args.source.now.functions c.functions.rest.now c.functions.functions.items c.in_default.len_below c.functions.invariant

pub returns-in_err-function : goal.returns-in_err-function
returns-in_err-function c =
    let h = functions_fail (program_in c.args.source.now) (tree_of c.args.source.now.lines) (length c.args.source.now.lines) c.in_err-function.field-0.0 c.args.builder.now c.functions.builder c.args.source.now.functions c.functions.rest.now c.lines-item.result c.functions.functions.items
    c.in-len1-up.len_at_least c.lines-item.is c.functions.invariant c.in_err-function.ensures in
    search rules
