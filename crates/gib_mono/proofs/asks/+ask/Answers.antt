use Rattle.std.proofs.Common.{◌-◌, ◌++◌, ◌∷◌, length, take, drop, sym, ap, ◌∙◌}
use Rattle.gib_syntax.specs.GenericArena.{arguments_from, case_from, tree_of}
use Rattle.gib_syntax.specs.declared.generic.GenericNode.TheVariants as n
use Rattle.gib_syntax.specs.GenericTree.{GenericCall, GenericMake, GenericCase, GenericTuple}
use Rattle.gib_syntax.specs.Words.{types_in}
use Rattle.gib_mono.specs.Sources.{globals_in, asks_in}
use Rattle.gib_mono.proofs.Seeking.{asks_both, if_ok}
use Rattle.gib_mono.proofs.Walking.{split_is, empty_is, arguments_start, arguments_next, arguments_end, arms_start, arms_next, arms_end, called_asked, made_asked, opened_asks, opened_node}
use Rattle.gib_mono.proofs.asks.+ask.Goals as goal

pub ask_two-returns : goal.ask_two-returns
ask_two-returns t c =
    asks_both (globals_in c.args.source.now) c.args.search.now c.ask_expression.new.search c.ask_expression-2.new.search (asks_in c.args.source.now c.args.left.0) (asks_in c.args.source.now c.args.right.0) c.in_ok-ask_expression.ensures c.in_ok-ask_expression-2.ensures

pub ask_three-returns : goal.ask_three-returns
ask_three-returns t c =
    asks_both (globals_in c.args.source.now) c.args.search.now c.ask_expression.new.search c.ask_two.new.search (asks_in c.args.source.now c.args.first.0) (λ m. asks_in c.args.source.now c.args.second.0 m ++ asks_in c.args.source.now c.args.third.0 m) c.in_ok-ask_expression.ensures c.in_ok-ask_two.ensures

pub ask_arguments-arguments-preserved : goal.ask_arguments-arguments-preserved
ask_arguments-arguments-preserved t c =
    arguments_next c.args.source.now c.args.id.0 c.args.search.now c.arguments.search c.ask_expression.new.search c.args.ids.now c.arguments.rest.now _ _ (split_is c.arguments.rest.now _ c.in-len1-up.len_at_least) c.arguments.invariant c.in_ok-ask_expression.ensures

pub ask_arguments-returns : goal.ask_arguments-returns
ask_arguments-returns t c = arguments_end c.args.source.now c.args.id.0 c.args.search.now c.arguments.search c.args.ids.now c.arguments.rest.now (empty_is c.arguments.rest.now c.in_default.len_below) c.arguments.invariant

pub ask_case-arms-preserved : goal.ask_case-arms-preserved
ask_case-arms-preserved t c =
    arms_next c.args.source.now c.args.id.0 c.args.search.now c.arms.search c.ask_expression.new.search c.args.arms.now c.arms.rest.now _ c.arm-item.result
    (split_is c.arms.rest.now c.arm-item.result c.in-len1-up.len_at_least ∙ ap (λ a. a ∷ take (length c.arms.rest.now - 1) (drop 1 c.arms.rest.now)) (sym c.arm-item.is)) c.arms.invariant c.in_ok-ask_expression.ensures

pub ask_case-returns : goal.ask_case-returns
ask_case-returns t c =
    arms_end c.args.source.now c.args.id.0 c.args.search.now c.arms.search c.args.arms.now c.arms.rest.now c.args.span c.args.variable c.requires.below (empty_is c.arms.rest.now c.in_default.len_below) c.arms.invariant

pub ask_arguments-arguments-init : goal.ask_arguments-arguments-init
ask_arguments-arguments-init t c = arguments_start c.args.source.now c.args.id.0 c.args.search.now c.args.ids.now c.requires.below

pub ask_case-arms-init : goal.ask_case-arms-init
ask_case-arms-init t c = arms_start c.args.source.now c.args.id.0 c.args.search.now c.args.arms.now c.requires.below

pub ask_expression-returns-in-Paren : goal.ask_expression-returns-in-Paren
ask_expression-returns-in-Paren t c =
    if_ok _ _ c.ask_expression.result (λ u a. opened_asks c.args.source.now c.args.search.now c.ask_expression.new.search c.args.id.0 _
    (opened_node c.args.source.now c.args.id.0 c.node.result.now (n.Paren c.in-Paren.field-0 c.in-Paren.inner) c.node.ensures c.in-Paren.is) a) c.ask_expression.ensures

pub ask_expression-returns-in-Operation : goal.ask_expression-returns-in-Operation
ask_expression-returns-in-Operation t c =
    if_ok _ _ c.ask_two.result (λ u a. opened_asks c.args.source.now c.args.search.now c.ask_two.new.search c.args.id.0 _
    (opened_node c.args.source.now c.args.id.0 c.node.result.now (n.Operation c.in-Operation.span c.in-Operation.operator c.in-Operation.left c.in-Operation.right) c.node.ensures c.in-Operation.is) a) c.ask_two.ensures

pub ask_expression-returns-in_ok-ask_call-in-Call : goal.ask_expression-returns-in_ok-ask_call-in-Call
ask_expression-returns-in_ok-ask_call-in-Call t c =
    if_ok _ _ c.ask_arguments.result (λ u a. opened_asks c.args.source.now c.args.search.now c.ask_arguments.new.search c.args.id.0 _
    (opened_node c.args.source.now c.args.id.0 c.node.result.now (n.Call c.in-Call.f c.in-Call.run' c.in-Call.ids) c.node.ensures c.in-Call.is ∙ ap (λ is. GenericCall c.in-Call.f (types_in c.args.source.now.exprs.words c.in-Call.run') (arguments_from (tree_of c.args.source.now.exprs) is)) (sym c.deref.ensures.value))
    (called_asked c.args.source.now c.args.search.now c.ask_call.new.search c.ask_arguments.new.search c.in-Call.f c.in-Call.run' c.words.result.now c.deref.result.now c.words.ensures c.in_ok-ask_call-in-Call.ensures a)) c.ask_arguments.ensures

pub ask_expression-returns-in_ok-ask_make-in-Make : goal.ask_expression-returns-in_ok-ask_make-in-Make
ask_expression-returns-in_ok-ask_make-in-Make t c =
    if_ok _ _ c.ask_arguments-in-Make.result (λ u a. opened_asks c.args.source.now c.args.search.now c.ask_arguments-in-Make.new.search c.args.id.0 _
    (opened_node c.args.source.now c.args.id.0 c.node.result.now (n.Make c.in-Make.k c.in-Make.run' c.in-Make.ids) c.node.ensures c.in-Make.is ∙ ap (λ is. GenericMake c.in-Make.k (types_in c.args.source.now.exprs.words c.in-Make.run') (arguments_from (tree_of c.args.source.now.exprs) is)) (sym c.deref-in-Make.ensures.value))
    (made_asked c.args.source.now c.args.search.now c.ask_make.new.search c.ask_arguments-in-Make.new.search c.in-Make.k c.in-Make.run' c.words-in-Make.result.now c.deref-in-Make.result.now c.words-in-Make.ensures c.in_ok-ask_make-in-Make.ensures a)) c.ask_arguments-in-Make.ensures

pub ask_expression-returns-in-Let : goal.ask_expression-returns-in-Let
ask_expression-returns-in-Let t c =
    if_ok _ _ c.ask_two-in-Let.result (λ u a. opened_asks c.args.source.now c.args.search.now c.ask_two-in-Let.new.search c.args.id.0 _
    (opened_node c.args.source.now c.args.id.0 c.node.result.now (n.Let c.in-Let.span c.in-Let.names c.in-Let.bound c.in-Let.body) c.node.ensures c.in-Let.is) a) c.ask_two-in-Let.ensures

pub ask_expression-returns-in-LetPar : goal.ask_expression-returns-in-LetPar
ask_expression-returns-in-LetPar t c =
    if_ok _ _ c.ask_three.result (λ u a. opened_asks c.args.source.now c.args.search.now c.ask_three.new.search c.args.id.0 _
    (opened_node c.args.source.now c.args.id.0 c.node.result.now (n.LetPar c.in-LetPar.span c.in-LetPar.left c.in-LetPar.right c.in-LetPar.body) c.node.ensures c.in-LetPar.is) a) c.ask_three.ensures

pub ask_expression-returns-in-If : goal.ask_expression-returns-in-If
ask_expression-returns-in-If t c =
    if_ok _ _ c.ask_three-in-If.result (λ u a. opened_asks c.args.source.now c.args.search.now c.ask_three-in-If.new.search c.args.id.0 _
    (opened_node c.args.source.now c.args.id.0 c.node.result.now (n.If c.in-If.span c.in-If.condition c.in-If.then_part c.in-If.else_part) c.node.ensures c.in-If.is) a) c.ask_three-in-If.ensures

pub ask_expression-returns-in-Case : goal.ask_expression-returns-in-Case
ask_expression-returns-in-Case t c =
    if_ok _ _ c.ask_case.result (λ u a. opened_asks c.args.source.now c.args.search.now c.ask_case.new.search c.args.id.0 _
    (opened_node c.args.source.now c.args.id.0 c.node.result.now (n.Case c.in-Case.span c.in-Case.variable c.in-Case.arms) c.node.ensures c.in-Case.is ∙ ap (λ is. case_from (tree_of c.args.source.now.exprs) is (GenericCase c.in-Case.span c.in-Case.variable)) (sym c.deref-in-Case.ensures.value)) a) c.ask_case.ensures

pub ask_expression-returns-in-Tuple : goal.ask_expression-returns-in-Tuple
ask_expression-returns-in-Tuple t c =
    if_ok _ _ c.ask_arguments-in-Tuple.result (λ u a. opened_asks c.args.source.now c.args.search.now c.ask_arguments-in-Tuple.new.search c.args.id.0 _
    (opened_node c.args.source.now c.args.id.0 c.node.result.now (n.Tuple c.in-Tuple.field-0 c.in-Tuple.ids) c.node.ensures c.in-Tuple.is ∙ ap (λ is. GenericTuple c.in-Tuple.field-0 (arguments_from (tree_of c.args.source.now.exprs) is)) (sym c.deref-in-Tuple.ensures.value)) a) c.ask_arguments-in-Tuple.ensures
