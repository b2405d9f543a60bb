use Rattle.gib_mono.proofs.Finding.{function_all}
use Rattle.gib_mono.proofs.find.ask_function.Goals as goal

pub returns : goal.returns
returns c =
    function_all c.args.source.now c.args.search.now c.ask_parameters.new.search c.ask_results.new.search c.ask_expression.new.search c.args.parameters.now c.args.gives.now c.args.body.0
    c.in_ok-ask_parameters.ensures c.in_ok-ask_results.ensures c.in_ok-ask_expression.ensures
