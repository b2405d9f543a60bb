use Rattle.std.proofs.Common.{rules, tests, ◌∙◌}
use Rattle.std.proofs.lemmas.Iterator.{YieldsList-from_slice}
use Rattle.std.proofs.lemmas.Iterator.Search.{any_from_yields_List}
use Rattle.gib_core.specs.declared.atom.Variable.{Variable}
use Rattle.gib_core.specs.Rules.{is_among}
use Rattle.gib_loccheck.specs.Views.{before_of}
use Rattle.gib_loccheck.proofs.Searching.{search_cased}
use Rattle.gib_loccheck.proofs.atoms.any_cased.Goals as goal

pub returns : goal.returns
returns c =
    let test = λ (x : Variable). is_among (before_of c.args.walk.now).cased x in
    any_from_yields_List test _ _ _ c.any.ensures.ran (YieldsList-from_slice c.args.variables.now cc) (λ x b q k. search (rules, tests))
    ∙ search_cased ((before_of c.args.walk.now).cased) c.args.variables.now
