use Rattle.std.proofs.Common.{rules, tests, ◌∙◌}
use Rattle.std.proofs.lemmas.Iterator.{YieldsList-from_slice}
use Rattle.std.proofs.lemmas.Iterator.Search.{all_from_yields_List}
use Rattle.gib_core.specs.declared.atom.Atom.{Atom}
use Rattle.gib_core.specs.Rules.{is_usable}
use Rattle.gib_loccheck.specs.Views.{in_scope}
use Rattle.gib_loccheck.proofs.Searching.{search_usable}
use Rattle.gib_loccheck.proofs.atoms.all_usable.Goals as goal

pub returns : goal.returns
returns c =
    let test = λ (x : Atom). is_usable (in_scope c.args.walk.now) x in
    all_from_yields_List test _ _ c.all.result c.all.ensures.ran (YieldsList-from_slice c.args.atoms.now cc) (λ x b q k. search (rules, tests))
    ∙ search_usable (in_scope c.args.walk.now) c.args.atoms.now
