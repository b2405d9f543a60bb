use Rattle.std.proofs.Common.{◌≡◌, ℕ, List, map, sym, ap, ◌∙◌, subst}
use Rattle.std.proofs.lemmas.Simd.{map-map}
use Rattle.std.specs.Prelude.{IfOk}
use Rattle.gib_syntax.specs.Parts.{data_tree}
use Rattle.gib_check.specs.Views.{tree_number}
use Rattle.gib_check.proofs.tables.list_types.Goals as goal

pub returns : goal.returns
returns c =
    let P : List ℕ → Type 0 = λ l. IfOk c.list_names.result (λ names. names ≡ l) in
    subst P (sym (map-map tree_number data_tree c.args.datas.now)) c.list_names.ensures
