use Rattle.std.proofs.Common.{◌≡◌, ℕ, List, map, sym, ap, ◌∙◌, subst}
use Rattle.std.proofs.lemmas.Simd.{map-map}
use Rattle.std.specs.Prelude.{IfOk}
use Rattle.gib_types.specs.Table.{row_of}
use Rattle.gib_check.specs.Views.{row_name}
use Rattle.gib_check.proofs.tables.constructor_names.Goals as goal

pub returns : goal.returns
returns c =
    let P : List ℕ → Type 0 = λ l. IfOk c.list_names.result (λ names. names ≡ l) in
    subst P (sym (map-map row_name row_of c.args.rows.now)) c.list_names.ensures
