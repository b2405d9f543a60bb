use Rattle.std.proofs.Common.{◌≡◌, ℕ, List, map, sym, ap, ◌∙◌, subst}
use Rattle.std.proofs.lemmas.Simd.{map-map}
use Rattle.std.specs.Prelude.{IfOk}
use Rattle.gib_syntax.specs.declared.program.GenericData.{GenericData}
use Rattle.gib_syntax.specs.GenericParts.{data_in}
use Rattle.gib_check.specs.NameViews.{data_number}
use Rattle.gib_check.proofs.named.type_names.Goals as goal

pub returns : goal.returns
returns c =
    let P : List ℕ → Type 0 = λ l. IfOk c.list_names.result (λ names. names ≡ l) in
    subst P (ap (map (λ (d : GenericData). d.name.name.0)) c.datas.ensures.value ∙ sym (map-map data_number (data_in c.args.program.now.exprs.words) c.args.program.now.datas)) c.list_names.ensures
