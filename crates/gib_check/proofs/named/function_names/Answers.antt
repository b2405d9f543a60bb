use Rattle.std.proofs.Common.{◌≡◌, ℕ, List, map, sym, ap, ◌∙◌, subst}
use Rattle.std.proofs.lemmas.Simd.{map-map}
use Rattle.std.specs.Prelude.{IfOk}
use Rattle.gib_syntax.specs.declared.program.GenericFunction.{GenericFunction}
use Rattle.gib_syntax.specs.GenericParts.{function_in}
use Rattle.gib_check.specs.NameViews.{function_number}
use Rattle.gib_check.proofs.named.function_names.Goals as goal

pub returns : goal.returns
returns c =
    let P : List ℕ → Type 0 = λ l. IfOk c.list_names.result (λ names. names ≡ l) in
    subst P (ap (map (λ (f : GenericFunction). f.name.name.0)) c.functions.ensures.value ∙ sym (map-map function_number (function_in c.args.program.now.exprs) c.args.program.now.functions)) c.list_names.ensures
