use Rattle.std.proofs.Common.{◌≡◌, ap, ◌∙◌, sym, map, ℕ, List, subst, Some, IfOk}
use Rattle.gib_syntax.specs.declared.exprs.Node.{Node}
use Rattle.gib_syntax.specs.declared.exprs.Arm.{Arm}
use Rattle.gib_syntax.specs.Arena.{layer}
use Rattle.gib_check.specs.ArmPlaces.{case_names, arm_name, place_in, place_named}
use Rattle.gib_check.specs.Views.{table_in}
use Rattle.gib_check.proofs.Knowing.{names_of_case}
use Rattle.gib_check.proofs.node_facts.node_arms.Goals as goal

pub returns-in-Case : goal.returns-in-Case
returns-in-Case c = λ f.
    let names : map arm_name c.deref.result.now ≡ case_names (layer f (Some c.args.node.now)) =
    ap (λ (z : List Arm). map arm_name z) c.deref.ensures.value
    ∙ sym (ap (λ (z : Node). case_names (layer f (Some z))) c.in-Case.is ∙ names_of_case f c.in-Case.arms.items c.in-Case.span c.in-Case.variable) in
    subst (λ (z : List ℕ). IfOk c.index_arms.result (λ index. (con : ℕ) → place_in index con ≡ place_named (table_in c.args.declared.now) z con)) names c.index_arms.ensures
