-- Parameters, and a body in their scope.
use Rattle.std.proofs.Common.{◌≡◌, ℕ, ◌-◌, ◌≤◌, List, [], ◌∷◌, map, length, take, drop, get_or, Ok, sym, ap, ap₂, ◌∙◌, arith}
use Rattle.std.proofs.lemmas.List.{length-map}
use Rattle.gib_types.specs.declared.types.TypeId.{TypeId}
use Rattle.gib_types.specs.Form.{Form}
use Rattle.gib_types.specs.Types.{form_at}
use Rattle.gib_syntax.specs.declared.tree.Ident.{Ident}
use Rattle.gib_syntax.specs.declared.written.Word.{Word}
use Rattle.gib_syntax.specs.declared.program.GenericParameter.{GenericParameter}
use Rattle.gib_syntax.specs.Results.{Results, map_results}
use Rattle.gib_syntax.specs.Forms.{WrittenType, formed}
use Rattle.gib_syntax.specs.Words.{run_words, stack_of, first_type}
use Rattle.gib_syntax.specs.GenericTree.{GenericExpression}
use Rattle.gib_syntax.specs.GenericTyping.{FormScope, form_bound, variable_numbers, opaque}
use Rattle.gib_syntax.specs.GenericParts.{GenericParts, parameter_in}
use Rattle.gib_check.specs.declared.counts.Counts.{Counts}
use Rattle.gib_check.specs.declared.fault.TypeFault.{TypeFault}
use Rattle.gib_check.specs.Answers.{IsFaultOf}
use Rattle.gib_check.specs.declared.rules.ResultIds.{ResultIds}
use Rattle.gib_check.specs.Faults.{Checked, and_then, place, wanted, standing_of, infer}
use Rattle.gib_check.specs.FirstFault.{with_parameters, parameters_met, check_body}
use Rattle.gib_check.specs.NameViews.{generic_globals}
use Rattle.gib_check.specs.Judging.{Judging, forms, in_scope, Keeps, Advances, forms_given, Met}
use Rattle.gib_check.proofs.Growing.{given_grows}
use Rattle.gib_check.proofs.Loops.{passed_on, along}
use Rattle.gib_check.proofs.RowLists.{rest-is}

pub pushed_next : (words : List Word) (now mid newer : Judging) (rest : List GenericParameter) (d : GenericParameter) (run : List Word) (ty : TypeId) (whole : FormScope) → 1 ≤ length rest → with_parameters (map (parameter_in words) rest) (in_scope now) ≡ whole → Keeps now mid → form_at (forms mid) ty.0 ≡ formed opaque (first_type (stack_of run)) → run ≡ run_words words (get_or rest 0 d).ty → in_scope newer ≡ form_bound (get_or rest 0 d).name (form_at (forms mid) ty.0) (in_scope mid) → with_parameters (map (parameter_in words) (take (length rest - 1) (drop 1 rest))) (in_scope newer) ≡ whole
pushed_next words now mid newer [] d run ty whole l h k m r e = absurd (omega (arith, l))
pushed_next words now mid newer (q ∷ rest) d run ty whole l h k m r e =
    ap (λ z. with_parameters (map (parameter_in words) z) (in_scope newer)) (rest-is q rest)
    ∙ ap (with_parameters (map (parameter_in words) rest)) (e ∙ ap₂ (λ (f : Form) (s : FormScope). form_bound q.name f s) (m ∙ ap (λ ws. formed opaque (first_type (stack_of ws))) r) k.scope)
    ∙ h

module _ (parts : GenericParts) (variables : List Ident) (parameters : List GenericParameter) (result : Results WrittenType) (body : GenericExpression) where
  abbrev body_of : Checked (Unit {0})
  body_of = check_body (generic_globals parts) variables (map (parameter_in parts.exprs.words) parameters) result body

  abbrev types_of : FormScope → Counts → Checked (Results Form × Counts)
  types_of scope n = infer (generic_globals parts) (variable_numbers variables) opaque (standing_of (map_results (formed opaque) result)) scope n body

  -- The body begins where its parameters are in scope.
  body_begins : (s0 s1 : Judging) (n : ℕ) → n ≡ length parameters → in_scope s0 ≡ [] → s0.counts ≡ record { variables = n; expressions = 0 } → in_scope s1 ≡ with_parameters (map (parameter_in parts.exprs.words) parameters) (in_scope s0) → s1.counts ≡ s0.counts → types_of (with_parameters (map (parameter_in parts.exprs.words) parameters) []) (parameters_met (map (parameter_in parts.exprs.words) parameters)) ≡ types_of (in_scope s1) s1.counts
  body_begins s0 s1 n l e c s k =
      ap₂ types_of (sym (s ∙ ap (with_parameters (map (parameter_in parts.exprs.words) parameters)) e))
      (sym (k ∙ c ∙ ap (λ (m : ℕ). record { variables = m; expressions = 0 }) (l ∙ sym (length-map parameters (parameter_in parts.exprs.words)))))

  pub body_fails : (f : TypeFault) (s0 s1 : Judging) (n : ℕ) → n ≡ length parameters → in_scope s0 ≡ [] → s0.counts ≡ record { variables = n; expressions = 0 } → in_scope s1 ≡ with_parameters (map (parameter_in parts.exprs.words) parameters) (in_scope s0) → s1.counts ≡ s0.counts → IsFaultOf f (types_of (in_scope s1) s1.counts) → IsFaultOf f body_of
  body_fails f s0 s1 n l e c s k h = passed_on f _ _ (along f _ _ (body_begins s0 s1 n l e c s k) h)

  pub body_is : (s0 s1 s2 s3 : Judging) (n : ℕ) (ty due : ResultIds) → n ≡ length parameters → in_scope s0 ≡ [] → s0.counts ≡ record { variables = n; expressions = 0 } → in_scope s1 ≡ with_parameters (map (parameter_in parts.exprs.words) parameters) (in_scope s0) → s1.counts ≡ s0.counts → types_of (in_scope s1) s1.counts ≡ Ok (forms_given s2 ty, s2.counts) → Met s1 s2 ty → Advances s2 s3 → forms_given s3 due ≡ map_results (formed opaque) result → body_of ≡ wanted (forms_given s3 due) (record { ty = forms_given s3 ty; place = place body })
  body_is s0 s1 s2 s3 n ty due l e c s k r m g d =
      ap (λ z. and_then z (λ r. wanted (map_results (formed opaque) result) (record { ty = r.0; place = place body }))) (body_begins s0 s1 n l e c s k ∙ r)
      ∙ ap₂ (λ (a b : Results Form). wanted a (record { ty = b; place = place body })) (sym d) (sym (given_grows s2 s3 ty g m.here))
