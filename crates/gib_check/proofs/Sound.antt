-- What is inferred is so.
use Rattle.std.proofs.Common.{◌≡◌, ℕ, ◌+◌, ◌≤◌, List, [], ◌∷◌, length, Some, refl, sym, ap, ◌∙◌, subst, arith, slice_get}
use Rattle.std.proofs.lemmas.List.{length-map}
use Rattle.std.specs.List.{AllByRecursion}
use Rattle.gib_syntax.specs.declared.tree.Ident.{Ident}
use Rattle.gib_syntax.specs.Declarations.{number_of}
use Rattle.gib_syntax.specs.Results.{Results, One, Several}
use Rattle.gib_types.specs.Form.{Form, Forms, WholeForm, TruthForm, DataForm, Meant}
use Rattle.gib_syntax.specs.Forms.{formed, formed_all, assign, count_written}
use Rattle.gib_syntax.specs.GenericTree.{GenericExpression, GenericArguments, GenericArms, GenericVar, GenericNum, GenericBit, GenericParen, GenericOp, GenericCall, GenericMake, GenericLet, GenericPar, GenericIf, GenericCase, GenericTuple, GenericNoArgument, GenericArgument, GenericLastArm, GenericNextArm, GenericRow, GenericGlobals, GenericParameterTree, place_named, generic_named}
use Rattle.gib_syntax.specs.GenericTyping.{FormScope, form_in, form_bound, BindsForms, operator_form, field_forms, parameter_forms, result_forms, generic_arm_names, CoversType, HasForm, HaveForms, ArmsHaveForm, generic_expressions, all_generic_expressions, arm_generic_expressions, generic_bindings, all_generic_bindings, arm_generic_bindings}
use Rattle.gib_check.specs.declared.counts.Counts.{Counts}
use Rattle.gib_check.specs.declared.fault.Kind.TheVariants as kind
use Rattle.gib_check.specs.declared.standing.Standing.{Standing}
use Rattle.gib_check.specs.declared.standing.Standing.TheVariants.{NoTuple}
use Rattle.gib_check.specs.Faults.{FormPart, argument_count, heads, head_names, row_named, fields_if, field_count, first_type, standing_for, may_stand, infer, infer_all, infer_arms, infer_arm, place}
use Rattle.gib_check.proofs.Steps.{Holds, holds_ok, then_holds, found_holds, one_more_holds, new_variable_holds, wanted_holds, PartsAre, all_single_holds, bind_given_holds, bind_sides_holds, PartsHave, use_fits_holds, called_holds, made_holds, EachHas, all_of_holds, declared_type_holds, AllCounted, all_counted_holds, covered_holds, bind_all_holds, IsOwn, row_split, row_join, fields_long}

pub record Sound (g : GenericGlobals) (vars : List ℕ) (m : Meant) (scope : FormScope) (n : Counts) (e : GenericExpression) (t : Results Form) (o : Counts) : Type 0 where
  pub has : HasForm g vars m scope e t
  pub expressions : o.expressions ≡ n.expressions + generic_expressions e
  pub variables : o.variables ≡ n.variables + generic_bindings e
  pub short : n.expressions ≤ 2000 → o.expressions ≤ 2000
  pub few : n.variables ≤ 200 → o.variables ≤ 200

-- Arguments have the types of these parts.
abbrev pub AllHave : GenericGlobals → List ℕ → Meant → FormScope → GenericArguments → List FormPart → Type 0
AllHave g vars m scope GenericNoArgument [] = Unit {0}
AllHave g vars m scope GenericNoArgument (part ∷ parts) = ⊥
AllHave g vars m scope (GenericArgument a xs) [] = ⊥
AllHave g vars m scope (GenericArgument a xs) (part ∷ parts) = HasForm g vars m scope a part.ty × AllHave g vars m scope xs parts

pub record SoundAll (g : GenericGlobals) (vars : List ℕ) (m : Meant) (scope : FormScope) (n : Counts) (xs : GenericArguments) (parts : List FormPart) (o : Counts) : Type 0 where
  pub have : AllHave g vars m scope xs parts
  pub expressions : o.expressions ≡ n.expressions + all_generic_expressions xs
  pub variables : o.variables ≡ n.variables + all_generic_bindings xs
  pub short : n.expressions ≤ 2000 → o.expressions ≤ 2000
  pub few : n.variables ≤ 200 → o.variables ≤ 200

-- An arm, of a constructor of the type at these types, has the type.
abbrev pub OneArmHas : GenericGlobals → List ℕ → Meant → FormScope → ℕ → Forms → Ident → List Ident → GenericExpression → Results Form → Type 0
OneArmHas g vars m scope t ts k xs e ty =
    (c : ℕ) × (row : GenericRow) × (inner : FormScope) × (place_named g.rows (number_of k) ≡ Some c) × (slice_get g.rows c ≡ Some row) × (row.owner ≡ t)
    × BindsForms scope xs (field_forms row ts) inner × HasForm g vars m inner e ty

-- Arms have the types of these parts.
abbrev pub EachArmHas : GenericGlobals → List ℕ → Meant → FormScope → ℕ → Forms → GenericArms → List FormPart → Type 0
EachArmHas g vars m scope t ts (GenericLastArm k xs e) [] = ⊥
EachArmHas g vars m scope t ts (GenericLastArm k xs e) (part ∷ parts) = OneArmHas g vars m scope t ts k xs e part.ty × (parts ≡ [])
EachArmHas g vars m scope t ts (GenericNextArm k xs e arms) [] = ⊥
EachArmHas g vars m scope t ts (GenericNextArm k xs e arms) (part ∷ parts) = OneArmHas g vars m scope t ts k xs e part.ty × EachArmHas g vars m scope t ts arms parts

pub record SoundArms (g : GenericGlobals) (vars : List ℕ) (m : Meant) (scope : FormScope) (t : ℕ) (ts : Forms) (n : Counts) (arms : GenericArms) (parts : List FormPart) (o : Counts) : Type 0 where
  pub have : EachArmHas g vars m scope t ts arms parts
  pub expressions : o.expressions ≡ n.expressions + arm_generic_expressions arms
  pub variables : o.variables ≡ n.variables + arm_generic_bindings arms
  pub short : n.expressions ≤ 2000 → o.expressions ≤ 2000
  pub few : n.variables ≤ 200 → o.variables ≤ 200

pub have_all : (g : GenericGlobals) (vars : List ℕ) (m : Meant) (scope : FormScope) (xs : GenericArguments) (parts : List FormPart) (ts : List Form) → AllHave g vars m scope xs parts → argument_count xs ≡ length ts → PartsHave parts ts → HaveForms g vars m scope xs ts
have_all g vars m scope GenericNoArgument [] [] h l p = tt
have_all g vars m scope GenericNoArgument [] (t ∷ ts) h l p = absurd (omega (arith, l))
have_all g vars m scope GenericNoArgument (part ∷ parts) ts h l p = absurd h
have_all g vars m scope (GenericArgument a xs) [] ts h l p = absurd h
have_all g vars m scope (GenericArgument a xs) (part ∷ parts) [] h l p = absurd (omega (arith, l))
have_all g vars m scope (GenericArgument a xs) (part ∷ parts) (t ∷ ts) h l p = (subst (λ z. HasForm g vars m scope a z) p.0 h.0, have_all g vars m scope xs parts ts h.1 (omega (arith, l)) p.1)

pub have_single : (g : GenericGlobals) (vars : List ℕ) (m : Meant) (scope : FormScope) (xs : GenericArguments) (parts : List FormPart) (ts : List Form) → AllHave g vars m scope xs parts → PartsAre parts ts → HaveForms g vars m scope xs ts
have_single g vars m scope GenericNoArgument [] [] h p = tt
have_single g vars m scope GenericNoArgument [] (t ∷ ts) h p = absurd p
have_single g vars m scope GenericNoArgument (part ∷ parts) ts h p = absurd h
have_single g vars m scope (GenericArgument a xs) [] ts h p = absurd h
have_single g vars m scope (GenericArgument a xs) (part ∷ parts) [] h p = absurd p
have_single g vars m scope (GenericArgument a xs) (part ∷ parts) (t ∷ ts) h p = (subst (λ z. HasForm g vars m scope a z) p.0 h.0, have_single g vars m scope xs parts ts h.1 p.1)

one_arm : (g : GenericGlobals) (vars : List ℕ) (m : Meant) (scope : FormScope) (t : ℕ) (ts : Forms) (k : Ident) (xs : List Ident) (e : GenericExpression) (s ty : Results Form) → s ≡ ty → OneArmHas g vars m scope t ts k xs e s → OneArmHas g vars m scope t ts k xs e ty
one_arm g vars m scope t ts k xs e s ty q h = (h.0, h.1, h.2, h.3, h.4, h.5, h.6, subst (λ z. HasForm g vars m h.2 e z) q h.7)

pub have_arms : (g : GenericGlobals) (vars : List ℕ) (m : Meant) (scope : FormScope) (t : ℕ) (ts : Forms) (arms : GenericArms) (parts : List FormPart) (ty : Results Form) → EachArmHas g vars m scope t ts arms parts → EachHas ty parts → ArmsHaveForm g vars m scope t ts arms ty
have_arms g vars m scope t ts (GenericLastArm k xs e) [] ty h p = absurd h
have_arms g vars m scope t ts (GenericLastArm k xs e) (part ∷ parts) ty h p = one_arm g vars m scope t ts k xs e part.ty ty p.0 h.0
have_arms g vars m scope t ts (GenericNextArm k xs e arms) [] ty h p = absurd h
have_arms g vars m scope t ts (GenericNextArm k xs e arms) (part ∷ parts) ty h p = (one_arm g vars m scope t ts k xs e part.ty ty p.0 h.0, have_arms g vars m scope t ts arms parts ty h.1 p.1)

pub names-heads : (arms : GenericArms) → head_names (heads arms) ≡ generic_arm_names arms
names-heads (GenericLastArm k xs e) = refl
names-heads (GenericNextArm k xs e arms) = ap (λ z. number_of k ∷ z) (names-heads arms)

-- A record is counted from the equation of counts.
counted : (n m : Counts) → record n { expressions = n.expressions + 1 } ≡ m → (m.expressions ≡ n.expressions + 1) × (m.variables ≡ n.variables)
counted n m e = (sym (ap (λ (z : Counts). z.expressions) e), sym (ap (λ (z : Counts). z.variables) e))

more_variables : (n m : Counts) → record n { variables = n.variables + 1 } ≡ m → (m.expressions ≡ n.expressions) × (m.variables ≡ n.variables + 1)
more_variables n m e = (sym (ap (λ (z : Counts). z.expressions) e), sym (ap (λ (z : Counts). z.variables) e))

pub record SoundArm (g : GenericGlobals) (vars : List ℕ) (m : Meant) (scope : FormScope) (t : ℕ) (ts : Forms) (n : Counts) (k : Ident) (xs : List Ident) (e : GenericExpression) (ty : Results Form) (o : Counts) : Type 0 where
  pub have : OneArmHas g vars m scope t ts k xs e ty
  pub expressions : o.expressions ≡ n.expressions + generic_expressions e
  pub variables : o.variables ≡ n.variables + (length xs + generic_bindings e)
  pub short : n.expressions ≤ 2000 → o.expressions ≤ 2000
  pub few : n.variables ≤ 200 → o.variables ≤ 200

arm_sound : (g : GenericGlobals) (vars : List ℕ) (m : Meant) (st : Standing) (scope : FormScope) (t : ℕ) (ts : Forms) (n : Counts) (k : Ident) (xs : List Ident) (e : GenericExpression) → IsOwn g.rows t (number_of k) → length xs ≡ field_count (row_named g.rows (number_of k)) → ((inner : FormScope) (o : Counts) → Holds (infer g vars m st inner o e) (λ r. Sound g vars m inner o e r.0 r.1)) → Holds (infer_arm g.rows ts scope n k xs (λ inner o. infer g vars m st inner o e)) (λ r. SoundArm g vars m scope t ts n k xs e r.0 r.1)
arm_sound g vars m st scope t ts n k xs e d l h =
    let there = row_join g.rows (place_named g.rows (number_of k)) d.0 d.1 d.2 d.3 in
    then_holds (bind_all_holds scope n xs (fields_if (row_named g.rows (number_of k)) ts) (l ∙ sym (fields_long (row_named g.rows (number_of k)) ts))) (λ inner p.
    record {
      by = λ r q. let s = (h inner.0 inner.1).by r q in
          record {
            have = (d.0, d.1, inner.0, d.2, d.3, d.4, subst (λ z. BindsForms scope xs (fields_if z ts) inner.0) there p.binds, s.has);
            expressions = s.expressions ∙ ap (λ z. z + generic_expressions e) p.expressions;
            variables = (let a = s.variables in let b = p.variables in omega (arith, a, b));
            short = λ z. s.short (let a = p.expressions in omega (arith, a, z));
            few = λ z. s.few (p.few z);
          };
    })

mutual
  pub infer_sound : (g : GenericGlobals) (vars : List ℕ) (m : Meant) (st : Standing) (scope : FormScope) (n : Counts) (e : GenericExpression) → Holds (infer g vars m st scope n e) (λ r. Sound g vars m scope n e r.0 r.1)
  infer_sound g vars m st scope n (GenericVar x) =
      then_holds (one_more_holds n x.span) (λ o p. then_holds (found_holds (form_in scope (number_of x)) kind.Unknown x.span) (λ t q.
      let c = counted n o p.1 in let c0 = c.0 in let c1 = c.1 in let p0 = p.0 in
      holds_ok (One t, o) (record { has = (t, refl, q); expressions = c0; variables = omega (arith, c1); short = λ z. omega (arith, c0, p0); few = λ z. omega (arith, c1, z) })))
  infer_sound g vars m st scope n (GenericNum p v) =
      then_holds (one_more_holds n p) (λ o p. let c = counted n o p.1 in let c0 = c.0 in let c1 = c.1 in let p0 = p.0 in
      holds_ok (One WholeForm, o) (record { has = refl; expressions = c0; variables = omega (arith, c1); short = λ z. omega (arith, c0, p0); few = λ z. omega (arith, c1, z) }))
  infer_sound g vars m st scope n (GenericBit p b) =
      then_holds (one_more_holds n p) (λ o p. let c = counted n o p.1 in let c0 = c.0 in let c1 = c.1 in let p0 = p.0 in
      holds_ok (One TruthForm, o) (record { has = refl; expressions = c0; variables = omega (arith, c1); short = λ z. omega (arith, c0, p0); few = λ z. omega (arith, c1, z) }))
  infer_sound g vars m st scope n (GenericParen p e) = record { by = λ r q. let s = (infer_sound g vars m st scope n e).by r q in record { has = s.has; expressions = s.expressions; variables = s.variables; short = s.short; few = s.few } }
  infer_sound g vars m st scope n (GenericOp p f a b) =
      then_holds (one_more_holds n p) (λ o h. then_holds (infer_sound g vars m NoTuple scope o a) (λ x sa. then_holds (infer_sound g vars m NoTuple scope x.1 b) (λ y sb.
      then_holds (wanted_holds (One WholeForm) (record { ty = x.0; place = place a })) (λ _ wa. then_holds (wanted_holds (One WholeForm) (record { ty = y.0; place = place b })) (λ _ wb.
      let c = counted n o h.1 in let c0 = c.0 in let c1 = c.1 in let h0 = h.0 in let a0 = sa.expressions in let a1 = sa.variables in let b0 = sb.expressions in let b1 = sb.variables in
      holds_ok (One (operator_form f), y.1) (record {
        has = (refl, subst (λ z. HasForm g vars m scope a z) wa sa.has, subst (λ z. HasForm g vars m scope b z) wb sb.has);
        expressions = omega (arith, c0, a0, b0);
        variables = omega (arith, c1, a1, b1);
        short = λ z. sb.short (sa.short (omega (arith, c0, h0)));
        few = λ z. sb.few (sa.few (omega (arith, c1, z)));
      }))))))
  infer_sound g vars m st scope n (GenericCall f ws xs) =
      then_holds (one_more_holds n f.span) (λ o h. then_holds (found_holds (generic_named g.functions (number_of f)) kind.Unknown f.span) (λ d q.
      then_holds (use_fits_holds g vars f ws (argument_count xs) (length d.variables) (length d.parameters)) (λ _ u. then_holds (all_sound g vars m scope o xs) (λ r s.
      then_holds (called_holds d (formed_all m ws) r.0) (λ t w.
      let c = counted n o h.1 in let c0 = c.0 in let c1 = c.1 in let h0 = h.0 in let s0 = s.expressions in let s1 = s.variables in
      let long = length-map d.parameters (λ (q : GenericParameterTree). formed (assign d.variables (formed_all m ws)) q.ty) in
      holds_ok (t, r.1) (record {
        has = (d, q, u.0, u.1, w.0, have_all g vars m scope xs r.0 (parameter_forms d (formed_all m ws)) s.have (u.2 ∙ sym long) w.1);
        expressions = omega (arith, c0, s0);
        variables = omega (arith, c1, s1);
        short = λ z. s.short (omega (arith, c0, h0));
        few = λ z. s.few (omega (arith, c1, z));
      }))))))
  infer_sound g vars m st scope n (GenericMake c ws xs) =
      then_holds (one_more_holds n c.span) (λ o h. then_holds (found_holds (row_named g.rows (number_of c)) kind.Unknown c.span) (λ d q.
      then_holds (use_fits_holds g vars c ws (argument_count xs) (length d.variables) (length d.fields)) (λ _ u. then_holds (all_sound g vars m scope o xs) (λ r s.
      then_holds (made_holds d (formed_all m ws) r.0) (λ t w.
      let i = counted n o h.1 in let c0 = i.0 in let c1 = i.1 in let h0 = h.0 in let s0 = s.expressions in let s1 = s.variables in
      let long = length-map d.fields (formed (assign d.variables (formed_all m ws))) in
      let at = row_split g.rows (place_named g.rows (number_of c)) d q in
      holds_ok (t, r.1) (record {
        has = (at.0, d, at.1, at.2, u.0, u.1, w.0, have_all g vars m scope xs r.0 (field_forms d (formed_all m ws)) s.have (u.2 ∙ sym long) w.1);
        expressions = omega (arith, c0, s0);
        variables = omega (arith, c1, s1);
        short = λ z. s.short (omega (arith, c0, h0));
        few = λ z. s.few (omega (arith, c1, z));
      }))))))
  infer_sound g vars m st scope n (GenericLet p xs a b) =
      then_holds (one_more_holds n p) (λ o h. then_holds (infer_sound g vars m (standing_for xs) scope o a) (λ s sa.
      then_holds (bind_given_holds scope s.1 xs (record { ty = s.0; place = place a })) (λ inner v.
      record {
        by = λ r q. (let sb = (infer_sound g vars m st inner.0 inner.1 b).by r q in
            let c = counted n o h.1 in let c0 = c.0 in let c1 = c.1 in let h0 = h.0 in let a0 = sa.expressions in let a1 = sa.variables in let b0 = sb.expressions in let b1 = sb.variables in
            let d0 = v.bound.expressions in let d1 = v.bound.variables in
            record {
              has = (v.types, inner.0, v.names, subst (λ z. HasForm g vars m scope a z) v.gives sa.has, v.bound.binds, sb.has);
              expressions = omega (arith, c0, a0, b0, d0);
              variables = omega (arith, c1, a1, b1, d1);
              short = λ z. sb.short (let w = sa.short (omega (arith, c0, h0)) in omega (arith, w, d0));
              few = λ z. sb.few (v.bound.few (sa.few (omega (arith, c1, z))));
            });
      })))
  infer_sound g vars m st scope n (GenericPar p xs a ys b c) =
      then_holds (one_more_holds n p) (λ o h. then_holds (infer_sound g vars m (standing_for xs) scope o a) (λ s sa. then_holds (infer_sound g vars m (standing_for ys) scope s.1 b) (λ t sb.
      then_holds (bind_sides_holds scope t.1 xs (record { ty = s.0; place = place a }) ys (record { ty = t.0; place = place b })) (λ inner v.
      record {
        by = λ r q. (let sc = (infer_sound g vars m st inner.0 inner.1 c).by r q in
            let i = counted n o h.1 in let c0 = i.0 in let c1 = i.1 in let h0 = h.0 in let a0 = sa.expressions in let a1 = sa.variables in let b0 = sb.expressions in let b1 = sb.variables in let e0 = sc.expressions in let e1 = sc.variables in
            let d0 = v.left.bound.expressions in let d1 = v.left.bound.variables in let f0 = v.right.bound.expressions in let f1 = v.right.bound.variables in
            record {
              has = (v.left.types, v.right.types, v.middle.0, inner.0, v.left.names, v.right.names, subst (λ z. HasForm g vars m scope a z) v.left.gives sa.has, subst (λ z. HasForm g vars m scope b z) v.right.gives sb.has, v.left.bound.binds, v.right.bound.binds, sc.has);
              expressions = omega (arith, c0, a0, b0, e0, d0, f0);
              variables = omega (arith, c1, a1, b1, e1, d1, f1);
              short = λ z. sc.short (let k = sb.short (sa.short (omega (arith, c0, h0))) in omega (arith, k, d0, f0));
              few = λ z. sc.few (v.right.bound.few (v.left.bound.few (sb.few (sa.few (omega (arith, c1, z))))));
            });
      }))))
  infer_sound g vars m st scope n (GenericIf p a b c) =
      then_holds (one_more_holds n p) (λ o h. then_holds (infer_sound g vars m NoTuple scope o a) (λ x sa. then_holds (infer_sound g vars m st scope x.1 b) (λ y sb. then_holds (infer_sound g vars m st scope y.1 c) (λ z sc.
      then_holds (wanted_holds (One TruthForm) (record { ty = x.0; place = place a })) (λ _ wa. then_holds (wanted_holds y.0 (record { ty = z.0; place = place c })) (λ _ wc.
      let i = counted n o h.1 in let c0 = i.0 in let c1 = i.1 in let h0 = h.0 in let a0 = sa.expressions in let a1 = sa.variables in let b0 = sb.expressions in let b1 = sb.variables in let e0 = sc.expressions in let e1 = sc.variables in
      holds_ok (y.0, z.1) (record {
        has = (subst (λ u. HasForm g vars m scope a u) wa sa.has, sb.has, subst (λ u. HasForm g vars m scope c u) wc sc.has);
        expressions = omega (arith, c0, a0, b0, e0);
        variables = omega (arith, c1, a1, b1, e1);
        short = λ u. sc.short (sb.short (sa.short (omega (arith, c0, h0))));
        few = λ u. sc.few (sb.few (sa.few (omega (arith, c1, u))));
      })))))))
  infer_sound g vars m st scope n (GenericCase p x arms) =
      then_holds (one_more_holds n p) (λ o h. then_holds (found_holds (form_in scope (number_of x)) kind.Unknown x.span) (λ s q. then_holds (declared_type_holds s x) (λ t d.
      then_holds declared (λ _ u. then_holds (covered_holds g.rows t.0 (head_names (heads arms)) p) (λ _ v. then_holds (all_counted_holds g.rows (heads arms)) (λ _ l.
      then_holds (arms_sound g vars m st t.0 t.1 scope o arms v.own l) (λ r k. then_holds (all_of_holds (first_type r.0) r.0) (λ _ w.
      let i = counted n o h.1 in let c0 = i.0 in let c1 = i.1 in let h0 = h.0 in let s0 = k.expressions in let s1 = k.variables in
      holds_ok (first_type r.0, r.1) (record {
        has = (t.0, t.1, q ∙ ap Some d, subst (λ z. CoversType g.rows t.0 z) (names-heads arms) v, have_arms g vars m scope t.0 t.1 arms r.0 (first_type r.0) k.have w);
        expressions = omega (arith, c0, s0);
        variables = omega (arith, c1, s1);
        short = λ z. k.short (omega (arith, c0, h0));
        few = λ z. k.few (omega (arith, c1, z));
      }))))))))) where
        declared : Holds (Rattle.gib_check.specs.Faults.all_declared g.rows (heads arms)) (λ _. Unit {0})
        declared = record { by = λ u e. tt }
  infer_sound g vars m st scope n (GenericTuple p xs) =
      then_holds (one_more_holds n p) (λ o h. then_holds stands (λ _ u. then_holds (all_sound g vars m scope o xs) (λ r k. then_holds (all_single_holds r.0) (λ ts q.
      let i = counted n o h.1 in let c0 = i.0 in let c1 = i.1 in let h0 = h.0 in let s0 = k.expressions in let s1 = k.variables in
      holds_ok (Several ts, r.1) (record {
        has = (ts, refl, have_single g vars m scope xs r.0 ts k.have q);
        expressions = omega (arith, c0, s0);
        variables = omega (arith, c1, s1);
        short = λ z. k.short (omega (arith, c0, h0));
        few = λ z. k.few (omega (arith, c1, z));
      }))))) where
        stands : Holds (may_stand st (argument_count xs) p) (λ _. Unit {0})
        stands = record { by = λ u e. tt }

  pub all_sound : (g : GenericGlobals) (vars : List ℕ) (m : Meant) (scope : FormScope) (n : Counts) (xs : GenericArguments) → Holds (infer_all g vars m scope n xs) (λ r. SoundAll g vars m scope n xs r.0 r.1)
  all_sound g vars m scope n GenericNoArgument = holds_ok ([], n) (record { have = tt; expressions = omega arith; variables = omega arith; short = λ z. z; few = λ z. z })
  all_sound g vars m scope n (GenericArgument a xs) =
      then_holds (infer_sound g vars m NoTuple scope n a) (λ x s. then_holds (all_sound g vars m scope x.1 xs) (λ r k.
      let a0 = s.expressions in let a1 = s.variables in let b0 = k.expressions in let b1 = k.variables in
      holds_ok (record { ty = x.0; place = place a } ∷ r.0, r.1) (record { have = (s.has, k.have); expressions = omega (arith, a0, b0); variables = omega (arith, a1, b1); short = λ z. k.short (s.short z); few = λ z. k.few (s.few z) })))

  pub arms_sound : (g : GenericGlobals) (vars : List ℕ) (m : Meant) (st : Standing) (t : ℕ) (ts : Forms) (scope : FormScope) (n : Counts) (arms : GenericArms) → AllByRecursion (IsOwn g.rows t) (head_names (heads arms)) → AllCounted g.rows (heads arms) → Holds (infer_arms g vars m st ts scope n arms) (λ r. SoundArms g vars m scope t ts n arms r.0 r.1)
  arms_sound g vars m st t ts scope n (GenericLastArm k xs e) u l =
      then_holds (arm_sound g vars m st scope t ts n k xs e u.0 l.0 (λ inner o. infer_sound g vars m st inner o e)) (λ x s.
      holds_ok (record { ty = x.0; place = place e } ∷ [], x.1) (record { have = (s.have, refl); expressions = s.expressions; variables = s.variables; short = s.short; few = s.few }))
  arms_sound g vars m st t ts scope n (GenericNextArm k xs e arms) u l =
      then_holds (arm_sound g vars m st scope t ts n k xs e u.0 l.0 (λ inner o. infer_sound g vars m st inner o e)) (λ x s. then_holds (arms_sound g vars m st t ts scope x.1 arms u.1 l.1) (λ r v.
      let a0 = s.expressions in let a1 = s.variables in let b0 = v.expressions in let b1 = v.variables in
      holds_ok (record { ty = x.0; place = place e } ∷ r.0, r.1) (record { have = (s.have, v.have); expressions = omega (arith, a0, b0); variables = omega (arith, a1, b1); short = λ z. v.short (s.short z); few = λ z. v.few (s.few z) })))
