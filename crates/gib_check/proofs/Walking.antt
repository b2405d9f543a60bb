-- What the steps of the walk say together.
use Rattle.std.proofs.Common.{◌≡◌, ℕ, ◌<◌, ◌-◌, List, ◌∷◌, ◌++◌, drop, length, arith, Ok, sym, ap, ap₂, ◌∙◌, subst}
use Rattle.gib_base.specs.declared.Span.{Span}
use Rattle.gib_types.specs.declared.types.TypeId.{TypeId}
use Rattle.gib_types.specs.Form.{Form, WholeForm, TruthForm, DataForm}
use Rattle.gib_types.specs.Types.{form_at, forms_of}
use Rattle.gib_syntax.specs.declared.tree.Ident.{Ident}
use Rattle.gib_types.specs.declared.operator.Operator.{Operator}
use Rattle.gib_syntax.specs.Forms.{WrittenTypes, formed_all, count_written}
use Rattle.gib_syntax.specs.Results.{Results, One, Several}
use Rattle.gib_syntax.specs.GenericTree.{GenericExpression, GenericOp, GenericLet, GenericPar, GenericIf, GenericFunctionTree, GenericRow}
use Rattle.gib_syntax.specs.GenericTyping.{FormScope, form_bound, variable_numbers, opaque, operator_form, field_forms, parameter_forms, result_forms}
use Rattle.gib_syntax.specs.GenericParts.{GenericParts}
use Rattle.gib_check.specs.declared.counts.Counts.{Counts}
use Rattle.gib_check.specs.declared.fault.TypeFault.{TypeFault}
use Rattle.gib_check.specs.declared.fault.TypeFault.TheVariants as t
use Rattle.gib_check.specs.Answers.{IsFaultOf}
use Rattle.gib_check.specs.Faults.{Checked, and_then, FormPart, place, one_more, function, constructor, wanted, all_single, standing_for, may_stand, bind_given, bind_sides, infer_tuple, use_fits, use_gives, called, made, infer, infer_call, infer_make}
use Rattle.gib_check.specs.NameViews.{generic_globals}
use Rattle.gib_check.specs.Judging.{Judging, forms, in_scope, Advances, Met, AllMet, listed, forms_given, AreMet, part_in, parts_in}
use Rattle.gib_check.proofs.Growing.{advances_on, given_grows, met_stays}
use Rattle.gib_check.specs.declared.rules.Part.{Part}
use Rattle.gib_check.specs.declared.rules.ResultIds.{ResultIds}
use Rattle.gib_check.specs.declared.standing.Standing.{Standing}
use Rattle.gib_check.specs.declared.standing.Standing.TheVariants.{NoTuple}
use Rattle.gib_check.proofs.Loops.{passed_on, along}

-- A part, by what it is.
pub seen : (P : FormPart → Type 0) (s : Judging) (p q : Part) → p ≡ q → P (part_in s p) → P (part_in s q)
seen P s p q d h = subst (λ z. P (part_in s z)) d h

-- Steps, one after another.
pub met_after : (old mid new : Judging) (ty : ResultIds) → Advances old mid → Met mid new ty → Met old new ty
met_after old mid new ty g m = record { advances = advances_on old mid new g m.advances; here = m.here }

pub met_before : (old mid new : Judging) (ty : ResultIds) → Met old mid ty → Advances mid new → Met old new ty
met_before old mid new ty m g = record { advances = advances_on old mid new m.advances g; here = met_stays mid new ty g m.here }

module _ (parts : GenericParts) (variables : List Ident) where
  abbrev types_of : Standing → FormScope → Counts → GenericExpression → Checked (Results Form × Counts)
  types_of st scope n e = infer (generic_globals parts) (variable_numbers variables) opaque st scope n e

  abbrev types_behind : Standing → GenericExpression → FormScope × Counts → Checked (Results Form × Counts)
  types_behind st e inner = types_of st inner.0 inner.1 e

  -- An expression was judged, where it stands.
  pub record Judged (st : Standing) (before after : Judging) (e : GenericExpression) (ty : ResultIds) : Type 0 where
    pub read : types_of st (in_scope before) before.counts e ≡ Ok (forms_given after ty, after.counts)
    pub kept : in_scope after ≡ in_scope before
    pub met : Met before after ty

  -- One more expression was counted.
  pub record Counted (before after : Judging) (at : Span) : Type 0 where
    pub read : one_more before.counts at ≡ Ok after.counts
    pub kept : in_scope after ≡ in_scope before
    pub types : after.types ≡ before.types

  -- A part stays.
  pub stays : (before after : Judging) (ty : ResultIds) (at : Span) → Advances before after → AreMet before ty → part_in after (record { ty = ty; place = at }) ≡ record { ty = forms_given before ty; place = at }
  stays before after ty at g h = ap (λ (r : Results Form). record { ty = r; place = at }) (given_grows before after ty g h)

  -- Both sides of an operation.
  abbrev op_rest : Operator → FormPart → FormPart → Counts → Checked (Results Form × Counts)
  op_rest f x y n = and_then (wanted (One WholeForm) x) (λ _. and_then (wanted (One WholeForm) y) (λ _. Ok (One (operator_form f), n)))

  pub op_is : (st : Standing) (s0 s1 s2 s3 : Judging) (p : Span) (f : Operator) (a b : GenericExpression) (l r : ResultIds) → Counted s0 s1 p → Judged NoTuple s1 s2 a l → Judged NoTuple s2 s3 b r → types_of st (in_scope s0) s0.counts (GenericOp p f a b) ≡ op_rest f (part_in s3 (record { ty = l; place = place a })) (part_in s3 (record { ty = r; place = place b })) s3.counts
  op_is st s0 s1 s2 s3 p f a b l r o ja jb =
      ap (λ z. and_then z (λ o. and_then (types_of NoTuple (in_scope s0) o a) (λ x. and_then (types_of NoTuple (in_scope s0) x.1 b) (λ y. op_rest f (record { ty = x.0; place = place a }) (record { ty = y.0; place = place b }) y.1)))) o.read
      ∙ ap (λ z. and_then z (λ x. and_then (types_of NoTuple (in_scope s0) x.1 b) (λ y. op_rest f (record { ty = x.0; place = place a }) (record { ty = y.0; place = place b }) y.1))) (ap (λ s. types_of NoTuple s s1.counts a) (sym o.kept) ∙ ja.read)
      ∙ ap (λ z. and_then z (λ y. op_rest f (record { ty = forms_given s2 l; place = place a }) (record { ty = y.0; place = place b }) y.1)) (ap (λ s. types_of NoTuple s s2.counts b) (sym (ja.kept ∙ o.kept)) ∙ jb.read)
      ∙ ap (λ z. op_rest f z (record { ty = forms_given s3 r; place = place b }) s3.counts) (sym (stays s2 s3 l (place a) jb.met.advances ja.met.here))

  pub op_left : (st : Standing) (e : TypeFault) (s0 s1 s2 s3 : Judging) (p : Span) (f : Operator) (a b : GenericExpression) (l r : ResultIds) → Counted s0 s1 p → Judged NoTuple s1 s2 a l → Judged NoTuple s2 s3 b r → IsFaultOf e (wanted (One WholeForm) (part_in s3 (record { ty = l; place = place a }))) → IsFaultOf e (types_of st (in_scope s0) s0.counts (GenericOp p f a b))
  op_left st e s0 s1 s2 s3 p f a b l r o ja jb h = along e _ _ (op_is st s0 s1 s2 s3 p f a b l r o ja jb) (passed_on e _ _ h)

  pub op_right : (st : Standing) (e : TypeFault) (s0 s1 s2 s3 : Judging) (p : Span) (f : Operator) (a b : GenericExpression) (l r : ResultIds) → Counted s0 s1 p → Judged NoTuple s1 s2 a l → Judged NoTuple s2 s3 b r → wanted (One WholeForm) (part_in s3 (record { ty = l; place = place a })) ≡ Ok (tt {0}) → IsFaultOf e (wanted (One WholeForm) (part_in s3 (record { ty = r; place = place b }))) → IsFaultOf e (types_of st (in_scope s0) s0.counts (GenericOp p f a b))
  op_right st e s0 s1 s2 s3 p f a b l r o ja jb w h =
      along e _ _ (op_is st s0 s1 s2 s3 p f a b l r o ja jb ∙ ap (λ z. and_then z (λ _. and_then (wanted (One WholeForm) (part_in s3 (record { ty = r; place = place b }))) (λ _. Ok (One (operator_form f), s3.counts)))) w) (passed_on e _ _ h)

  pub op_ok : (st : Standing) (s0 s1 s2 s3 : Judging) (p : Span) (f : Operator) (a b : GenericExpression) (l r : ResultIds) → Counted s0 s1 p → Judged NoTuple s1 s2 a l → Judged NoTuple s2 s3 b r → wanted (One WholeForm) (part_in s3 (record { ty = l; place = place a })) ≡ Ok (tt {0}) → wanted (One WholeForm) (part_in s3 (record { ty = r; place = place b })) ≡ Ok (tt {0}) → types_of st (in_scope s0) s0.counts (GenericOp p f a b) ≡ Ok (One (operator_form f), s3.counts)
  op_ok st s0 s1 s2 s3 p f a b l r o ja jb w v =
      op_is st s0 s1 s2 s3 p f a b l r o ja jb ∙ ap (λ z. and_then z (λ _. and_then (wanted (One WholeForm) (part_in s3 (record { ty = r; place = place b }))) (λ _. Ok (One (operator_form f), s3.counts)))) w ∙ ap (λ z. and_then z (λ _. Ok (One (operator_form f), s3.counts))) v

  -- The three parts of an `if`.
  abbrev if_rest : FormPart → Results Form → FormPart → Counts → Checked (Results Form × Counts)
  if_rest x t z n = and_then (wanted (One TruthForm) x) (λ _. and_then (wanted t z) (λ _. Ok (t, n)))

  pub if_is : (st : Standing) (s0 s1 s2 s3 s4 : Judging) (p : Span) (a b c : GenericExpression) (x y z : ResultIds) → Counted s0 s1 p → Judged NoTuple s1 s2 a x → Judged st s2 s3 b y → Judged st s3 s4 c z → types_of st (in_scope s0) s0.counts (GenericIf p a b c) ≡ if_rest (part_in s4 (record { ty = x; place = place a })) (forms_given s4 y) (part_in s4 (record { ty = z; place = place c })) s4.counts
  if_is st s0 s1 s2 s3 s4 p a b c x y z o ja jb jc =
      ap (λ q. and_then q (λ o. and_then (types_of NoTuple (in_scope s0) o a) (λ x. and_then (types_of st (in_scope s0) x.1 b) (λ y. and_then (types_of st (in_scope s0) y.1 c) (λ z. if_rest (record { ty = x.0; place = place a }) y.0 (record { ty = z.0; place = place c }) z.1))))) o.read
      ∙ ap (λ q. and_then q (λ x. and_then (types_of st (in_scope s0) x.1 b) (λ y. and_then (types_of st (in_scope s0) y.1 c) (λ z. if_rest (record { ty = x.0; place = place a }) y.0 (record { ty = z.0; place = place c }) z.1)))) (ap (λ s. types_of NoTuple s s1.counts a) (sym o.kept) ∙ ja.read)
      ∙ ap (λ q. and_then q (λ y. and_then (types_of st (in_scope s0) y.1 c) (λ z. if_rest (record { ty = forms_given s2 x; place = place a }) y.0 (record { ty = z.0; place = place c }) z.1))) (ap (λ s. types_of st s s2.counts b) (sym (ja.kept ∙ o.kept)) ∙ jb.read)
      ∙ ap (λ q. and_then q (λ z. if_rest (record { ty = forms_given s2 x; place = place a }) (forms_given s3 y) (record { ty = z.0; place = place c }) z.1)) (ap (λ s. types_of st s s3.counts c) (sym (jb.kept ∙ ja.kept ∙ o.kept)) ∙ jc.read)
      ∙ ap₂ (λ (u : FormPart) (t : Results Form). if_rest u t (record { ty = forms_given s4 z; place = place c }) s4.counts)
      (sym (stays s2 s4 x (place a) (advances_on s2 s3 s4 jb.met.advances jc.met.advances) ja.met.here)) (sym (given_grows s3 s4 y jc.met.advances jb.met.here))

  pub if_condition : (st : Standing) (e : TypeFault) (s0 s1 s2 s3 s4 : Judging) (p : Span) (a b c : GenericExpression) (x y z : ResultIds) → Counted s0 s1 p → Judged NoTuple s1 s2 a x → Judged st s2 s3 b y → Judged st s3 s4 c z → IsFaultOf e (wanted (One TruthForm) (part_in s4 (record { ty = x; place = place a }))) → IsFaultOf e (types_of st (in_scope s0) s0.counts (GenericIf p a b c))
  if_condition st e s0 s1 s2 s3 s4 p a b c x y z o ja jb jc h = along e _ _ (if_is st s0 s1 s2 s3 s4 p a b c x y z o ja jb jc) (passed_on e _ _ h)

  pub if_branches : (st : Standing) (e : TypeFault) (s0 s1 s2 s3 s4 : Judging) (p : Span) (a b c : GenericExpression) (x y z : ResultIds) → Counted s0 s1 p → Judged NoTuple s1 s2 a x → Judged st s2 s3 b y → Judged st s3 s4 c z → wanted (One TruthForm) (part_in s4 (record { ty = x; place = place a })) ≡ Ok (tt {0}) → IsFaultOf e (wanted (forms_given s4 y) (part_in s4 (record { ty = z; place = place c }))) → IsFaultOf e (types_of st (in_scope s0) s0.counts (GenericIf p a b c))
  if_branches st e s0 s1 s2 s3 s4 p a b c x y z o ja jb jc w h =
      along e _ _ (if_is st s0 s1 s2 s3 s4 p a b c x y z o ja jb jc ∙ ap (λ q. and_then q (λ _. and_then (wanted (forms_given s4 y) (part_in s4 (record { ty = z; place = place c }))) (λ _. Ok (forms_given s4 y, s4.counts)))) w) (passed_on e _ _ h)

  pub if_ok : (st : Standing) (s0 s1 s2 s3 s4 : Judging) (p : Span) (a b c : GenericExpression) (x y z : ResultIds) → Counted s0 s1 p → Judged NoTuple s1 s2 a x → Judged st s2 s3 b y → Judged st s3 s4 c z → wanted (One TruthForm) (part_in s4 (record { ty = x; place = place a })) ≡ Ok (tt {0}) → wanted (forms_given s4 y) (part_in s4 (record { ty = z; place = place c })) ≡ Ok (tt {0}) → types_of st (in_scope s0) s0.counts (GenericIf p a b c) ≡ Ok (forms_given s4 y, s4.counts)
  if_ok st s0 s1 s2 s3 s4 p a b c x y z o ja jb jc w v =
      if_is st s0 s1 s2 s3 s4 p a b c x y z o ja jb jc
      ∙ ap (λ q. and_then q (λ _. and_then (wanted (forms_given s4 y) (part_in s4 (record { ty = z; place = place c }))) (λ _. Ok (forms_given s4 y, s4.counts)))) w
      ∙ ap (λ q. and_then q (λ _. Ok (forms_given s4 y, s4.counts))) v

  -- A `let`.
  module _ (st : Standing) (p : Span) (xs : List Ident) (a b : GenericExpression) where
    abbrev let_of : Judging → Checked (Results Form × Counts)
    let_of s = types_of st (in_scope s) s.counts (GenericLet p xs a b)

    abbrev let_behind : FormScope → Results Form × Counts → Checked (Results Form × Counts)
    let_behind scope s = and_then (bind_given scope s.1 xs (record { ty = s.0; place = place a })) (types_behind st b)

    abbrev let_variables : Judging → ResultIds → Checked (FormScope × Counts)
    let_variables s v = bind_given (in_scope s) s.counts xs (part_in s (record { ty = v; place = place a }))

    let_counted : (s0 s1 : Judging) → Counted s0 s1 p → let_of s0 ≡ and_then (types_of (standing_for xs) (in_scope s1) s1.counts a) (let_behind (in_scope s1))
    let_counted s0 s1 o =
        ap (λ z. and_then z (λ n. and_then (types_of (standing_for xs) (in_scope s0) n a) (let_behind (in_scope s0)))) o.read
        ∙ ap (λ scope. and_then (types_of (standing_for xs) scope s1.counts a) (let_behind scope)) (sym o.kept)

    pub let_fails : (e : TypeFault) (s0 s1 : Judging) → Counted s0 s1 p → IsFaultOf e (types_of (standing_for xs) (in_scope s1) s1.counts a) → IsFaultOf e (let_of s0)
    let_fails e s0 s1 o h = along e _ _ (let_counted s0 s1 o) (passed_on e _ _ h)

    let_judged : (s0 s1 s2 : Judging) (v : ResultIds) → Counted s0 s1 p → Judged (standing_for xs) s1 s2 a v → let_of s0 ≡ and_then (let_variables s2 v) (types_behind st b)
    let_judged s0 s1 s2 v o ja =
        let_counted s0 s1 o ∙ ap (λ z. and_then z (let_behind (in_scope s1))) ja.read ∙ ap (λ scope. let_behind scope (forms_given s2 v, s2.counts)) (sym ja.kept)

    pub let_bind : (e : TypeFault) (s0 s1 s2 : Judging) (v : ResultIds) → Counted s0 s1 p → Judged (standing_for xs) s1 s2 a v → IsFaultOf e (let_variables s2 v) → IsFaultOf e (let_of s0)
    let_bind e s0 s1 s2 v o ja h = along e _ _ (let_judged s0 s1 s2 v o ja) (passed_on e _ _ h)

    pub let_is : (s0 s1 s2 s3 : Judging) (v : ResultIds) → Counted s0 s1 p → Judged (standing_for xs) s1 s2 a v → let_variables s2 v ≡ Ok (in_scope s3, s3.counts) → let_of s0 ≡ types_of st (in_scope s3) s3.counts b
    let_is s0 s1 s2 s3 v o ja q = let_judged s0 s1 s2 v o ja ∙ ap (λ z. and_then z (types_behind st b)) q

  -- A `let par`.
  module _ (st : Standing) (p : Span) (xs : List Ident) (a : GenericExpression) (ys : List Ident) (b c : GenericExpression) where
    abbrev par_of : Judging → Checked (Results Form × Counts)
    par_of s = types_of st (in_scope s) s.counts (GenericPar p xs a ys b c)

    abbrev par_behind : FormScope → FormPart → Results Form × Counts → Checked (Results Form × Counts)
    par_behind scope left t = and_then (bind_sides scope t.1 xs left ys (record { ty = t.0; place = place b })) (types_behind st c)

    abbrev par_second : FormScope → Results Form × Counts → Checked (Results Form × Counts)
    par_second scope s = and_then (types_of (standing_for ys) scope s.1 b) (par_behind scope (record { ty = s.0; place = place a }))

    abbrev par_variables : Judging → ResultIds → ResultIds → Checked (FormScope × Counts)
    par_variables s l r = bind_sides (in_scope s) s.counts xs (part_in s (record { ty = l; place = place a })) ys (part_in s (record { ty = r; place = place b }))

    par_counted : (s0 s1 : Judging) → Counted s0 s1 p → par_of s0 ≡ and_then (types_of (standing_for xs) (in_scope s1) s1.counts a) (par_second (in_scope s1))
    par_counted s0 s1 o =
        ap (λ z. and_then z (λ n. and_then (types_of (standing_for xs) (in_scope s0) n a) (par_second (in_scope s0)))) o.read
        ∙ ap (λ scope. and_then (types_of (standing_for xs) scope s1.counts a) (par_second scope)) (sym o.kept)

    pub par_fails_left : (e : TypeFault) (s0 s1 : Judging) → Counted s0 s1 p → IsFaultOf e (types_of (standing_for xs) (in_scope s1) s1.counts a) → IsFaultOf e (par_of s0)
    par_fails_left e s0 s1 o h = along e _ _ (par_counted s0 s1 o) (passed_on e _ _ h)

    par_left : (s0 s1 s2 : Judging) (l : ResultIds) → Counted s0 s1 p → Judged (standing_for xs) s1 s2 a l → par_of s0 ≡ par_second (in_scope s2) (forms_given s2 l, s2.counts)
    par_left s0 s1 s2 l o ja =
        par_counted s0 s1 o ∙ ap (λ z. and_then z (par_second (in_scope s1))) ja.read ∙ ap (λ scope. par_second scope (forms_given s2 l, s2.counts)) (sym ja.kept)

    pub par_fails_right : (e : TypeFault) (s0 s1 s2 : Judging) (l : ResultIds) → Counted s0 s1 p → Judged (standing_for xs) s1 s2 a l → IsFaultOf e (types_of (standing_for ys) (in_scope s2) s2.counts b) → IsFaultOf e (par_of s0)
    par_fails_right e s0 s1 s2 l o ja h = along e _ _ (par_left s0 s1 s2 l o ja) (passed_on e _ _ h)

    par_judged : (s0 s1 s2 s3 : Judging) (l r : ResultIds) → Counted s0 s1 p → Judged (standing_for xs) s1 s2 a l → Judged (standing_for ys) s2 s3 b r → par_of s0 ≡ and_then (par_variables s3 l r) (types_behind st c)
    par_judged s0 s1 s2 s3 l r o ja jb =
        par_left s0 s1 s2 l o ja
        ∙ ap (λ z. and_then z (par_behind (in_scope s2) (part_in s2 (record { ty = l; place = place a })))) jb.read
        ∙ ap₂ (λ (scope : FormScope) (left : FormPart). par_behind scope left (forms_given s3 r, s3.counts)) (sym jb.kept) (sym (stays s2 s3 l (place a) jb.met.advances ja.met.here))

    pub par_bind : (e : TypeFault) (s0 s1 s2 s3 : Judging) (l r : ResultIds) → Counted s0 s1 p → Judged (standing_for xs) s1 s2 a l → Judged (standing_for ys) s2 s3 b r → IsFaultOf e (par_variables s3 l r) → IsFaultOf e (par_of s0)
    par_bind e s0 s1 s2 s3 l r o ja jb h = along e _ _ (par_judged s0 s1 s2 s3 l r o ja jb) (passed_on e _ _ h)

    pub par_is : (s0 s1 s2 s3 s4 : Judging) (l r : ResultIds) → Counted s0 s1 p → Judged (standing_for xs) s1 s2 a l → Judged (standing_for ys) s2 s3 b r → par_variables s3 l r ≡ Ok (in_scope s4, s4.counts) → par_of s0 ≡ types_of st (in_scope s4) s4.counts c
    par_is s0 s1 s2 s3 s4 l r o ja jb q = par_judged s0 s1 s2 s3 l r o ja jb ∙ ap (λ z. and_then z (types_behind st c)) q

  -- A tuple.
  module _ (st : Standing) (p : Span) (count : ℕ) (results : Counts → Checked (List FormPart × Counts)) where
    abbrev pub tuple_of : Counts → Checked (Results Form × Counts)
    tuple_of n = infer_tuple st n p count results

    abbrev tuple_end : List FormPart × Counts → Checked (Results Form × Counts)
    tuple_end r = and_then (all_single r.0) (λ ts. Ok (Several ts, r.1))

    tuple_counted : (s0 s1 : Judging) → Counted s0 s1 p → tuple_of s0.counts ≡ and_then (may_stand st count p) (λ _. and_then (results s1.counts) tuple_end)
    tuple_counted s0 s1 o = ap (λ z. and_then z (λ n. and_then (may_stand st count p) (λ _. and_then (results n) tuple_end))) o.read

    pub tuple_stands : (e : TypeFault) (s0 s1 : Judging) → Counted s0 s1 p → IsFaultOf e (may_stand st count p) → IsFaultOf e (tuple_of s0.counts)
    tuple_stands e s0 s1 o h = along e _ _ (tuple_counted s0 s1 o) (passed_on e _ _ h)

    tuple_there : (s0 s1 : Judging) → Counted s0 s1 p → may_stand st count p ≡ Ok (tt {0}) → tuple_of s0.counts ≡ and_then (results s1.counts) tuple_end
    tuple_there s0 s1 o q = tuple_counted s0 s1 o ∙ ap (λ z. and_then z (λ _. and_then (results s1.counts) tuple_end)) q

    pub tuple_parts : (e : TypeFault) (s0 s1 : Judging) → Counted s0 s1 p → may_stand st count p ≡ Ok (tt {0}) → IsFaultOf e (results s1.counts) → IsFaultOf e (tuple_of s0.counts)
    tuple_parts e s0 s1 o q h = along e _ _ (tuple_there s0 s1 o q) (passed_on e _ _ h)

    tuple_judged : (s0 s1 : Judging) (ps : List FormPart) (n : Counts) → Counted s0 s1 p → may_stand st count p ≡ Ok (tt {0}) → results s1.counts ≡ Ok (ps, n) → tuple_of s0.counts ≡ and_then (all_single ps) (λ ts. Ok (Several ts, n))
    tuple_judged s0 s1 ps n o q r = tuple_there s0 s1 o q ∙ ap (λ z. and_then z tuple_end) r

    pub tuple_single : (e : TypeFault) (s0 s1 : Judging) (ps : List FormPart) (n : Counts) → Counted s0 s1 p → may_stand st count p ≡ Ok (tt {0}) → results s1.counts ≡ Ok (ps, n) → IsFaultOf e (all_single ps) → IsFaultOf e (tuple_of s0.counts)
    tuple_single e s0 s1 ps n o q r h = along e _ _ (tuple_judged s0 s1 ps n o q r) (passed_on e _ _ h)

    pub tuple_ok : (s0 s1 : Judging) (ps : List FormPart) (n : Counts) (ts : List Form) → Counted s0 s1 p → may_stand st count p ≡ Ok (tt {0}) → results s1.counts ≡ Ok (ps, n) → all_single ps ≡ Ok ts → tuple_of s0.counts ≡ Ok (Several ts, n)
    tuple_ok s0 s1 ps n ts o q r h = tuple_judged s0 s1 ps n o q r ∙ ap (λ z. and_then z (λ ts. Ok (Several ts, n))) h

  -- Arguments were judged.
  pub record AllJudged (before after : Judging) (scope : FormScope) (results : Counts → Checked (List FormPart × Counts)) (ps : List Part) : Type 0 where
    pub read : results before.counts ≡ Ok (parts_in after ps, after.counts)
    pub kept : in_scope after ≡ scope
    pub met : AllMet before after ps

  -- A use: what was looked at of it, and what is left.
  module _ (f : Ident) (ws : WrittenTypes) (count : ℕ) (results : Counts → Checked (List FormPart × Counts)) where
    abbrev pub fits : ℕ → ℕ → Checked (Unit {0})
    fits due wanted = use_fits (generic_globals parts) (variable_numbers variables) f ws count due wanted

    abbrev pub call_of : Counts → Checked (Results Form × Counts)
    call_of n = infer_call (generic_globals parts) (variable_numbers variables) opaque n f ws count results

    abbrev call_rest : Counts → GenericFunctionTree → Checked (Results Form × Counts)
    call_rest n h = and_then (fits (length h.variables) (length h.parameters)) (λ _. use_gives (results n) (called h (formed_all opaque ws)))

    call_counted : (s0 s1 : Judging) → Counted s0 s1 f.span → call_of s0.counts ≡ and_then (function (generic_globals parts).functions f) (call_rest s1.counts)
    call_counted s0 s1 o = ap (λ z. and_then z (λ n. and_then (function (generic_globals parts).functions f) (call_rest n))) o.read

    pub call_function : (e : TypeFault) (s0 s1 : Judging) → Counted s0 s1 f.span → IsFaultOf e (function (generic_globals parts).functions f) → IsFaultOf e (call_of s0.counts)
    call_function e s0 s1 o h = along e _ _ (call_counted s0 s1 o) (passed_on e _ _ h)

    pub call_found : (s0 s1 : Judging) (h : GenericFunctionTree) → Counted s0 s1 f.span → function (generic_globals parts).functions f ≡ Ok h → call_of s0.counts ≡ call_rest s1.counts h
    call_found s0 s1 h o q = call_counted s0 s1 o ∙ ap (λ z. and_then z (call_rest s1.counts)) q

    abbrev pub make_of : Counts → Checked (Results Form × Counts)
    make_of n = infer_make (generic_globals parts) (variable_numbers variables) opaque n f ws count results

    abbrev make_rest : Counts → GenericRow → Checked (Results Form × Counts)
    make_rest n row = and_then (fits (length row.variables) (length row.fields)) (λ _. use_gives (results n) (made row (formed_all opaque ws)))

    make_counted : (s0 s1 : Judging) → Counted s0 s1 f.span → make_of s0.counts ≡ and_then (constructor (generic_globals parts).rows f) (make_rest s1.counts)
    make_counted s0 s1 o = ap (λ z. and_then z (λ n. and_then (constructor (generic_globals parts).rows f) (make_rest n))) o.read

    pub make_constructor : (e : TypeFault) (s0 s1 : Judging) → Counted s0 s1 f.span → IsFaultOf e (constructor (generic_globals parts).rows f) → IsFaultOf e (make_of s0.counts)
    make_constructor e s0 s1 o h = along e _ _ (make_counted s0 s1 o) (passed_on e _ _ h)

    pub make_found : (s0 s1 : Judging) (row : GenericRow) → Counted s0 s1 f.span → constructor (generic_globals parts).rows f ≡ Ok row → make_of s0.counts ≡ make_rest s1.counts row
    make_found s0 s1 row o q = make_counted s0 s1 o ∙ ap (λ z. and_then z (make_rest s1.counts)) q

  -- What a use gives, once its declaration is found: its arguments are judged behind what is asked before them.
  module _ (whole : Checked (Results Form × Counts)) (before : Checked (Unit {0})) (results : Checked (List FormPart × Counts)) (gives : List FormPart → Checked (Results Form)) (is : whole ≡ and_then before (λ _. use_gives results gives)) where
    pub use_before : (e : TypeFault) → IsFaultOf e before → IsFaultOf e whole
    use_before e h = along e _ _ is (passed_on e _ _ h)

    use_fitting : before ≡ Ok (tt {0}) → whole ≡ use_gives results gives
    use_fitting q = is ∙ ap (λ z. and_then z (λ _. use_gives results gives)) q

    pub use_arguments : (e : TypeFault) → before ≡ Ok (tt {0}) → IsFaultOf e results → IsFaultOf e whole
    use_arguments e q h = along e _ _ (use_fitting q) (passed_on e _ _ h)

    abbrev use_end : Checked (Results Form) → Counts → Checked (Results Form × Counts)
    use_end given n = and_then given (λ t. Ok (t, n))

    use_judged : (ps : List FormPart) (n : Counts) → before ≡ Ok (tt {0}) → results ≡ Ok (ps, n) → whole ≡ use_end (gives ps) n
    use_judged ps n q r = use_fitting q ∙ ap (λ z. and_then z (λ r. use_end (gives r.0) r.1)) r

    pub use_given : (e : TypeFault) (ps : List FormPart) (n : Counts) → before ≡ Ok (tt {0}) → results ≡ Ok (ps, n) → IsFaultOf e (gives ps) → IsFaultOf e whole
    use_given e ps n q r h = along e _ _ (use_judged ps n q r) (passed_on e _ _ h)

    pub use_ok : (ps : List FormPart) (n : Counts) (t : Results Form) → before ≡ Ok (tt {0}) → results ≡ Ok (ps, n) → gives ps ≡ Ok t → whole ≡ Ok (t, n)
    use_ok ps n t q r g = use_judged ps n q r ∙ ap (λ z. use_end z n) g
