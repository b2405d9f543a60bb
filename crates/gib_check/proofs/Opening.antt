-- Calls and cases, by their vectors.
use Rattle.std.proofs.Common.{◌≡◌, ℕ, ◌+◌, List, [], ◌∷◌, map, length, Ok, refl, sym, ap, ◌∙◌, arith, subst}
use Rattle.std.specs.Prelude.{Result}
use Rattle.gib_base.specs.declared.Span.{Span}
use Rattle.gib_types.specs.Form.{Forms}
use Rattle.gib_syntax.specs.declared.exprs.ExprId.{ExprId}
use Rattle.gib_syntax.specs.declared.exprs.Arm.{Arm}
use Rattle.gib_syntax.specs.declared.tree.Ident.{Ident}
use Rattle.gib_syntax.specs.Forms.{WrittenTypes}
use Rattle.gib_syntax.specs.GenericTree.{GenericExpression, GenericCall, GenericMake, GenericCase, GenericTuple, GenericGlobals}
use Rattle.gib_syntax.specs.GenericTyping.{FormScope, opaque}
use Rattle.gib_syntax.specs.GenericArena.{ArmsBelow, arguments_from, arms_from, case_from}
use Rattle.gib_check.specs.declared.counts.Counts.{Counts}
use Rattle.gib_check.specs.declared.fault.TypeFault.{TypeFault}
use Rattle.gib_check.specs.declared.standing.Standing.{Standing}
use Rattle.gib_check.specs.Answers.{Gives}
use Rattle.gib_check.specs.Faults.{Checked, and_then, argument_count, heads, infer, infer_all, infer_arms, infer_call, infer_make, infer_tuple, infer_case, infer_arm, place}
use Rattle.gib_check.specs.Judging.{arm_head, infer_each_arm}

count-from : (f : ℕ → GenericExpression) (ids : List ExprId) → argument_count (arguments_from f ids) ≡ length ids
count-from f [] = refl
count-from f (i ∷ is) = ap (λ n. n + 1) (count-from f is) ∙ omega arith

pub call_opened : (g : GenericGlobals) (vars : List ℕ) (f : ℕ → GenericExpression) (st : Standing) (scope : FormScope) (n : Counts) (e : GenericExpression) (x : Ident) (ws : WrittenTypes) (ids items : List ExprId) → e ≡ GenericCall x ws (arguments_from f items) → ids ≡ items → infer g vars opaque st scope n e ≡ infer_call g vars opaque n x ws (length ids) (λ m. infer_all g vars opaque scope m (arguments_from f ids))
call_opened g vars f st scope n e x ws ids items q s =
    ap (infer g vars opaque st scope n) q
    ∙ ap (λ k. infer_call g vars opaque n x ws k (λ m. infer_all g vars opaque scope m (arguments_from f items))) (count-from f items)
    ∙ ap (λ (z : List ExprId). infer_call g vars opaque n x ws (length z) (λ m. infer_all g vars opaque scope m (arguments_from f z))) (sym s)

pub make_opened : (g : GenericGlobals) (vars : List ℕ) (f : ℕ → GenericExpression) (st : Standing) (scope : FormScope) (n : Counts) (e : GenericExpression) (x : Ident) (ws : WrittenTypes) (ids items : List ExprId) → e ≡ GenericMake x ws (arguments_from f items) → ids ≡ items → infer g vars opaque st scope n e ≡ infer_make g vars opaque n x ws (length ids) (λ m. infer_all g vars opaque scope m (arguments_from f ids))
make_opened g vars f st scope n e x ws ids items q s =
    ap (infer g vars opaque st scope n) q
    ∙ ap (λ k. infer_make g vars opaque n x ws k (λ m. infer_all g vars opaque scope m (arguments_from f items))) (count-from f items)
    ∙ ap (λ (z : List ExprId). infer_make g vars opaque n x ws (length z) (λ m. infer_all g vars opaque scope m (arguments_from f z))) (sym s)

pub tuple_opened : (g : GenericGlobals) (vars : List ℕ) (f : ℕ → GenericExpression) (st : Standing) (scope : FormScope) (n : Counts) (e : GenericExpression) (p : Span) (ids items : List ExprId) → e ≡ GenericTuple p (arguments_from f items) → ids ≡ items → infer g vars opaque st scope n e ≡ infer_tuple st n p (length ids) (λ m. infer_all g vars opaque scope m (arguments_from f ids))
tuple_opened g vars f st scope n e p ids items q s =
    ap (infer g vars opaque st scope n) q
    ∙ ap (λ k. infer_tuple st n p k (λ m. infer_all g vars opaque scope m (arguments_from f items))) (count-from f items)
    ∙ ap (λ (z : List ExprId). infer_tuple st n p (length z) (λ m. infer_all g vars opaque scope m (arguments_from f z))) (sym s)

heads-from : (f : ℕ → GenericExpression) (arm : Arm) (arms : List Arm) → heads (arms_from f arm arms) ≡ map arm_head (arm ∷ arms)
heads-from f arm [] = refl
heads-from f arm (next ∷ arms) = ap (λ z. arm_head arm ∷ z) (heads-from f next arms)

arms-each : (g : GenericGlobals) (vars : List ℕ) (st : Standing) (ts : Forms) (f : ℕ → GenericExpression) (scope : FormScope) (n : Counts) (arm : Arm) (arms : List Arm) → infer_arms g vars opaque st ts scope n (arms_from f arm arms) ≡ infer_each_arm g vars st ts f scope n (arm ∷ arms)
arms-each g vars st ts f scope n arm [] = refl
arms-each g vars st ts f scope n arm (next ∷ arms) =
    (λ i. and_then (infer_arm g.rows ts scope n arm.constructor arm.variables.items (λ inner m. infer g vars opaque st inner m (f arm.body.0)))
    (λ x. and_then (arms-each g vars st ts f scope x.1 next arms i) (λ r. Ok (record { ty = x.0; place = place (f arm.body.0) } ∷ r.0, r.1))))

pub case_opened : (g : GenericGlobals) (vars : List ℕ) (f : ℕ → GenericExpression) (st : Standing) (scope : FormScope) (n : Counts) (e : GenericExpression) (p : Span) (x : Ident) (id : ℕ) (arms items : List Arm) → e ≡ case_from f items (GenericCase p x) → ArmsBelow items id → arms ≡ items → infer g vars opaque st scope n e ≡ infer_case g.rows scope n p x (map arm_head arms) (λ ts m. infer_each_arm g vars st ts f scope m arms)
case_opened g vars f st scope n e p x id arms [] q below s = absurd below
case_opened g vars f st scope n e p x id arms (arm ∷ items) q below s =
    ap (infer g vars opaque st scope n) q
    ∙ (λ i. infer_case g.rows scope n p x (heads-from f arm items i) (λ ts m. arms-each g vars st ts f scope m arm items i))
    ∙ ap (λ (z : List Arm). infer_case g.rows scope n p x (map arm_head z) (λ ts m. infer_each_arm g vars st ts f scope m z)) (sym s)

pub gives_same : {A B : Type 0} (view : A → B) (r : Result A TypeFault) (c d : Checked B) → c ≡ d → Gives view r d → Gives view r c
gives_same view r c d e h = subst (Gives view r) (sym e) h
