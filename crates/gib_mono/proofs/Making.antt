-- Copied expressions, from their copied parts.
use Rattle.std.proofs.Common.{◌≡◌, ℕ, ◌+◌, ◌-◌, append_assoc, ◌<◌, ◌≤◌, List, [], ◌∷◌, ◌++◌, length, map, take, drop, Some, refl, sym, ap, ap₂, ◌∙◌, arith, subst}
use Rattle.std.proofs.lemmas.List.{append-nil, length-append}
use Rattle.std.specs.List.{AllByRecursion}
use Rattle.std.specs.Global.{Vec}
use Rattle.gib_base.specs.declared.Span.{Span}
use Rattle.gib_types.specs.declared.types.TypeId.{TypeId}
use Rattle.gib_types.specs.Form.{Form, Forms, NoForm, MoreForms, Meant, WholeForm, TruthForm, DataForm, form_or}
use Rattle.gib_types.specs.Types.{form_at, forms_at, forms_of, AreBelow, GrowsTo}
use Rattle.gib_syntax.specs.declared.exprs.ExprId.{ExprId}
use Rattle.gib_syntax.specs.declared.exprs.Arm.{Arm}
use Rattle.gib_syntax.specs.declared.exprs.Node.{Node}
use Rattle.gib_syntax.specs.declared.exprs.Node.TheVariants as n
use Rattle.gib_syntax.specs.declared.tree.Ident.{Ident}
use Rattle.gib_types.specs.declared.operator.Operator.{Operator}
use Rattle.gib_syntax.specs.declared.tree.TypeName.{TypeName}
use Rattle.gib_syntax.specs.Results.{One, Several, list_results}
use Rattle.gib_check.specs.declared.rules.ResultIds.{ResultIds}
use Rattle.gib_check.specs.declared.rules.ResultIds.TheVariants as ids
use Rattle.gib_syntax.specs.Tree.{Expression, Arguments, NoArgument, Argument, LastArm, NextArm, Paren, Op, Call, Make, If, Case, Tuple}
use Rattle.gib_syntax.specs.Arena.{tree_of, layer, Grows, arguments_from, arms_from, case_from, ArmsBelow, IsArmBelow}
use Rattle.gib_syntax.specs.GenericArena.{arguments_from as generic_from, arms_from as generic_arms, case_from as generic_case, ArmsBelow as GenericArmsBelow, IsArmBelow as IsGenericArmBelow}
use Rattle.gib_syntax.specs.Declarations.{number_of}
use Rattle.gib_syntax.specs.Forms.{WrittenType, WrittenTypes, formed, formed_all}
use Rattle.gib_syntax.specs.declared.written.Word.{Word}
use Rattle.gib_syntax.specs.declared.written.Run.{Run}
use Rattle.gib_syntax.specs.Words.{all_types, stack_of, run_words, types_in}
use Rattle.gib_syntax.specs.GenericTree.{GenericExpression, GenericArguments, GenericNoArgument, GenericArgument, GenericGlobals, GenericVar, GenericNum, GenericBit, GenericParen, GenericOp, GenericCall, GenericMake, GenericLet, GenericPar, GenericIf, GenericCase, GenericTuple, generic_named, place_named}
use Rattle.gib_syntax.specs.GenericTyping.{FormScope, form_in, operator_form}
use Rattle.gib_mono.specs.declared.copier.Copier.{Copier}
use Rattle.gib_mono.specs.declared.copier.Copied.{Copied}
use Rattle.gib_mono.specs.Bindings.{only_name, let_of, par_of}
use Rattle.gib_mono.specs.Copying.{Naming, renamed, name_of_form, copy, copy_all, copy_arms, copy_variables, form_of, one_form, results_of, results_of_arms, forms_of_all, bound_forms, results_at, owner_named, forms_named, bind_forms, arguments_of}
use Rattle.gib_mono.specs.Naming.{naming_of, number_with}
use Rattle.gib_mono.specs.declared.scene.InScope.{InScope}
use Rattle.gib_mono.specs.Scenes.{Scenery, IsScenery, forms, meaning, scope_onto, scope_in, names_in, Keeps}
use Rattle.gib_mono.specs.Reading.{listed}
use Rattle.gib_mono.specs.Made.{naming, run_of, forms_given, variables_given, AreMet, MoreParts, Stays, Meets, Gives, MeetsAll, Puts, Copies, CopiesAll, CopiesTuple, CopiesArm, CopiesArms, ArmIs, ArmsAre, arm_scope, Binds, Leaves}
use Rattle.gib_mono.proofs.InScene.{keeps_same, keeps_on, scope_grows}
use Rattle.gib_mono.proofs.Read.{form_grows, forms_grow, listed_grow, grows_on as types_grow_on, ap₃}
use Rattle.gib_check.proofs.Growing.{below_more, run_more}
use Rattle.gib_check.proofs.Singles.{listed_push, below_push}

pub grows_same : (xs : List Node) → Grows xs xs
grows_same xs = record { longer = omega arith; same = λ i l. refl }

pub grows_on : (xs ys zs : List Node) → Grows xs ys → Grows ys zs → Grows xs zs
grows_on xs ys zs a b = record {
  longer = (let l = a.longer in let m = b.longer in omega (arith, l, m));
  same = λ i l. b.same i (let m = a.longer in omega (arith, l, m)) ∙ a.same i l;
}

-- parts of results
pub parts_same : (a b : Copier) → b.parts ≡ a.parts → MoreParts a b
parts_same a b e = record { more = []; is = ap (λ (v : Vec TypeId). v.items) e ∙ sym (append-nil a.parts.items) }

pub parts_on : (a b c : Copier) → MoreParts a b → MoreParts b c → MoreParts a c
parts_on a b c h k = record { more = h.more ++ k.more; is = k.is ∙ ap (λ l. l ++ k.more) h.is ∙ append_assoc a.parts.items h.more k.more }

run_stays : (a b : Copier) (start count : ℕ) → MoreParts a b → start + count ≤ length a.parts.items → run_of b start count ≡ run_of a start count
run_stays a b start count m l = ap (λ (ps : List TypeId). take count (drop start ps)) m.is ∙ run_more start count a.parts.items m.more l

pub stays_same : (s : Copier) → Stays s s
stays_same s = record { keeps = keeps_same s.scene; parts = parts_same s s refl; base = refl; grows = grows_same s.exprs }

pub stays_on : (a b c : Copier) → Stays a b → Stays b c → Stays a c
stays_on a b c h k = record { keeps = keeps_on a.scene b.scene c.scene h.keeps k.keeps; parts = parts_on a b c h.parts k.parts; base = k.base ∙ h.base; grows = grows_on a.exprs b.exprs c.exprs h.grows k.grows }

pub naming_stays : (a b : Copier) → Stays a b → naming b ≡ naming a
naming_stays a b h = ap₂ naming_of h.base h.keeps.names

-- what was given stays where types and parts were met
pub given_grows : (a b : Copier) (r : ResultIds) → GrowsTo (forms a.scene) (forms b.scene) → MoreParts a b → AreMet a r → forms_given b r ≡ forms_given a r
given_grows a b (ids.One id) s m h = ap One (form_grows a.scene.types b.scene.types id s h)
given_grows a b (ids.Several start count) s m h =
    ap Several (ap (listed (forms b.scene)) (run_stays a b start count m h.0) ∙ listed_grow a.scene.types b.scene.types (run_of a start count) s h.1)

pub met_grows : (a b : Copier) (r : ResultIds) → length a.scene.types ≤ length b.scene.types → MoreParts a b → AreMet a r → AreMet b r
met_grows a b (ids.One id) l m h = omega (arith, h, l)
met_grows a b (ids.Several start count) l m h = (
  (let k = h.0 in let e = ap (λ (l : List TypeId). length l) m.is in let f = length-append a.parts.items m.more in omega (arith, k, e, f)),
  subst (AreBelow (length b.scene.types)) (sym (run_stays a b start count m h.0)) (below_more (length a.scene.types) (length b.scene.types) (run_of a start count) l h.1),
)

pub given_stays : (a b : Copier) (r : ResultIds) → Stays a b → AreMet a r → forms_given b r ≡ forms_given a r
given_stays a b r s h = given_grows a b r s.keeps.grows s.parts h

pub met_stays : (a b : Copier) (r : ResultIds) → Stays a b → AreMet a r → AreMet b r
met_stays a b r s h = met_grows a b r s.keeps.longer s.parts h

-- and is the same where types and parts are
pub given_same : (a b : Copier) (r : ResultIds) → b.scene.types ≡ a.scene.types → b.parts ≡ a.parts → forms_given b r ≡ forms_given a r
given_same a b (ids.One id) e p = ap (λ ns. One (form_at (forms_of ns) id.0)) e
given_same a b (ids.Several start count) e p =
    ap (λ (v : Vec TypeId). Several (listed (forms b.scene) (take count (drop start v.items)))) p ∙ ap (λ ns. Several (listed (forms_of ns) (take count (drop start a.parts.items)))) e

pub met_same : (a b : Copier) (r : ResultIds) → b.scene.types ≡ a.scene.types → b.parts ≡ a.parts → AreMet a r → AreMet b r
met_same a b (ids.One id) e p h = subst (λ ns. id.0 < length ns) (sym e) h
met_same a b (ids.Several start count) e p h = (
  subst (λ (v : Vec TypeId). start + count ≤ length v.items) (sym p) h.0,
  subst (λ ns. AreBelow (length ns) (run_of b start count)) (sym e) (subst (λ (v : Vec TypeId). AreBelow (length a.scene.types) (take count (drop start v.items))) (sym p) h.1),
)

-- what is copied later is the copy that it would have been before
pub copied_from : (g : GenericGlobals) (old mid new : Copier) (c : Copied) (e : GenericExpression) → Stays old mid → Copies g mid new c e → Copies g old new c e
copied_from g old mid new c e s h = record {
  stays = stays_on old mid new s h.stays;
  inside = h.inside;
  met = h.met;
  expr = h.expr ∙ ap₃ (λ nm m sc. copy g nm m sc e) (naming_stays old mid s) s.keeps.meaning s.keeps.scope;
  forms = h.forms ∙ ap₂ (λ m sc. results_of g m sc e) s.keeps.meaning s.keeps.scope;
}

-- what was copied stays
pub copied_stays : (g : GenericGlobals) (old mid new : Copier) (c : Copied) (e : GenericExpression) → Copies g old mid c e → Stays mid new → Copies g old new c e
copied_stays g old mid new c e h s = record {
  stays = stays_on old mid new h.stays s;
  inside = (let l = h.inside in let m = s.grows.longer in omega (arith, l, m));
  met = met_stays mid new c.given s h.met;
  expr = s.grows.same c.expr.0 h.inside ∙ h.expr;
  forms = given_stays mid new c.given s h.met ∙ h.forms;
}

-- one more expression
put_stays : (s t : Copier) (id : ExprId) (node : Node) → Puts s t id node → Stays s t
put_stays s t id node w = record { keeps = subst (λ k. Keeps s.scene k) (sym w.scene) (keeps_same s.scene); parts = parts_same s t w.parts; base = w.base; grows = w.makes.grows }

-- a node over copied parts
pub node_made : (g : GenericGlobals) (old s new : Copier) (id : ExprId) (node : Node) (given : ResultIds) (e : GenericExpression) → Stays old s → Puts s new id node
    → layer (tree_of s.exprs) (Some node) ≡ copy g (naming old) (meaning old.scene) (scope_in old.scene) e → AreMet s given → forms_given s given ≡ results_of g (meaning old.scene) (scope_in old.scene) e
    → Copies g old new (record { expr = id; given = given }) e
node_made g old s new id node given e stays w tree met forms_are = record {
  stays = stays_on old s new stays (put_stays s new id node w);
  inside = w.makes.inside;
  met = met_stays s new given (put_stays s new id node w) met;
  expr = w.makes.tree ∙ tree;
  forms = given_stays s new given (put_stays s new id node w) met ∙ forms_are;
}

pub variable_made : (s0 s1 s2 : Copier) (id : ExprId) (ty : TypeId) (x : Ident) → Meets s0 s1 ty (form_or (form_in (scope_in s0.scene) (number_of x))) → Puts s1 s2 id (n.Variable x) → (g : GenericGlobals) → Copies g s0 s2 (record { expr = id; given = ids.One ty }) (GenericVar x)
variable_made s0 s1 s2 id ty x m w = λ g. node_made g s0 s1 s2 id (n.Variable x) (ids.One ty) (GenericVar x) m.stays w refl m.below (ap One m.form)

pub whole_made : (s0 s1 s2 : Copier) (id : ExprId) (ty : TypeId) (p : Span) (v : ℕ) → Meets s0 s1 ty WholeForm → Puts s1 s2 id (n.Whole p v) → (g : GenericGlobals) → Copies g s0 s2 (record { expr = id; given = ids.One ty }) (GenericNum p v)
whole_made s0 s1 s2 id ty p v m w = λ g. node_made g s0 s1 s2 id (n.Whole p v) (ids.One ty) (GenericNum p v) m.stays w refl m.below (ap One m.form)

pub truth_made : (s0 s1 s2 : Copier) (id : ExprId) (ty : TypeId) (p : Span) (b : Rattle.std.proofs.Common.Bool) → Meets s0 s1 ty TruthForm → Puts s1 s2 id (n.Truth p b) → (g : GenericGlobals) → Copies g s0 s2 (record { expr = id; given = ids.One ty }) (GenericBit p b)
truth_made s0 s1 s2 id ty p b m w = λ g. node_made g s0 s1 s2 id (n.Truth p b) (ids.One ty) (GenericBit p b) m.stays w refl m.below (ap One m.form)

pub paren_made : (g : GenericGlobals) (s0 s1 s2 : Copier) (id : ExprId) (c : Copied) (p : Span) (e : GenericExpression) → Copies g s0 s1 c e → Puts s1 s2 id (n.Paren p c.expr) → Copies g s0 s2 (record { expr = id; given = c.given }) (GenericParen p e)
paren_made g s0 s1 s2 id c p e h w = node_made g s0 s1 s2 id (n.Paren p c.expr) c.given (GenericParen p e) h.stays w (ap (Paren p) h.expr) h.met h.forms

pub operation_made : (g : GenericGlobals) (s0 s1 s2 s3 s4 : Copier) (id : ExprId) (l r : Copied) (ty : TypeId) (p : Span) (f : Operator) (a b : GenericExpression) → Copies g s0 s1 l a → Copies g s1 s2 r b → Meets s2 s3 ty (operator_form f) → Puts s3 s4 id (n.Operation p f l.expr r.expr)
    → Copies g s0 s4 (record { expr = id; given = ids.One ty }) (GenericOp p f a b)
operation_made g s0 s1 s2 s3 s4 id l r ty p f a b h i m w =
    let first = copied_stays g s0 s1 s3 l a h (stays_on s1 s2 s3 i.stays m.stays) in
    let second = copied_stays g s0 s2 s3 r b (copied_from g s0 s1 s2 r b h.stays i) m.stays in
    node_made g s0 s3 s4 id (n.Operation p f l.expr r.expr) (ids.One ty) (GenericOp p f a b) first.stays w (ap₂ (Op p f) first.expr second.expr) m.below (ap One m.form)

-- both are there when the third is
pub parts_below : (g : GenericGlobals) (s0 s1 s2 s3 : Copier) (l r : Copied) (a b : GenericExpression) → Copies g s0 s1 l a → Copies g s1 s2 r b → Stays s2 s3 → (l.expr.0 < length s3.exprs) × (r.expr.0 < length s3.exprs)
parts_below g s0 s1 s2 s3 l r a b h i s = (
  (let k = h.inside in let m = i.stays.grows.longer in let q = s.grows.longer in omega (arith, k, m, q)),
  (let k = i.inside in let q = s.grows.longer in omega (arith, k, q)),
)

pub if_made : (g : GenericGlobals) (s0 s1 s2 s3 s4 : Copier) (id : ExprId) (c t o : Copied) (p : Span) (a b d : GenericExpression) → Copies g s0 s1 c a → Copies g s1 s2 t b → Copies g s2 s3 o d → Puts s3 s4 id (n.If p c.expr t.expr o.expr)
    → Copies g s0 s4 (record { expr = id; given = t.given }) (GenericIf p a b d)
if_made g s0 s1 s2 s3 s4 id c t o p a b d h i j w =
    let first = copied_stays g s0 s1 s3 c a h (stays_on s1 s2 s3 i.stays j.stays) in
    let second = copied_stays g s0 s2 s3 t b (copied_from g s0 s1 s2 t b h.stays i) j.stays in
    let third = copied_from g s0 s2 s3 o d (stays_on s0 s1 s2 h.stays i.stays) j in
    node_made g s0 s3 s4 id (n.If p c.expr t.expr o.expr) t.given (GenericIf p a b d) third.stays w (ap₃ (If p) first.expr second.expr third.expr) second.met second.forms

-- variables in scope, and out of it again

take_front : (xs ys : List InScope) → take (length xs) (xs ++ ys) ≡ xs
take_front [] ys = refl
take_front (x ∷ xs) ys = ap (λ l. x ∷ l) (take_front xs ys)

pub left_scope : (s1 s2 s3 s4 : Copier) (len : ℕ) (inner : FormScope) → IsScenery s1.scene → len ≡ length s1.scene.scope → Binds s1 s2 inner → Stays s2 s3 → Leaves s3 s4 len → Stays s1 s4
left_scope s1 s2 s3 s4 len inner known is b h e =
    let raw : take len s3.scene.scope ≡ s1.scene.scope = ap₂ take is (h.keeps.kept ∙ b.kept) ∙ take_front s1.scene.scope b.more in
    let grown = types_grow_on s1.scene.types s2.scene.types s3.scene.types b.grows h.keeps.grows in
    record {
      keeps = subst (λ k. Keeps s1.scene k) (sym e.scene) (record {
        grows = grown;
        longer = (let l = b.longer in let m = h.keeps.longer in omega (arith, l, m));
        meaning = h.keeps.meaning ∙ b.meaning;
        scope = ap (λ bs. scope_onto (forms s3.scene) bs []) raw ∙ scope_grows s1.scene.types s3.scene.types s1.scene.scope [] grown known.scope;
        names = h.keeps.names ∙ b.names;
        kept = raw;
      });
      parts = parts_on s1 s3 s4 (parts_on s1 s2 s3 b.parts h.parts) (parts_same s3 s4 e.parts);
      base = e.base ∙ h.base ∙ b.base;
      grows = subst (λ xs. Grows s1.exprs xs) (sym e.exprs) (grows_on s1.exprs s2.exprs s3.exprs b.puts h.grows);
    }

naming_binds : (a b : Copier) (inner : FormScope) → Binds a b inner → naming b ≡ naming a
naming_binds a b inner h = ap₂ naming_of h.base h.names

-- what is copied stands when variables leave
left_inside : (s3 s4 : Copier) (len : ℕ) (i : ExprId) → Leaves s3 s4 len → i.0 < length s3.exprs → i.0 < length s4.exprs
left_inside s3 s4 len i e l = subst (λ (xs : List Node). i.0 < length xs) (sym e.exprs) l

left_types : (s3 s4 : Copier) (len : ℕ) → Leaves s3 s4 len → s4.scene.types ≡ s3.scene.types
left_types s3 s4 len e = ap (λ (k : Scenery). k.types) e.scene

left_met : (s3 s4 : Copier) (len : ℕ) (r : ResultIds) → Leaves s3 s4 len → AreMet s3 r → AreMet s4 r
left_met s3 s4 len r e h = met_same s3 s4 r (left_types s3 s4 len e) e.parts h

left_given : (s3 s4 : Copier) (len : ℕ) (r : ResultIds) → Leaves s3 s4 len → forms_given s4 r ≡ forms_given s3 r
left_given s3 s4 len r e = given_same s3 s4 r (left_types s3 s4 len e) e.parts

left_tree : (s3 s4 : Copier) (len : ℕ) (i : ExprId) → Leaves s3 s4 len → tree_of s4.exprs i.0 ≡ tree_of s3.exprs i.0
left_tree s3 s4 len i e = ap (λ (xs : List Node). tree_of xs i.0) e.exprs

-- the one type of what a bound expression gives
pub one_met : (g : GenericGlobals) (s0 s1 s2 : Copier) (v : Copied) (a : GenericExpression) (t : TypeId) → Copies g s0 s1 v a → Meets s1 s2 t (one_form (forms_given s1 v.given)) → form_at (forms s2.scene) t.0 ≡ form_of g (meaning s0.scene) (scope_in s0.scene) a
one_met g s0 s1 s2 v a t h m = m.form ∙ ap one_form h.forms

-- what was copied stands when the names that were bound behind it leave
pub bound_there : (g : GenericGlobals) (s0 s1 s2 s3 s4 : Copier) (len : ℕ) (inner : FormScope) (v : Copied) (a : GenericExpression) → Copies g s0 s1 v a → IsScenery s1.scene → len ≡ length s1.scene.scope → Binds s1 s2 inner → Stays s2 s3 → Leaves s3 s4 len → Copies g s0 s4 v a
bound_there g s0 s1 s2 s3 s4 len inner v a h known is binds i e = copied_stays g s0 s1 s4 v a h (left_scope s1 s2 s3 s4 len inner known is binds i e)

-- and so is the body
pub body_below : (g : GenericGlobals) (s2 s3 s4 : Copier) (len : ℕ) (c : Copied) (b : GenericExpression) → Copies g s2 s3 c b → Leaves s3 s4 len → c.expr.0 < length s4.exprs
body_below g s2 s3 s4 len c b i e = left_inside s3 s4 len c.expr e i.inside

-- the body of names that are bound behind a start
record BodyIs (g : GenericGlobals) (s0 new : Copier) (c : Copied) (inner : FormScope) (b : GenericExpression) : Type 0 where
  expr : tree_of new.exprs c.expr.0 ≡ copy g (naming s0) (meaning s0.scene) inner b
  met : AreMet new c.given
  forms : forms_given new c.given ≡ results_of g (meaning s0.scene) inner b

body_is : (g : GenericGlobals) (s0 s1 s2 s3 s4 : Copier) (len : ℕ) (bound inner : FormScope) (c : Copied) (b : GenericExpression) → Stays s0 s1 → Binds s1 s2 bound → bound ≡ inner → Copies g s2 s3 c b → Leaves s3 s4 len → BodyIs g s0 s4 c inner b
body_is g s0 s1 s2 s3 s4 len bound inner c b there binds is i e =
    let m = binds.meaning ∙ there.keeps.meaning in
    let sc = binds.scope ∙ is in
    record {
      expr = left_tree s3 s4 len c.expr e ∙ i.expr ∙ ap₃ (λ k q r. copy g k q r b) (naming_binds s1 s2 bound binds ∙ naming_stays s0 s1 there) m sc;
      met = left_met s3 s4 len c.given e i.met;
      forms = left_given s3 s4 len c.given e ∙ i.forms ∙ ap₂ (λ q r. results_of g q r b) m sc;
    }

-- the variables of names are those of the copy
variables_are : (g : GenericGlobals) (s0 new : Copier) (v : Copied) (xs : List Ident) (a : GenericExpression) → Copies g s0 new v a → variables_given new xs v.given ≡ copy_variables (naming s0) xs (bound_forms g (meaning s0.scene) (scope_in s0.scene) a)
variables_are g s0 new v xs a h = ap₂ (λ k l. copy_variables k xs l) (naming_stays s0 new h.stays) (ap list_results h.forms)

pub let_made : (g : GenericGlobals) (s0 s1 s2 s3 s4 s5 : Copier) (len : ℕ) (id : ExprId) (v c : Copied) (node : Node) (p : Span) (xs : List Ident) (a b : GenericExpression) → Copies g s0 s1 v a → IsScenery s1.scene → len ≡ length s1.scene.scope
    → Binds s1 s2 (bind_forms xs (list_results (forms_given s1 v.given)) (scope_in s1.scene)) → Copies g s2 s3 c b → Leaves s3 s4 len
    → ((f : ℕ → Expression) → layer f (Some node) ≡ let_of p (only_name xs) (variables_given s4 xs v.given) (f v.expr.0) (f c.expr.0)) → Puts s4 s5 id node → Copies g s0 s5 (record { expr = id; given = c.given }) (GenericLet p xs a b)
let_made g s0 s1 s2 s3 s4 s5 len id v c node p xs a b h known is binds i e tree w =
    let inner = bind_forms xs (list_results (forms_given s1 v.given)) (scope_in s1.scene) in
    let first = bound_there g s0 s1 s2 s3 s4 len inner v a h known is binds i.stays e in
    let body = body_is g s0 s1 s2 s3 s4 len inner (bind_forms xs (bound_forms g (meaning s0.scene) (scope_in s0.scene) a) (scope_in s0.scene)) c b h.stays binds (ap₂ (bind_forms xs) (ap list_results h.forms) h.stays.keeps.scope) i e in
    node_made g s0 s4 s5 id node c.given (GenericLet p xs a b) first.stays w
    (tree (tree_of s4.exprs) ∙ ap₃ (let_of p (only_name xs)) (variables_are g s0 s4 v xs a first) first.expr body.expr) body.met body.forms

-- names behind others
pub bound_again : (s2 s3 s4 : Copier) (middle inner : FormScope) → Binds s2 s3 middle → Binds s3 s4 inner → Binds s2 s4 inner
bound_again s2 s3 s4 middle inner a b = record {
  puts = grows_on s2.exprs s3.exprs s4.exprs a.puts b.puts;
  parts = parts_on s2 s3 s4 a.parts b.parts;
  base = b.base ∙ a.base;
  grows = types_grow_on s2.scene.types s3.scene.types s4.scene.types a.grows b.grows;
  longer = (let l = a.longer in let m = b.longer in omega (arith, l, m));
  meaning = b.meaning ∙ a.meaning;
  names = b.names ∙ a.names;
  scope = b.scope;
  more = a.more ++ b.more;
  kept = b.kept ∙ ap (λ l. l ++ b.more) a.kept ∙ append_assoc s2.scene.scope a.more b.more;
}

-- what is bound to the second side is met when the names of the first are there
pub right_met : (g : GenericGlobals) (s1 s2 s3 : Copier) (middle : FormScope) (w : Copied) (b : GenericExpression) → Copies g s1 s2 w b → Binds s2 s3 middle → AreMet s3 w.given
right_met g s1 s2 s3 middle w b i binds = met_grows s2 s3 w.given binds.longer binds.parts i.met

-- both sides, when all names have left
pub record SidesAre (g : GenericGlobals) (s0 new : Copier) (v w : Copied) (a b : GenericExpression) : Type 0 where
  pub left : Copies g s0 new v a
  pub right : Copies g s0 new w b

pub sides_there : (g : GenericGlobals) (s0 s1 s2 s3 s4 s5 s6 : Copier) (len : ℕ) (middle inner : FormScope) (v w : Copied) (a b : GenericExpression) → Copies g s0 s1 v a → Copies g s1 s2 w b → IsScenery s2.scene → len ≡ length s2.scene.scope
    → Binds s2 s3 middle → Binds s3 s4 inner → Stays s4 s5 → Leaves s5 s6 len → SidesAre g s0 s6 v w a b
sides_there g s0 s1 s2 s3 s4 s5 s6 len middle inner v w a b h i known is first second j e =
    let both = bound_again s2 s3 s4 middle inner first second in record {
      left = bound_there g s0 s2 s4 s5 s6 len inner v a (copied_stays g s0 s1 s2 v a h i.stays) known is both j e;
      right = bound_there g s0 s2 s4 s5 s6 len inner w b (copied_from g s0 s1 s2 w b h.stays i) known is both j e;
    }

pub par_made : (g : GenericGlobals) (s0 s1 s2 s3 s4 s5 s6 s7 : Copier) (len : ℕ) (id : ExprId) (v w c : Copied) (node : Node) (p : Span) (xs ys : List Ident) (a b q : GenericExpression) → Copies g s0 s1 v a → Copies g s1 s2 w b
    → IsScenery s2.scene → len ≡ length s2.scene.scope → Binds s2 s3 (bind_forms xs (list_results (forms_given s2 v.given)) (scope_in s2.scene)) → Binds s3 s4 (bind_forms ys (list_results (forms_given s3 w.given)) (scope_in s3.scene))
    → Copies g s4 s5 c q → Leaves s5 s6 len
    → ((f : ℕ → Expression) → layer f (Some node) ≡ par_of p (only_name xs) (variables_given s6 xs v.given) (f v.expr.0) (only_name ys) (variables_given s6 ys w.given) (f w.expr.0) (f c.expr.0))
    → Puts s6 s7 id node → Copies g s0 s7 (record { expr = id; given = c.given }) (GenericPar p xs a ys b q)
par_made g s0 s1 s2 s3 s4 s5 s6 s7 len id v w c node p xs ys a b q h i known is first second j e tree makes =
    let middle = bind_forms xs (list_results (forms_given s2 v.given)) (scope_in s2.scene) in
    let inner = bind_forms ys (list_results (forms_given s3 w.given)) (scope_in s3.scene) in
    let left = copied_stays g s0 s1 s2 v a h i.stays in
    let right = copied_from g s0 s1 s2 w b h.stays i in
    let all = sides_there g s0 s1 s2 s3 s4 s5 s6 len middle inner v w a b h i known is first second j.stays e in
    let sc : inner ≡ bind_forms ys (bound_forms g (meaning s0.scene) (scope_in s0.scene) b) (bind_forms xs (bound_forms g (meaning s0.scene) (scope_in s0.scene) a) (scope_in s0.scene)) =
    ap₂ (bind_forms ys) (ap list_results (given_grows s2 s3 w.given first.grows first.parts i.met ∙ right.forms)) (first.scope ∙ ap₂ (bind_forms xs) (ap list_results left.forms) left.stays.keeps.scope) in
    let body = body_is g s0 s2 s4 s5 s6 len inner (bind_forms ys (bound_forms g (meaning s0.scene) (scope_in s0.scene) b) (bind_forms xs (bound_forms g (meaning s0.scene) (scope_in s0.scene) a) (scope_in s0.scene))) c q
    left.stays (bound_again s2 s3 s4 middle inner first second) sc j e in
    node_made g s0 s6 s7 id node c.given (GenericPar p xs a ys b q) all.left.stays makes
    (tree (tree_of s6.exprs)
    ∙ ap₂ (λ k l. par_of p (only_name xs) k (tree_of s6.exprs v.expr.0) (only_name ys) l (tree_of s6.exprs w.expr.0) (tree_of s6.exprs c.expr.0)) (variables_are g s0 s6 v xs a all.left) (variables_are g s0 s6 w ys b all.right)
    ∙ ap₃ (λ k l r. par_of p (only_name xs) (copy_variables (naming s0) xs (bound_forms g (meaning s0.scene) (scope_in s0.scene) a)) k (only_name ys) (copy_variables (naming s0) ys (bound_forms g (meaning s0.scene) (scope_in s0.scene) b)) l r)
    all.left.expr all.right.expr body.expr) body.met body.forms

-- arguments

pub arguments_as : (g : GenericGlobals) (old mid new : Copier) (ids : List ExprId) (es : GenericArguments) → Stays old mid → CopiesAll g mid new ids es → CopiesAll g old new ids es
arguments_as g old mid new ids es s h = record {
  stays = stays_on old mid new s h.stays;
  inside = h.inside;
  args = h.args ∙ ap₃ (λ nm m sc. copy_all g nm m sc es) (naming_stays old mid s) s.keeps.meaning s.keeps.scope;
}

pub all_inside : (b c : ℕ) (ids : List ExprId) → b ≤ c → AllByRecursion (λ (i : ExprId). i.0 < b) ids → AllByRecursion (λ (i : ExprId). i.0 < c) ids
all_inside b c [] l h = tt
all_inside b c (i ∷ ids) l h = ((let k = h.0 in omega (arith, k, l)), all_inside b c ids l h.1)

all_same : (xs ys : List Node) (ids : List ExprId) → Grows xs ys → AllByRecursion (λ (i : ExprId). i.0 < length xs) ids → arguments_from (tree_of ys) ids ≡ arguments_from (tree_of xs) ids
all_same xs ys [] g h = refl
all_same xs ys (i ∷ ids) g h = ap₂ Argument (g.same i.0 h.0) (all_same xs ys ids g h.1)

pub arguments_stay : (g : GenericGlobals) (old mid new : Copier) (ids : List ExprId) (es : GenericArguments) → CopiesAll g old mid ids es → Stays mid new → CopiesAll g old new ids es
arguments_stay g old mid new ids es h s = record {
  stays = stays_on old mid new h.stays s;
  inside = all_inside (length mid.exprs) (length new.exprs) ids s.grows.longer h.inside;
  args = all_same mid.exprs new.exprs ids s.grows h.inside ∙ h.args;
}

-- one more argument, behind others
abbrev pub with_last : Arguments → Expression → Arguments
with_last NoArgument e = Argument e NoArgument
with_last (Argument a as') e = Argument a (with_last as' e)

abbrev pub with_generic : GenericArguments → GenericExpression → GenericArguments
with_generic GenericNoArgument e = GenericArgument e GenericNoArgument
with_generic (GenericArgument a as') e = GenericArgument a (with_generic as' e)

from_last : (f : ℕ → Expression) (ids : List ExprId) (i : ExprId) → arguments_from f (ids ++ i ∷ []) ≡ with_last (arguments_from f ids) (f i.0)
from_last f [] i = refl
from_last f (j ∷ ids) i = ap (Argument (f j.0)) (from_last f ids i)

generic_last : (f : ℕ → GenericExpression) (ids : List ExprId) (i : ExprId) → generic_from f (ids ++ i ∷ []) ≡ with_generic (generic_from f ids) (f i.0)
generic_last f [] i = refl
generic_last f (j ∷ ids) i = ap (GenericArgument (f j.0)) (generic_last f ids i)

copy_last : (g : GenericGlobals) (nm : Naming) (m : Meant) (sc : FormScope) (es : GenericArguments) (e : GenericExpression) → copy_all g nm m sc (with_generic es e) ≡ with_last (copy_all g nm m sc es) (copy g nm m sc e)
copy_last g nm m sc GenericNoArgument e = refl
copy_last g nm m sc (GenericArgument a es) e = ap (Argument (copy g nm m sc a)) (copy_last g nm m sc es e)

pub record ArgumentsCopied (g : GenericGlobals) (f : ℕ → GenericExpression) (id : ℕ) (old now : Copier) (ids rest copied : List ExprId) : Type 0 where
  pub front : List ExprId
  pub whole : front ++ rest ≡ ids
  pub below : AllByRecursion (λ (i : ExprId). i.0 < id) rest
  pub copies : CopiesAll g old now copied (generic_from f front)

pub arguments_begin : (g : GenericGlobals) (f : ℕ → GenericExpression) (id : ℕ) (old : Copier) (ids copied : List ExprId) → copied ≡ [] → AllByRecursion (λ (i : ExprId). i.0 < id) ids → ArgumentsCopied g f id old old ids ids copied
arguments_begin g f id old ids copied e h = rw e (record { front = []; whole = refl; below = h; copies = record { stays = stays_same old; inside = tt; args = refl } })

pub arguments_go : (g : GenericGlobals) (f : ℕ → GenericExpression) (id : ℕ) (old now new : Copier) (ids rest after copied more : List ExprId) (i : ExprId) (c : Copied) → rest ≡ i ∷ after → ArgumentsCopied g f id old now ids rest copied → Copies g now new c (f i.0) → more ≡ copied ++ c.expr ∷ []
    → ArgumentsCopied g f id old new ids after more
arguments_go g f id old now new ids rest after copied more i c e h one m =
    let whole = copied_from g old now new c (f i.0) h.copies.stays one in
    let kept = all_inside (length now.exprs) (length new.exprs) copied one.stays.grows.longer h.copies.inside in
    record {
      front = h.front ++ i ∷ [];
      whole = append_assoc h.front (i ∷ []) after ∙ ap (λ l. h.front ++ l) (sym e) ∙ h.whole;
      below = (subst (AllByRecursion (λ (j : ExprId). j.0 < id)) e h.below).1;
      copies = record {
        stays = whole.stays;
        inside = subst (AllByRecursion (λ (j : ExprId). j.0 < length new.exprs)) (sym m) (both_inside copied c.expr kept whole.inside);
        args = ap (arguments_from (tree_of new.exprs)) m ∙ from_last (tree_of new.exprs) copied c.expr
            ∙ ap₂ with_last (all_same now.exprs new.exprs copied one.stays.grows h.copies.inside ∙ h.copies.args) whole.expr
            ∙ sym (ap (copy_all g (naming old) (meaning old.scene) (scope_in old.scene)) (generic_last f h.front i) ∙ copy_last g (naming old) (meaning old.scene) (scope_in old.scene) (generic_from f h.front) (f i.0));
      };
    } where
      both_inside : (xs : List ExprId) (x : ExprId) → AllByRecursion (λ (j : ExprId). j.0 < length new.exprs) xs → x.0 < length new.exprs → AllByRecursion (λ (j : ExprId). j.0 < length new.exprs) (xs ++ x ∷ [])
      both_inside [] x q l = (l, tt)
      both_inside (y ∷ xs) x q l = (q.0, both_inside xs x q.1 l)

pub arguments_over : (g : GenericGlobals) (f : ℕ → GenericExpression) (id : ℕ) (old now : Copier) (ids rest copied : List ExprId) → rest ≡ [] → ArgumentsCopied g f id old now ids rest copied → CopiesAll g old now copied (generic_from f ids)
arguments_over g f id old now ids rest copied e h = subst (λ l. CopiesAll g old now copied (generic_from f l)) (sym (append-nil h.front) ∙ ap (λ l. h.front ++ l) (sym e) ∙ h.whole) h.copies

-- the parts of a tuple, with their types

pub record TupleCopied (g : GenericGlobals) (f : ℕ → GenericExpression) (id : ℕ) (old now : Copier) (parts rest copied : List ExprId) (types : List TypeId) : Type 0 where
  pub all : ArgumentsCopied g f id old now parts rest copied
  pub below : AreBelow (length now.scene.types) types
  pub forms : listed (forms now.scene) types ≡ forms_of_all g (meaning old.scene) (scope_in old.scene) (generic_from f all.front)

pub tuple_begin : (g : GenericGlobals) (f : ℕ → GenericExpression) (id : ℕ) (old : Copier) (parts copied : List ExprId) (types : List TypeId) → copied ≡ [] → types ≡ [] → AllByRecursion (λ (i : ExprId). i.0 < id) parts → TupleCopied g f id old old parts parts copied types
tuple_begin g f id old parts copied types e k h = rw e (rw k (record {
  all = record { front = []; whole = refl; below = h; copies = record { stays = stays_same old; inside = tt; args = refl } };
  below = tt;
  forms = refl;
}))

forms_last : (g : GenericGlobals) (m : Meant) (sc : FormScope) (es : GenericArguments) (e : GenericExpression) → forms_of_all g m sc (with_generic es e) ≡ forms_of_all g m sc es ++ form_of g m sc e ∷ []
forms_last g m sc GenericNoArgument e = refl
forms_last g m sc (GenericArgument a es) e = ap (λ l. form_of g m sc a ∷ l) (forms_last g m sc es e)

pub tuple_go : (g : GenericGlobals) (f : ℕ → GenericExpression) (id : ℕ) (old now mid new : Copier) (parts rest after copied more : List ExprId) (types further : List TypeId) (i : ExprId) (c : Copied) (t : TypeId) → rest ≡ i ∷ after → TupleCopied g f id old now parts rest copied types
    → Copies g now mid c (f i.0) → Meets mid new t (one_form (forms_given mid c.given)) → more ≡ copied ++ c.expr ∷ [] → further ≡ types ++ t ∷ [] → TupleCopied g f id old new parts after more further
unfolding arguments_go
tuple_go g f id old now mid new parts rest after copied more types further i c t e h one met m n' =
    let whole = copied_from g old now mid c (f i.0) h.all.copies.stays one in
    let wider : length now.scene.types ≤ length new.scene.types = (let l = one.stays.keeps.longer in let k = met.stays.keeps.longer in omega (arith, l, k)) in
    let grown = types_grow_on now.scene.types mid.scene.types new.scene.types one.stays.keeps.grows met.stays.keeps.grows in
    record {
      all = arguments_go g f id old now new parts rest after copied more i c e h.all (copied_stays g now mid new c (f i.0) one met.stays) m;
      below = subst (AreBelow (length new.scene.types)) (sym n') (below_push (length new.scene.types) types t (below_more (length now.scene.types) (length new.scene.types) types wider h.below) met.below);
      forms = ap (listed (forms new.scene)) n' ∙ listed_push (forms new.scene) types t
          ∙ ap₂ (λ (l : List Form) (u : Form). l ++ u ∷ []) (listed_grow now.scene.types new.scene.types types grown h.below ∙ h.forms) (one_met g old mid new c (f i.0) t whole met)
          ∙ sym (ap (forms_of_all g (meaning old.scene) (scope_in old.scene)) (generic_last f h.all.front i) ∙ forms_last g (meaning old.scene) (scope_in old.scene) (generic_from f h.all.front) (f i.0));
    }

pub tuple_over : (g : GenericGlobals) (f : ℕ → GenericExpression) (id : ℕ) (old now : Copier) (parts rest copied : List ExprId) (types : List TypeId) → rest ≡ [] → TupleCopied g f id old now parts rest copied types → CopiesTuple g old now copied types (generic_from f parts)
tuple_over g f id old now parts rest copied types e h =
    subst (λ l. CopiesTuple g old now copied types (generic_from f l)) (sym (append-nil h.all.front) ∙ ap (λ l. h.all.front ++ l) (sym e) ∙ h.all.whole)
    (record { all = h.all.copies; below = h.below; forms = h.forms })

pub tuple_made : (g : GenericGlobals) (s0 s1 s2 s3 : Copier) (id : ExprId) (given : ResultIds) (copied : Vec ExprId) (types us vs : List TypeId) (names : Vec TypeName) (p : Span) (es : GenericArguments) → CopiesTuple g s0 s1 copied.items types es
    → us ≡ types → names.items ≡ map (name_of_form (naming s1) p) (listed (forms s1.scene) us) → vs ≡ types → Gives s1 s2 given (Several (listed (forms s1.scene) vs)) → Puts s2 s3 id (n.Tuple p names copied) → Copies g s0 s3 (record { expr = id; given = given }) (GenericTuple p es)
tuple_made g s0 s1 s2 s3 id given copied types us vs names p es h e is e' r w =
    let args_are = arguments_stay g s0 s1 s2 copied.items es h.all r.stays in
    node_made g s0 s2 s3 id (n.Tuple p names copied) given (GenericTuple p es) args_are.stays w
    (ap₂ (Tuple p) (is ∙ ap₂ (λ k l. map (name_of_form k p) l) (naming_stays s0 s1 h.all.stays) (ap (listed (forms s1.scene)) e ∙ h.forms)) args_are.args)
    r.met (r.forms ∙ ap Several (ap (listed (forms s1.scene)) e' ∙ h.forms))

-- calls and constructors

abbrev pub forms_from : List Form → Forms
forms_from [] = NoForm
forms_from (f ∷ fs) = MoreForms f (forms_from fs)

from_listed : (fs : List Form) (ids : List TypeId) → forms_from (listed fs ids) ≡ forms_at fs ids
from_listed fs [] = refl
from_listed fs (i ∷ ids) = ap (MoreForms (form_at fs i.0)) (from_listed fs ids)

from_formed : (m : Meant) (st : List WrittenType) → forms_from (map (formed m) st) ≡ formed_all m (all_types st)
from_formed m [] = refl
from_formed m (w ∷ st) = ap (MoreForms (formed m w)) (from_formed m st)

types_formed : (fs : List Form) (ids : List TypeId) (m : Meant) (st : List WrittenType) → listed fs ids ≡ map (formed m) st → forms_at fs ids ≡ formed_all m (all_types st)
types_formed fs ids m st e = sym (from_listed fs ids) ∙ ap forms_from e ∙ from_formed m st

pub types_below : (a b : Copier) (ts us : List TypeId) → Stays a b → us ≡ ts → AreBelow (length a.scene.types) ts → AreBelow (length b.scene.types) us
types_below a b ts us s e h = subst (AreBelow (length b.scene.types)) (sym e) (below_more (length a.scene.types) (length b.scene.types) ts s.keeps.longer h)

-- a name that a use gets
use_named : (s0 s1 : Copier) (ts us : List TypeId) (f x : Ident) (ws : WrittenTypes) → Stays s0 s1 → forms_at (forms s1.scene) ts ≡ formed_all (meaning s0.scene) ws → us ≡ ts → x ≡ renamed f (number_with s1.base (names_in s1.scene) (number_of f) (forms_at (forms s1.scene) us))
    → x ≡ renamed f (number_with s0.base (names_in s0.scene) (number_of f) (formed_all (meaning s0.scene) ws))
use_named s0 s1 ts us f x ws s types e is = is ∙ ap₃ (λ b ns t. renamed f (number_with b ns (number_of f) t)) s.base s.keeps.names (ap (forms_at (forms s1.scene)) e ∙ types)

pub call_made : (g : GenericGlobals) (all words : List Word) (run : Run) (s0 s1 s2 s3 s4 : Copier) (ts us vs : List TypeId) (f x : Ident) (args : Vec ExprId) (id : ExprId) (given : ResultIds) (es : GenericArguments) → words ≡ run_words all run
    → MeetsAll s0 s1 ts (map (formed (meaning s0.scene)) (stack_of words)) → us ≡ ts → x ≡ renamed f (number_with s1.base (names_in s1.scene) (number_of f) (forms_at (forms s1.scene) us)) → CopiesAll g s1 s2 args.items es
    → vs ≡ ts → Gives s2 s3 given (results_at (generic_named g.functions (number_of f)) (forms_at (forms s2.scene) vs)) → Puts s3 s4 id (n.Call x args) → Copies g s0 s4 (record { expr = id; given = given }) (GenericCall f (types_in all run) es)
call_made g all words run s0 s1 s2 s3 s4 ts us vs f x args id given es w m e is h e' r p =
    let ws = types_in all run in
    let types : forms_at (forms s1.scene) ts ≡ formed_all (meaning s0.scene) ws = types_formed (forms s1.scene) ts (meaning s0.scene) (stack_of words) m.forms ∙ ap (λ l. formed_all (meaning s0.scene) (all_types (stack_of l))) w in
    let args_are = arguments_stay g s0 s2 s3 args.items es (arguments_as g s0 s1 s2 args.items es m.stays h) r.stays in
    let same : forms_at (forms s2.scene) vs ≡ formed_all (meaning s0.scene) ws = ap (forms_at (forms s2.scene)) e' ∙ forms_grow s1.scene.types s2.scene.types ts h.stays.keeps.grows m.below ∙ types in
    node_made g s0 s3 s4 id (n.Call x args) given (GenericCall f ws es) args_are.stays p
    (ap₂ (λ k l. Call k l) (use_named s0 s1 ts us f x ws m.stays types e is) args_are.args) r.met (r.forms ∙ ap (results_at (generic_named g.functions (number_of f))) same)

pub make_made : (g : GenericGlobals) (all words : List Word) (run : Run) (s0 s1 s2 s3 s4 : Copier) (ts us : List TypeId) (f x : Ident) (owner : ℕ) (args : Vec ExprId) (id : ExprId) (ty : TypeId) (es : GenericArguments) → words ≡ run_words all run
    → MeetsAll s0 s1 ts (map (formed (meaning s0.scene)) (stack_of words)) → us ≡ ts → x ≡ renamed f (number_with s1.base (names_in s1.scene) (number_of f) (forms_at (forms s1.scene) us)) → CopiesAll g s1 s2 args.items es
    → owner ≡ owner_named g.rows (place_named g.rows (number_of f)) → Meets s2 s3 ty (DataForm owner (forms_at (forms s2.scene) ts)) → Puts s3 s4 id (n.Make x args) → Copies g s0 s4 (record { expr = id; given = ids.One ty }) (GenericMake f (types_in all run) es)
make_made g all words run s0 s1 s2 s3 s4 ts us f x owner args id ty es w m e is h o r p =
    let ws = types_in all run in
    let types : forms_at (forms s1.scene) ts ≡ formed_all (meaning s0.scene) ws = types_formed (forms s1.scene) ts (meaning s0.scene) (stack_of words) m.forms ∙ ap (λ l. formed_all (meaning s0.scene) (all_types (stack_of l))) w in
    let args_are = arguments_stay g s0 s2 s3 args.items es (arguments_as g s0 s1 s2 args.items es m.stays h) r.stays in
    let same : forms_at (forms s2.scene) ts ≡ formed_all (meaning s0.scene) ws = forms_grow s1.scene.types s2.scene.types ts h.stays.keeps.grows m.below ∙ types in
    node_made g s0 s3 s4 id (n.Make x args) (ids.One ty) (GenericMake f ws es) args_are.stays p
    (ap₂ (λ k l. Make k l) (use_named s0 s1 ts us f x ws m.stays types e is) args_are.args) r.below (ap One (r.form ∙ ap₂ DataForm o same))

pub arguments_below : (g : GenericGlobals) (s1 s2 s3 : Copier) (ids : List ExprId) (es : GenericArguments) → CopiesAll g s1 s2 ids es → Stays s2 s3 → AllByRecursion (λ (i : ExprId). i.0 < length s3.exprs) ids
arguments_below g s1 s2 s3 ids es h s = all_inside (length s2.exprs) (length s3.exprs) ids s.grows.longer h.inside

-- arms

pub arm_made : (g : GenericGlobals) (s0 s1 s2 s3 : Copier) (len : ℕ) (arm from : Arm) (c : Copied) (e : GenericExpression) (variables : List Ident) (ts : Forms) → IsScenery s0.scene → len ≡ length s0.scene.scope → variables ≡ from.variables.items
    → Binds s0 s1 (bind_forms variables (forms_named g.rows (place_named g.rows (number_of from.constructor)) ts) (scope_in s0.scene)) → Copies g s1 s2 c e → Leaves s2 s3 len
    → arm.constructor ≡ renamed from.constructor (number_with s0.base (names_in s0.scene) (number_of from.constructor) ts) → arm.variables.items ≡ from.variables.items → arm.body ≡ c.expr → CopiesArm g s0 s3 arm c.given from e ts
arm_made g s0 s1 s2 s3 len arm from c e variables ts known is vs bound h back k v b =
    let inner = arm_scope g (scope_in s0.scene) from ts in
    let binds : Binds s0 s1 inner = subst (λ l. Binds s0 s1 (bind_forms l (forms_named g.rows (place_named g.rows (number_of from.constructor)) ts) (scope_in s0.scene))) vs bound in
    record {
      stays = left_scope s0 s1 s2 s3 len inner known is binds h.stays back;
      is = record {
        inside = subst (λ (i : ExprId). i.0 < length s3.exprs) (sym b) (left_inside s2 s3 len c.expr back h.inside);
        constructor = k;
        variables = v;
        expr = ap (λ (i : ExprId). tree_of s3.exprs i.0) b ∙ left_tree s2 s3 len c.expr back ∙ h.expr ∙ ap₃ (λ nm m sc. copy g nm m sc e) (naming_binds s0 s1 inner binds) binds.meaning binds.scope;
      };
      met = left_met s2 s3 len c.given back h.met;
      forms = left_given s2 s3 len c.given back ∙ h.forms ∙ ap₂ (λ m sc. results_of g m sc e) binds.meaning binds.scope;
    }

arm_from : (g : GenericGlobals) (old mid : Copier) (xs : List Node) (arm from : Arm) (e : GenericExpression) (ts : Forms) → Stays old mid → ArmIs g mid xs arm from e ts → ArmIs g old xs arm from e ts
arm_from g old mid xs arm from e ts s h = record {
  inside = h.inside;
  constructor = h.constructor ∙ ap (λ (nm : Naming). renamed from.constructor (nm.constructors (number_of from.constructor) ts)) (naming_stays old mid s);
  variables = h.variables;
  expr = h.expr ∙ ap₃ (λ nm m sc. copy g nm m (arm_scope g sc from ts) e) (naming_stays old mid s) s.keeps.meaning s.keeps.scope;
}

arm_keeps : (g : GenericGlobals) (old : Copier) (xs ys : List Node) (arm from : Arm) (e : GenericExpression) (ts : Forms) → Grows xs ys → ArmIs g old xs arm from e ts → ArmIs g old ys arm from e ts
arm_keeps g old xs ys arm from e ts w h = record {
  inside = (let l = h.inside in let m = w.longer in omega (arith, l, m));
  constructor = h.constructor;
  variables = h.variables;
  expr = w.same arm.body.0 h.inside ∙ h.expr;
}

arms_from_start : (g : GenericGlobals) (f : ℕ → GenericExpression) (old mid : Copier) (xs : List Node) (ts : Forms) (as' bs : List Arm) → Stays old mid → ArmsAre g f mid xs ts as' bs → ArmsAre g f old xs ts as' bs
arms_from_start g f old mid xs ts [] [] s h = tt
arms_from_start g f old mid xs ts [] (b ∷ bs) s h = absurd h
arms_from_start g f old mid xs ts (a ∷ as') [] s h = absurd h
arms_from_start g f old mid xs ts (a ∷ as') (b ∷ bs) s h = (arm_from g old mid xs a b (f b.body.0) ts s h.0, arms_from_start g f old mid xs ts as' bs s h.1)

arms_keep : (g : GenericGlobals) (f : ℕ → GenericExpression) (old : Copier) (xs ys : List Node) (ts : Forms) (as' bs : List Arm) → Grows xs ys → ArmsAre g f old xs ts as' bs → ArmsAre g f old ys ts as' bs
arms_keep g f old xs ys ts [] [] w h = tt
arms_keep g f old xs ys ts [] (b ∷ bs) w h = absurd h
arms_keep g f old xs ys ts (a ∷ as') [] w h = absurd h
arms_keep g f old xs ys ts (a ∷ as') (b ∷ bs) w h = (arm_keeps g old xs ys a b (f b.body.0) ts w h.0, arms_keep g f old xs ys ts as' bs w h.1)

arms_last : (g : GenericGlobals) (f : ℕ → GenericExpression) (old : Copier) (xs : List Node) (ts : Forms) (as' bs : List Arm) (a b : Arm) → ArmsAre g f old xs ts as' bs → ArmIs g old xs a b (f b.body.0) ts → ArmsAre g f old xs ts (as' ++ a ∷ []) (bs ++ b ∷ [])
arms_last g f old xs ts [] [] a b h i = (i, tt)
arms_last g f old xs ts [] (y ∷ bs) a b h i = absurd h
arms_last g f old xs ts (x ∷ as') [] a b h i = absurd h
arms_last g f old xs ts (x ∷ as') (y ∷ bs) a b h i = (h.0, arms_last g f old xs ts as' bs a b h.1 i)

-- the loop

pub record ArmsCopied (g : GenericGlobals) (f : ℕ → GenericExpression) (id : ℕ) (old now : Copier) (ts : Forms) (before copied arms rest : List Arm) : Type 0 where
  pub stays : Stays old now
  pub front : List Arm
  pub whole : front ++ rest ≡ arms
  pub below : AllByRecursion (IsGenericArmBelow id) rest
  pub made : List Arm
  pub behind : copied ≡ before ++ made
  pub each : ArmsAre g f old now.exprs ts made front

pub arms_begin : (g : GenericGlobals) (f : ℕ → GenericExpression) (id : ℕ) (old : Copier) (ts : Forms) (before arms : List Arm) → AllByRecursion (IsGenericArmBelow id) arms → ArmsCopied g f id old old ts before before arms arms
arms_begin g f id old ts before arms h = record { stays = stays_same old; front = []; whole = refl; below = h; made = []; behind = sym (append-nil before); each = tt }

pub arms_go : (g : GenericGlobals) (f : ℕ → GenericExpression) (id : ℕ) (old now new : Copier) (ids : List TypeId) (before copied more arms rest after : List Arm) (arm from : Arm) (given : ResultIds) → rest ≡ from ∷ after → AreBelow (length old.scene.types) ids
    → ArmsCopied g f id old now (forms_at (forms old.scene) ids) before copied arms rest → CopiesArm g now new arm given from (f from.body.0) (forms_at (forms now.scene) ids) → more ≡ copied ++ arm ∷ [] → ArmsCopied g f id old new (forms_at (forms old.scene) ids) before more arms after
arms_go g f id old now new ids before copied more arms rest after arm from given e low h one m =
    let ts = forms_at (forms old.scene) ids in
    let same : forms_at (forms now.scene) ids ≡ ts = forms_grow old.scene.types now.scene.types ids h.stays.keeps.grows low in
    let here : ArmIs g old new.exprs arm from (f from.body.0) ts = arm_from g old now new.exprs arm from (f from.body.0) ts h.stays (subst (λ t. ArmIs g now new.exprs arm from (f from.body.0) t) same one.is) in
    record {
      stays = stays_on old now new h.stays one.stays;
      front = h.front ++ from ∷ [];
      whole = append_assoc h.front (from ∷ []) after ∙ ap (λ l. h.front ++ l) (sym e) ∙ h.whole;
      below = (subst (AllByRecursion (IsGenericArmBelow id)) e h.below).1;
      made = h.made ++ arm ∷ [];
      behind = m ∙ ap (λ l. l ++ arm ∷ []) h.behind ∙ append_assoc before h.made (arm ∷ []);
      each = arms_last g f old new.exprs ts h.made h.front arm from (arms_keep g f old now.exprs new.exprs ts h.made h.front one.stays.grows h.each) here;
    }

pub arms_over : (g : GenericGlobals) (f : ℕ → GenericExpression) (id : ℕ) (old now : Copier) (ts : Forms) (before copied arms rest : List Arm) → rest ≡ [] → ArmsCopied g f id old now ts before copied arms rest → CopiesArms g f old now ts before copied arms
arms_over g f id old now ts before copied arms rest e h = record {
  stays = h.stays;
  more = h.made;
  whole = h.behind;
  each = subst (ArmsAre g f old now.exprs ts h.made) (sym (append-nil h.front) ∙ ap (λ l. h.front ++ l) (sym e) ∙ h.whole) h.each;
}

-- the arms as a tree are the copies of arms
arms_are : (g : GenericGlobals) (f : ℕ → GenericExpression) (old : Copier) (xs : List Node) (ts : Forms) (a b : Arm) (as' bs : List Arm) → ArmsAre g f old xs ts (a ∷ as') (b ∷ bs)
    → arms_from (tree_of xs) a as' ≡ copy_arms g (naming old) (meaning old.scene) (scope_in old.scene) ts (generic_arms f b bs)
arms_are g f old xs ts a b [] [] h = ap₃ LastArm h.0.constructor h.0.variables h.0.expr
arms_are g f old xs ts a b [] (y ∷ bs) h = absurd h.1
arms_are g f old xs ts a b (x ∷ as') [] h = absurd h.1
arms_are g f old xs ts a b (x ∷ as') (y ∷ bs) h =
    ap₃ (λ k v e. NextArm k v e (arms_from (tree_of xs) x as')) h.0.constructor h.0.variables h.0.expr
    ∙ ap (NextArm (renamed b.constructor ((naming old).constructors (number_of b.constructor) ts)) b.variables.items (copy g (naming old) (meaning old.scene) (arm_scope g (scope_in old.scene) b ts) (f b.body.0))) (arms_are g f old xs ts x y as' bs h.1)

arms_inside : (g : GenericGlobals) (f : ℕ → GenericExpression) (old : Copier) (xs : List Node) (ts : Forms) (as' bs : List Arm) → ArmsAre g f old xs ts as' bs → AllByRecursion (IsArmBelow (length xs)) as'
arms_inside g f old xs ts [] bs h = tt
arms_inside g f old xs ts (a ∷ as') [] h = absurd h
arms_inside g f old xs ts (a ∷ as') (b ∷ bs) h = (h.0.inside, arms_inside g f old xs ts as' bs h.1)

-- the type of a case is that of its first arm
case_form : (g : GenericGlobals) (m : Meant) (sc : FormScope) (ts : Forms) (f : ℕ → GenericExpression) (b : Arm) (bs : List Arm) → results_of g m (arm_scope g sc b ts) (f b.body.0) ≡ results_of_arms g m sc ts (generic_arms f b bs)
case_form g m sc ts f b [] = refl
case_form g m sc ts f b (y ∷ bs) = refl

-- all arms of a case, as from its start
pub record CaseArms (g : GenericGlobals) (f : ℕ → GenericExpression) (s0 s3 : Copier) (x : Ident) (arms : List Arm) (b : Arm) (bs : List Arm) : Type 0 where
  pub stays : Stays s0 s3
  pub arm : Arm
  pub more : List Arm
  pub whole : arms ≡ arm ∷ more
  pub each : ArmsAre g f s0 s3.exprs (arguments_of (form_or (form_in (scope_in s0.scene) (number_of x)))) (arm ∷ more) (b ∷ bs)

pub case_arms : (g : GenericGlobals) (f : ℕ → GenericExpression) (s0 s1 s2 s3 : Copier) (x : Ident) (of : TypeId) (ids us vs : List TypeId) (first b : Arm) (given : ResultIds) (one arms bs : List Arm) → Meets s0 s1 of (form_or (form_in (scope_in s0.scene) (number_of x)))
    → forms_at (forms s1.scene) ids ≡ arguments_of (form_at (forms s1.scene) of.0) → AreBelow (length s1.scene.types) ids → us ≡ ids → CopiesArm g s1 s2 first given b (f b.body.0) (forms_at (forms s1.scene) us) → one ≡ first ∷ []
    → vs ≡ ids → CopiesArms g f s2 s3 (forms_at (forms s2.scene) vs) one arms bs → CaseArms g f s0 s3 x arms b bs
case_arms g f s0 s1 s2 s3 x of ids us vs first b given one arms bs m types low e a o e' h =
    let ts = arguments_of (form_or (form_in (scope_in s0.scene) (number_of x))) in
    let at1 : forms_at (forms s1.scene) ids ≡ ts = types ∙ ap arguments_of m.form in
    let at2 : forms_at (forms s2.scene) vs ≡ ts = ap (forms_at (forms s2.scene)) e' ∙ forms_grow s1.scene.types s2.scene.types ids a.stays.keeps.grows low ∙ at1 in
    let here : ArmIs g s0 s2.exprs first b (f b.body.0) ts = arm_from g s0 s1 s2.exprs first b (f b.body.0) ts m.stays (subst (λ t. ArmIs g s1 s2.exprs first b (f b.body.0) t) (ap (forms_at (forms s1.scene)) e ∙ at1) a.is) in
    let further : ArmsAre g f s0 s3.exprs ts h.more bs = arms_from_start g f s0 s2 s3.exprs ts h.more bs (stays_on s0 s1 s2 m.stays a.stays) (subst (λ t. ArmsAre g f s2 s3.exprs t h.more bs) at2 h.each) in
    record {
      stays = stays_on s0 s2 s3 (stays_on s0 s1 s2 m.stays a.stays) h.stays;
      arm = first;
      more = h.more;
      whole = h.whole ∙ ap (λ l. l ++ h.more) o;
      each = (arm_keeps g s0 s2.exprs s3.exprs first b (f b.body.0) ts h.stays.grows here, further);
    }

pub case_below : (g : GenericGlobals) (f : ℕ → GenericExpression) (s0 s3 : Copier) (x : Ident) (arms : List Arm) (b : Arm) (bs : List Arm) → CaseArms g f s0 s3 x arms b bs → ArmsBelow arms (length s3.exprs)
case_below g f s0 s3 x arms b bs h =
    subst (λ l. ArmsBelow l (length s3.exprs)) (sym h.whole) (arms_inside g f s0 s3.exprs (arguments_of (form_or (form_in (scope_in s0.scene) (number_of x)))) (h.arm ∷ h.more) (b ∷ bs) h.each)

pub case_made : (g : GenericGlobals) (f : ℕ → GenericExpression) (s0 s3 s4 : Copier) (p : Span) (x : Ident) (id : ExprId) (given : ResultIds) (arms : Vec Arm) (from : List Arm) (b : Arm) (bs : List Arm) → CaseArms g f s0 s3 x arms.items b bs → from ≡ b ∷ bs → AreMet s3 given
    → forms_given s3 given ≡ results_of g (meaning s0.scene) (arm_scope g (scope_in s0.scene) b (arguments_of (form_or (form_in (scope_in s0.scene) (number_of x))))) (f b.body.0) → Puts s3 s4 id (n.Case p x arms)
    → Copies g s0 s4 (record { expr = id; given = given }) (generic_case f from (GenericCase p x))
case_made g f s0 s3 s4 p x id given arms from b bs h e met forms_are w =
    let ts = arguments_of (form_or (form_in (scope_in s0.scene) (number_of x))) in
    subst (λ l. Copies g s0 s4 (record { expr = id; given = given }) (generic_case f l (GenericCase p x))) (sym e)
    (node_made g s0 s3 s4 id (n.Case p x arms) given (GenericCase p x (generic_arms f b bs)) h.stays w
    (ap (λ l. case_from (tree_of s3.exprs) l (Case p x)) h.whole ∙ ap (Case p x) (arms_are g f s0 s3.exprs ts h.arm b h.more bs h.each)) met (forms_are ∙ case_form g (meaning s0.scene) (scope_in s0.scene) ts f b bs))

-- what the first arm gives, when all are copied
pub case_type : (g : GenericGlobals) (f : ℕ → GenericExpression) (s0 s1 s2 s3 : Copier) (x : Ident) (of : TypeId) (ids us : List TypeId) (first b : Arm) (given : ResultIds) → Meets s0 s1 of (form_or (form_in (scope_in s0.scene) (number_of x)))
    → forms_at (forms s1.scene) ids ≡ arguments_of (form_at (forms s1.scene) of.0) → us ≡ ids → CopiesArm g s1 s2 first given b (f b.body.0) (forms_at (forms s1.scene) us) → Stays s2 s3
    → AreMet s3 given × (forms_given s3 given ≡ results_of g (meaning s0.scene) (arm_scope g (scope_in s0.scene) b (arguments_of (form_or (form_in (scope_in s0.scene) (number_of x))))) (f b.body.0))
case_type g f s0 s1 s2 s3 x of ids us first b given m types e a s =
    let at1 : forms_at (forms s1.scene) us ≡ arguments_of (form_or (form_in (scope_in s0.scene) (number_of x))) = ap (forms_at (forms s1.scene)) e ∙ types ∙ ap arguments_of m.form in (
      met_stays s2 s3 given s a.met,
      given_stays s2 s3 given s a.met ∙ a.forms ∙ ap₃ (λ q sc ts. results_of g q (arm_scope g sc b ts) (f b.body.0)) m.stays.keeps.meaning m.stays.keeps.scope at1,
    )

pub further_below : (id : ℕ) (arms rest : List Arm) (b : Arm) → arms ≡ b ∷ rest → GenericArmsBelow arms id → AllByRecursion (IsGenericArmBelow id) rest
further_below id arms rest b e h = (subst (λ l. GenericArmsBelow l id) e h).1
