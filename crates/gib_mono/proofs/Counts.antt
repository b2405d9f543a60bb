-- A copy has as many expressions and variables.
use Rattle.std.proofs.Common.{◌≡◌, refl, arith}
use Rattle.gib_syntax.specs.Declarations.{number_of}
use Rattle.gib_syntax.specs.Typing.{expressions, all_expressions, arm_expressions, bindings, all_bindings, arm_bindings}
use Rattle.gib_syntax.specs.Forms.{Forms, Meant}
use Rattle.gib_syntax.specs.GenericTree.{GenericExpression, GenericArguments, GenericArms, GenericVar, GenericNum, GenericBit, GenericParen, GenericOp, GenericCall, GenericMake, GenericLet, GenericPar, GenericIf, GenericCase, GenericTuple, GenericNoArgument, GenericArgument, GenericLastArm, GenericNextArm, GenericGlobals, place_named}
use Rattle.gib_syntax.specs.GenericTyping.{FormScope, form_in, generic_expressions, all_generic_expressions, arm_generic_expressions, generic_bindings, all_generic_bindings, arm_generic_bindings}
use Rattle.gib_mono.specs.Bindings.{only_name}
use Rattle.gib_mono.specs.Copying.{Naming, copy, copy_all, copy_arms, copy_variables, bound_forms, arguments_of, forms_named, bind_forms}
use Rattle.gib_types.specs.Form.{form_or}
use Rattle.gib_mono.proofs.Bindings.{let_expressions, par_expressions, let_bindings, par_bindings, variable_names, variables_long}

mutual
  pub same_expressions : (g : GenericGlobals) (nm : Naming) (m : Meant) (scope : FormScope) (e : GenericExpression) → expressions (copy g nm m scope e) ≡ generic_expressions e
  same_expressions g nm m scope (GenericVar x) = refl
  same_expressions g nm m scope (GenericNum p n) = refl
  same_expressions g nm m scope (GenericBit p b) = refl
  same_expressions g nm m scope (GenericParen p e) = same_expressions g nm m scope e
  same_expressions g nm m scope (GenericOp p f a b) = let x = same_expressions g nm m scope a in let y = same_expressions g nm m scope b in omega (arith, x, y)
  same_expressions g nm m scope (GenericCall f ws xs) = let x = all_same_expressions g nm m scope xs in omega (arith, x)
  same_expressions g nm m scope (GenericMake k ws xs) = let x = all_same_expressions g nm m scope xs in omega (arith, x)
  same_expressions g nm m scope (GenericLet p xs a b) =
      let u = same_expressions g nm m scope a in let v = same_expressions g nm m (bind_forms xs (bound_forms g m scope a) scope) b in
      let e = let_expressions p (only_name xs) (copy_variables nm xs (bound_forms g m scope a)) (copy g nm m scope a) (copy g nm m (bind_forms xs (bound_forms g m scope a) scope) b) in omega (arith, e, u, v)
  same_expressions g nm m scope (GenericPar p xs a ys b c) =
      let u = same_expressions g nm m scope a in let v = same_expressions g nm m scope b in
      let w = same_expressions g nm m (bind_forms ys (bound_forms g m scope b) (bind_forms xs (bound_forms g m scope a) scope)) c in
      let e = par_expressions p (only_name xs) (copy_variables nm xs (bound_forms g m scope a)) (copy g nm m scope a) (only_name ys) (copy_variables nm ys (bound_forms g m scope b)) (copy g nm m scope b) (copy g nm m (bind_forms ys (bound_forms g m scope b) (bind_forms xs (bound_forms g m scope a) scope)) c) in
      omega (arith, e, u, v, w)
  same_expressions g nm m scope (GenericIf p a b c) =
      let u = same_expressions g nm m scope a in let v = same_expressions g nm m scope b in let w = same_expressions g nm m scope c in omega (arith, u, v, w)
  same_expressions g nm m scope (GenericCase p x arms) = let u = arms_same_expressions g nm m scope (arguments_of (form_or (form_in scope (number_of x)))) arms in omega (arith, u)
  same_expressions g nm m scope (GenericTuple p xs) = let x = all_same_expressions g nm m scope xs in omega (arith, x)

  all_same_expressions : (g : GenericGlobals) (nm : Naming) (m : Meant) (scope : FormScope) (xs : GenericArguments) → all_expressions (copy_all g nm m scope xs) ≡ all_generic_expressions xs
  all_same_expressions g nm m scope GenericNoArgument = refl
  all_same_expressions g nm m scope (GenericArgument a xs) = let u = same_expressions g nm m scope a in let v = all_same_expressions g nm m scope xs in omega (arith, u, v)

  arms_same_expressions : (g : GenericGlobals) (nm : Naming) (m : Meant) (scope : FormScope) (ts : Forms) (arms : GenericArms) → arm_expressions (copy_arms g nm m scope ts arms) ≡ arm_generic_expressions arms
  arms_same_expressions g nm m scope ts (GenericLastArm k xs e) = same_expressions g nm m (bind_forms xs (forms_named g.rows (place_named g.rows (number_of k)) ts) scope) e
  arms_same_expressions g nm m scope ts (GenericNextArm k xs e arms) =
      let u = same_expressions g nm m (bind_forms xs (forms_named g.rows (place_named g.rows (number_of k)) ts) scope) e in let v = arms_same_expressions g nm m scope ts arms in omega (arith, u, v)

mutual
  pub same_bindings : (g : GenericGlobals) (nm : Naming) (m : Meant) (scope : FormScope) (e : GenericExpression) → bindings (copy g nm m scope e) ≡ generic_bindings e
  same_bindings g nm m scope (GenericVar x) = refl
  same_bindings g nm m scope (GenericNum p n) = refl
  same_bindings g nm m scope (GenericBit p b) = refl
  same_bindings g nm m scope (GenericParen p e) = same_bindings g nm m scope e
  same_bindings g nm m scope (GenericOp p f a b) = let x = same_bindings g nm m scope a in let y = same_bindings g nm m scope b in omega (arith, x, y)
  same_bindings g nm m scope (GenericCall f ws xs) = all_same_bindings g nm m scope xs
  same_bindings g nm m scope (GenericMake k ws xs) = all_same_bindings g nm m scope xs
  same_bindings g nm m scope (GenericLet p xs a b) =
      let u = same_bindings g nm m scope a in let v = same_bindings g nm m (bind_forms xs (bound_forms g m scope a) scope) b in let q = variables_long nm xs (bound_forms g m scope a) in
      let e = let_bindings p xs (copy_variables nm xs (bound_forms g m scope a)) (copy g nm m scope a) (copy g nm m (bind_forms xs (bound_forms g m scope a) scope) b) (variable_names nm xs (bound_forms g m scope a)) in
      omega (arith, e, u, v, q)
  same_bindings g nm m scope (GenericPar p xs a ys b c) =
      let u = same_bindings g nm m scope a in let v = same_bindings g nm m scope b in
      let w = same_bindings g nm m (bind_forms ys (bound_forms g m scope b) (bind_forms xs (bound_forms g m scope a) scope)) c in
      let q = variables_long nm xs (bound_forms g m scope a) in let o = variables_long nm ys (bound_forms g m scope b) in
      let e = par_bindings p xs ys (copy_variables nm xs (bound_forms g m scope a)) (copy_variables nm ys (bound_forms g m scope b)) (copy g nm m scope a) (copy g nm m scope b) (copy g nm m (bind_forms ys (bound_forms g m scope b) (bind_forms xs (bound_forms g m scope a) scope)) c) (variable_names nm xs (bound_forms g m scope a)) (variable_names nm ys (bound_forms g m scope b)) in
      omega (arith, e, u, v, w, q, o)
  same_bindings g nm m scope (GenericIf p a b c) =
      let u = same_bindings g nm m scope a in let v = same_bindings g nm m scope b in let w = same_bindings g nm m scope c in omega (arith, u, v, w)
  same_bindings g nm m scope (GenericCase p x arms) = arms_same_bindings g nm m scope (arguments_of (form_or (form_in scope (number_of x)))) arms
  same_bindings g nm m scope (GenericTuple p xs) = all_same_bindings g nm m scope xs

  all_same_bindings : (g : GenericGlobals) (nm : Naming) (m : Meant) (scope : FormScope) (xs : GenericArguments) → all_bindings (copy_all g nm m scope xs) ≡ all_generic_bindings xs
  all_same_bindings g nm m scope GenericNoArgument = refl
  all_same_bindings g nm m scope (GenericArgument a xs) = let u = same_bindings g nm m scope a in let v = all_same_bindings g nm m scope xs in omega (arith, u, v)

  arms_same_bindings : (g : GenericGlobals) (nm : Naming) (m : Meant) (scope : FormScope) (ts : Forms) (arms : GenericArms) → arm_bindings (copy_arms g nm m scope ts arms) ≡ arm_generic_bindings arms
  arms_same_bindings g nm m scope ts (GenericLastArm k xs e) =
      let u = same_bindings g nm m (bind_forms xs (forms_named g.rows (place_named g.rows (number_of k)) ts) scope) e in omega (arith, u)
  arms_same_bindings g nm m scope ts (GenericNextArm k xs e arms) =
      let u = same_bindings g nm m (bind_forms xs (forms_named g.rows (place_named g.rows (number_of k)) ts) scope) e in let v = arms_same_bindings g nm m scope ts arms in omega (arith, u, v)
